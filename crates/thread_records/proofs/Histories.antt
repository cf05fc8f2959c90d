-- A history grows by one event.
use Rattle.std.proofs.Common.{◌≡◌, ℕ, ◌<◌, Bool, true, List, [], ◌∷◌, ◌++◌, length, map, Option, Some, None, refl, sym, ap, ◌∙◌, subst}
use Rattle.std.specs.Prelude.{◌==◌, ◌||◌, nat_lt, if◌then◌else◌, slice_get}
use Rattle.std.specs.List.{list_any}
use Rattle.std.proofs.lemmas.Bool.{eq-eqb, lt-ltb, le-ltb, and_from, and_parts}
use Rattle.forwarder.specs.declared.Choice.{Choice}
use Rattle.forwarder.specs.declared.Choice.TheVariants as choices
use Rattle.forwarder.specs.Serving.{Serving, told, told_after}
use Rattle.cluster_node.specs.declared.serving.Item.{Item}
use Rattle.cluster_node.specs.declared.serving.Taken.{Taken}
use Rattle.cluster_node.specs.declared.serving.Taken.TheVariants.{Behind, Done}
use Rattle.cluster_node.specs.declared.packets.Packet.{Packet}
use Rattle.cluster_node.specs.declared.events.Event.{Event}
use Rattle.cluster_node.specs.declared.events.Event.TheVariants.{Install, Arrive, Serve, Restart}
use Rattle.cluster_node.specs.declared.events.LogEntry.{LogEntry}
use Rattle.cluster_node.specs.declared.outcomes.Outcome.{Outcome}
use Rattle.cluster_node.specs.declared.outcomes.Outcome.TheVariants.{Refused}
use Rattle.cluster_node.specs.declared.outcomes.Reason.TheVariants.{NoNode, NoWorker, UnknownVersion}
use Rattle.cluster_node.specs.Rules.{Rules}
use Rattle.cluster_node.specs.Book.{Line, next_item, taken_of, taken}
use Rattle.cluster_node.specs.Record.{accepted, installed_of, lines_of, of_choice, of_taken, by_queue, by_lines, node_verdict}
use Rattle.cluster_node.specs.Records.{node_of, of_node}
use Rattle.cluster_core.specs.Runs.{verdict, say, verdicts, packet_of}
use Rattle.cluster_core.specs.Apart.{Popped, serving, greatest, settled}
use Rattle.cluster_core.proofs.Apart.{taken_apart}
use Rattle.handled_list.specs.declared.handled.Handled.{Handled}
use Rattle.thread_records.specs.Workers.{limits_in}
use Rattle.thread_records.specs.Works.{handling_of, serving_by, Fits}
use Rattle.thread_records.specs.Histories.{said_on, record_of, past_of, AreOf, serve_of, outcome_of, stage_after, may_follow, stage_of, is_by_lives, commands_of}
use Rattle.thread_records.specs.declared.command.Command.{Command}
use Rattle.thread_records.specs.declared.command.Command.TheVariants.{Publish, Offer}
use Rattle.thread_records.specs.declared.command.Command.TheVariants as commands
use Rattle.std.proofs.lemmas.List.{append-nil}

pub said_append : (rules : Rules) (past : List LogEntry) (packets : List Packet) (es fs : List Event) → said_on rules past packets (es ++ fs) ≡ said_on rules (said_on rules past packets es) packets fs
said_append rules past packets [] fs = refl
said_append rules past packets (e ∷ es) fs = said_append rules (say rules past e (packet_of packets e) ∷ past) packets es fs

pub verdicts_append : (rules : Rules) (past : List LogEntry) (packets : List Packet) (es fs : List Event) → verdicts rules past packets (es ++ fs) ≡ verdicts rules past packets es ++ verdicts rules (said_on rules past packets es) packets fs
verdicts_append rules past packets [] fs = refl
verdicts_append rules past packets (e ∷ es) fs = ap (λ (os : List Outcome). verdict rules past e (packet_of packets e) ∷ os) (verdicts_append rules (say rules past e (packet_of packets e) ∷ past) packets es fs)

pub are_of_append : (n : ℕ) (es fs : List Event) → AreOf n es → AreOf n fs → AreOf n (es ++ fs)
are_of_append n [] fs a b = b
are_of_append n (e ∷ es) fs a b = (a.0, are_of_append n es fs a.1 b)

pub stage_append : (k : ℕ) (es fs : List Event) → stage_of k (es ++ fs) ≡ stage_of (stage_of k es) fs
stage_append k [] fs = refl
stage_append k (e ∷ es) fs = stage_append (stage_after k e) es fs

pub by_lives_push : (k : ℕ) (es : List Event) (e : Event) → is_by_lives k es ≡ true → may_follow (stage_of k es) e ≡ true → is_by_lives k (es ++ e ∷ []) ≡ true
by_lives_push k [] e a b = and_from (may_follow k e) true b refl
by_lives_push k (d ∷ es) e a b =
    let p = and_parts (may_follow k d) (is_by_lives (stage_after k d) es) a in
    and_from (may_follow k d) (is_by_lives (stage_after k d) (es ++ e ∷ [])) p.0 (by_lives_push (stage_after k d) es e p.1 b)

-- one more event of a node, with its packet and what it comes to
pub record Grows (rules : Rules) (packets : List Packet) (n : ℕ) (es : List Event) (e : Event) (p : Option Packet) (o : Outcome) : Type 0 where
  pub told : verdicts rules [] packets (es ++ e ∷ []) ≡ verdicts rules [] packets es ++ o ∷ []
  pub past : past_of rules packets n (es ++ e ∷ []) ≡ record { event = e; packet = p; outcome = o } ∷ past_of rules packets n es

pub grows : (rules : Rules) (packets : List Packet) (n : ℕ) (es : List Event) (e : Event) (p : Option Packet) (o : Outcome) → n < rules.nodes → node_of e ≡ n → packet_of packets e ≡ p → o ≡ node_verdict rules (past_of rules packets n es) e p → Grows rules packets n es e p o
grows rules packets n es e p o there own named is =
    let R : List LogEntry = record_of rules packets es in
    let here : verdict rules R e (packet_of packets e) ≡ o =
    ap (λ (b : Bool). if b then node_verdict rules (of_node (node_of e) R) e (packet_of packets e) else Refused NoNode) (lt-ltb (node_of e) rules.nodes (subst (λ (m : ℕ). m < rules.nodes) (sym own) there))
    ∙ ap (λ (m : ℕ). node_verdict rules (of_node m R) e (packet_of packets e)) own ∙ ap (λ (q : Option Packet). node_verdict rules (of_node n R) e q) named ∙ sym is in
    record {
      told = verdicts_append rules [] packets es (e ∷ []) ∙ ap (λ (v : Outcome). verdicts rules [] packets es ++ v ∷ []) here;
      past = ap (of_node n) (said_append rules [] packets es (e ∷ []))
          ∙ ap (λ (b : Bool). if b then say rules R e (packet_of packets e) ∷ of_node n R else of_node n R) (eq-eqb (node_of e) n own)
          ∙ ap (λ (v : Outcome). record { event = e; packet = packet_of packets e; outcome = v } ∷ of_node n R) here
          ∙ ap (λ (q : Option Packet). record { event = e; packet = q; outcome = o } ∷ of_node n R) named;
    }

choice_accepted : (n w : ℕ) (i : Item) (c : Choice) → accepted (of_choice n w i c) ≡ true
choice_accepted n w i (choices.Forward b o) = refl
choice_accepted n w i choices.NoService = refl
choice_accepted n w i choices.NoBackend = refl

pub outcome_accepted : (n w : ℕ) (h : Handled) → accepted (outcome_of n w h) ≡ true
outcome_accepted n w h = choice_accepted n w h.item h.choice

-- a packet that a worker handled comes, as a serving after its earlier ones, to what was told of it
module _ (rules : Rules) (past : List LogEntry) (n w : ℕ) (items : List Item) (earlier : List Handled) (h : Handled) where
  fused : (hs : List Handled) → map (serving rules) (map handling_of hs) ≡ map (serving_by rules.ups) hs
  fused [] = refl
  fused (g ∷ hs) = ap (λ (l : List Serving). serving_by rules.ups g ∷ l) (fused hs)

  queue_done : (ls : List Line) (installed : List ℕ) (o : Option Item) → taken_of rules ls o h.version h.unstored ≡ Done h.item h.choice → taken rules ls h.version h.unstored ≡ Done h.item h.choice → list_any (λ u. u == h.version) installed ≡ true
      → by_queue rules installed ls o n w h.version h.unstored ≡ outcome_of n w h
  queue_done ls installed None e t k = absurd (cc)
  queue_done ls installed (Some i) e t k =
      ap (λ (b : Bool). if b then of_taken n w (taken rules ls h.version h.unstored) else Refused UnknownVersion) k
      ∙ ap (λ (z : Taken). of_taken n w z) t

  pub serve_is : w < rules.workers → lines_of w past ≡ settled items (map handling_of earlier) → Popped items (map handling_of earlier) → slice_get items (length (map handling_of earlier)) ≡ Some h.item
      → Fits rules.pick (limits_in rules) (λ v. list_any (λ u. u == v) (installed_of past)) rules.ups earlier h
      → outcome_of n w h ≡ node_verdict rules past (serve_of n w h) None
  serve_is there own popped next fits =
      let ls : List Line = settled items (map handling_of earlier) in
      let told_is : taken rules ls h.version h.unstored ≡ Done h.item h.choice =
      taken_apart rules items (map handling_of earlier) h.item h.version h.unstored popped next
      ∙ ap (λ (b : Bool). if b || nat_lt h.version (greatest (map handling_of earlier)) then Behind else Done h.item (told_after rules.pick rules.capacity rules.idle (told rules.pick rules.capacity rules.idle (map (serving rules) (map handling_of earlier))) (serving_by rules.ups h)).choice) (le-ltb h.version h.item.floor fits.floor)
      ∙ ap (λ (b : Bool). if b then Behind else Done h.item (told_after rules.pick rules.capacity rules.idle (told rules.pick rules.capacity rules.idle (map (serving rules) (map handling_of earlier))) (serving_by rules.ups h)).choice) (le-ltb h.version (greatest (map handling_of earlier)) fits.ascends)
      ∙ ap (λ (l : List Serving). Done h.item (told_after rules.pick rules.capacity rules.idle (told rules.pick rules.capacity rules.idle l) (serving_by rules.ups h)).choice) (fused earlier)
      ∙ ap (λ (c : Choice). Done h.item c) (sym fits.answer) in
      sym (ap (λ (l : List Line). by_lines rules (installed_of past) l n w h.version h.unstored) own
      ∙ ap (λ (b : Bool). if b then by_queue rules (installed_of past) ls (next_item ls) n w h.version h.unstored else Refused NoWorker) (lt-ltb w rules.workers there)
      ∙ queue_done ls (installed_of past) (next_item ls) told_is told_is fits.known)

pub commands_append : (es fs : List Event) → commands_of (es ++ fs) ≡ commands_of es ++ commands_of fs
commands_append [] fs = refl
commands_append (Install n v ∷ es) fs = ap (λ (l : List Command). Publish v ∷ l) (commands_append es fs)
commands_append (Arrive n k marks ∷ es) fs = ap (λ (l : List Command). Offer k ∷ l) (commands_append es fs)
commands_append (Serve n w v r ∷ es) fs = commands_append es fs
commands_append (Restart n ∷ es) fs = ap (λ (l : List Command). commands.Restart ∷ l) (commands_append es fs)

pub commands_serve : (es : List Event) (n w v : ℕ) (r : Bool) → commands_of (es ++ Serve n w v r ∷ []) ≡ commands_of es
commands_serve es n w v r = commands_append es (Serve n w v r ∷ []) ∙ append-nil (commands_of es)
