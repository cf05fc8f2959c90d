-- A forwarder keeps a flow's backend while its entry stands and the backend is up or drains.
use Rattle.std.proofs.Common.{◌≡◌, ℕ, ◌%◌, ◌^◌, max, Bool, true, false, List, [], ◌∷◌, Option, Some, None, sym, ap, ◌∙◌}
use Rattle.std.specs.Prelude.{◌==◌, ◌||◌, nat_lt, if◌then◌else◌}
use Rattle.std.specs.List.{list_any}
use Rattle.std.proofs.lemmas.Bool.{false≢true}
use Rattle.connection_table.specs.declared.table.Entry.{Entry}
use Rattle.forwarder.specs.declared.Choice.TheVariants as choices
use Rattle.selection.specs.Candidates.{Candidates}
use Rattle.selection.specs.Readied.{keeps}
use Rattle.pool_versions.specs.declared.backend.Backend.{Backend}
use Rattle.five_tuple.specs.declared.Flow.{Flow}
use Rattle.forwarder.proofs.Draining.{up_is_kept}
use Rattle.forwarder.specs.Serving.{Pick, Serving, Reply, serve_as, told_by, told_under, asked_count, clock_of, told}
use Rattle.cluster_node.specs.declared.serving.Item.{Item}
use Rattle.cluster_node.specs.declared.serving.Taken.TheVariants as takings
use Rattle.cluster_node.specs.Book.{Line, next_item, servings, serving_under, greatest_used, taken, taken_of, told_next}
use Rattle.cluster_node.specs.declared.packets.Packet.{Packet}
use Rattle.cluster_node.specs.declared.events.Event.{Event}
use Rattle.cluster_node.specs.declared.events.Event.TheVariants.{Install, Arrive, Serve, Restart}
use Rattle.cluster_node.specs.declared.outcomes.Outcome.TheVariants.{Forward, Refused}
use Rattle.cluster_node.specs.declared.outcomes.Outcome.{Outcome}
use Rattle.cluster_node.specs.declared.outcomes.Reason.TheVariants.{NoNode, NoWorker, UnknownVersion}
use Rattle.cluster_node.specs.Rules.{Rules}
use Rattle.cluster_node.specs.declared.events.LogEntry.{LogEntry}
use Rattle.cluster_node.specs.Record.{accepted, lines_of, of_taken, of_choice, serve_verdict, installed_of, by_queue}
use Rattle.cluster_core.specs.Runs.{verdict, packet_of, say, verdicts}
use Rattle.cluster_node.specs.Records.{lines_at, of_node}
use Rattle.cluster_core.specs.Headline.{entry_at, stands_next, UpUnder, KeptUnder, Keeps, KeepsUps, Keeping, KeepingUps}

-- a serving of a flow whose entry stands with a backend that is up or drains
kept_choice : (pick : Pick) (clock : ℕ) (s : Serving) (e : Entry) (ups : Candidates) (turn : ℕ) → s.ups ≡ Some ups → keeps e.backend ups ≡ true → (serve_as pick clock s (Some e) turn).choice ≡ choices.Forward e.backend e.version
kept_choice pick clock s e ups turn u h =
    ap (λ (o : Option (Candidates)). (told_under pick clock s o (Some e) turn).choice) u
    ∙ ap (λ (b : Bool). (told_by pick clock s ups (Some e) (if b then Some e else None) turn).choice) h

module _ (rules : Rules) (past : List LogEntry) (n w v : ℕ) (r : Bool) (i : Item) (e : Entry) (up : KeptUnder rules v i.flow e.backend) where
  abbrev pub Lines : List Line
  Lines = lines_of w past

  abbrev pub Stood : Option Entry
  Stood = stands_next rules Lines (next_item Lines) i.flow

  abbrev pub Past : List Reply
  Past = told rules.pick rules.capacity rules.idle (servings rules Lines)

  abbrev pub Clock : ℕ
  Clock = max (clock_of Past) i.at

  done_keeps : stands_next rules Lines (Some i) i.flow ≡ Some e → (b : Bool) → accepted (of_taken n w (if b then takings.Behind else takings.Done i (told_next rules Lines i v r).choice)) ≡ true → of_taken n w (if b then takings.Behind else takings.Done i (told_next rules Lines i v r).choice) ≡ Forward n w i.packet i.flow e.backend e.version
  done_keeps st true a = absurd (false≢true a)
  done_keeps st false a = ap (of_choice n w i)
      (ap (λ (o : Option Entry). (serve_as rules.pick Clock (serving_under (rules.ups v) v i r) o (asked_count Past % 2 ^ 64)).choice) st
      ∙ kept_choice rules.pick Clock (serving_under (rules.ups v) v i r) e up.ups (asked_count Past % 2 ^ 64) up.known up.kept)

  taken_keeps : next_item Lines ≡ Some i → Stood ≡ Some e → accepted (of_taken n w (taken rules Lines v r)) ≡ true → of_taken n w (taken rules Lines v r) ≡ Forward n w i.packet i.flow e.backend e.version
  taken_keeps h st a =
      let f : of_taken n w (taken_of rules Lines (next_item Lines) v r) ≡ of_taken n w (taken_of rules Lines (Some i) v r) = ap (λ (o : Option Item). of_taken n w (taken_of rules Lines o v r)) h in
      let now : stands_next rules Lines (Some i) i.flow ≡ Some e = ap (λ (o : Option Item). stands_next rules Lines o i.flow) (sym h) ∙ st in
      f ∙ done_keeps now (nat_lt v i.floor || nat_lt v (greatest_used Lines)) (ap accepted (sym f) ∙ a)

  known_keeps : next_item Lines ≡ Some i → Stood ≡ Some e → (b : Bool) → accepted (if b then of_taken n w (taken rules Lines v r) else Refused UnknownVersion) ≡ true → (if b then of_taken n w (taken rules Lines v r) else Refused UnknownVersion) ≡ Forward n w i.packet i.flow e.backend e.version
  known_keeps h st true a = taken_keeps h st a
  known_keeps h st false a = absurd (false≢true a)

  worker_keeps : next_item Lines ≡ Some i → Stood ≡ Some e → (b : Bool) → accepted (if b then by_queue rules (installed_of past) Lines (next_item Lines) n w v r else Refused NoWorker) ≡ true → (if b then by_queue rules (installed_of past) Lines (next_item Lines) n w v r else Refused NoWorker) ≡ Forward n w i.packet i.flow e.backend e.version
  worker_keeps h st true a =
      let f : by_queue rules (installed_of past) Lines (next_item Lines) n w v r ≡ by_queue rules (installed_of past) Lines (Some i) n w v r = ap (λ (o : Option Item). by_queue rules (installed_of past) Lines o n w v r) h in
      f ∙ known_keeps h st (list_any (λ u. u == v) (installed_of past)) (ap accepted (sym f) ∙ a)
  worker_keeps h st false a = absurd (false≢true a)

  pub serve_keeps : next_item Lines ≡ Some i → Stood ≡ Some e → accepted (serve_verdict rules past n w v r) ≡ true → serve_verdict rules past n w v r ≡ Forward n w i.packet i.flow e.backend e.version
  serve_keeps h st a = worker_keeps h st (nat_lt w rules.workers) a

node_keeps : (rules : Rules) (past : List LogEntry) (n w v : ℕ) (r : Bool) (x : Option Packet) (i : Item) (e : Entry) → (b : Bool) → accepted (if b then serve_verdict rules (of_node n past) n w v r else Refused NoNode) ≡ true → next_item (lines_at past n w) ≡ Some i → entry_at rules past n w i.flow ≡ Some e → KeptUnder rules v i.flow e.backend → (if b then serve_verdict rules (of_node n past) n w v r else Refused NoNode) ≡ Forward n w i.packet i.flow e.backend e.version
node_keeps rules past n w v r x i e true a h st up = serve_keeps rules (of_node n past) n w v r i e up h st a
node_keeps rules past n w v r x i e false a h st up = absurd (false≢true a)

pub event_keeps : (rules : Rules) (past : List LogEntry) (e : Event) (x : Option Packet) → Keeps rules past e (verdict rules past e x)
event_keeps rules past (Install n v) x = tt
event_keeps rules past (Arrive n k marks) x = tt
event_keeps rules past (Restart n) x = tt
event_keeps rules past (Serve n w v r) x = λ i e a h st up. node_keeps rules past n w v r x i e (nat_lt n rules.nodes) a h st up

pub keeping : (rules : Rules) (past : List LogEntry) (packets : List Packet) (es : List Event) → Keeping rules past packets es (verdicts rules past packets es)
keeping rules past packets [] = tt
keeping rules past packets (e ∷ es) = (event_keeps rules past e (packet_of packets e), keeping rules (say rules past e (packet_of packets e) ∷ past) packets es)

-- who is up is kept
up_under : (rules : Rules) (v : ℕ) (x : Flow) (b : Backend) → UpUnder rules v x b → KeptUnder rules v x b
up_under rules v x b up = record { ups = up.ups; known = up.known; kept = up_is_kept b up.ups up.up }

pub event_keeps_ups : (rules : Rules) (past : List LogEntry) (e : Event) (o : Outcome) → Keeps rules past e o → KeepsUps rules past e o
event_keeps_ups rules past (Install n v) o h = tt
event_keeps_ups rules past (Arrive n k marks) o h = tt
event_keeps_ups rules past (Restart n) o h = tt
event_keeps_ups rules past (Serve n w v r) o h = λ i e a next st up. h i e a next st (up_under rules v i.flow e.backend up)

pub keeping_ups : (rules : Rules) (past : List LogEntry) (packets : List Packet) (es : List Event) (os : List Outcome) → Keeping rules past packets es os → KeepingUps rules past packets es os
keeping_ups rules past packets [] os h = tt
keeping_ups rules past packets (e ∷ es) [] h = h
keeping_ups rules past packets (e ∷ es) (o ∷ os) h = (event_keeps_ups rules past e o h.0, keeping_ups rules (record { event = e; packet = packet_of packets e; outcome = o } ∷ past) packets es os h.1)
