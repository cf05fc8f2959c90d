-- Servings of different workers may be written worker by worker.
use Rattle.std.proofs.Common.{◌≡◌, ℕ, ◌<◌, Bool, List, [], ◌∷◌, ◌++◌, Option, None, refl, ap, ◌∙◌}
use Rattle.std.specs.Prelude.{if◌then◌else◌}
use Rattle.std.proofs.lemmas.Bool.{lt-ltb, eq-eqb, ne_eqb}
use Rattle.std.specs.List.{All}
use Rattle.std.proofs.lemmas.List.Elements.{All-head, All-tail}
use Rattle.cluster_node.specs.Book.{Line}
use Rattle.cluster_node.specs.declared.packets.Packet.{Packet}
use Rattle.cluster_node.specs.declared.events.Event.{Event}
use Rattle.cluster_node.specs.declared.events.Event.TheVariants.{Serve}
use Rattle.cluster_node.specs.declared.outcomes.Outcome.{Outcome}
use Rattle.cluster_node.specs.declared.outcomes.Outcome.TheVariants.{Refused}
use Rattle.cluster_node.specs.declared.outcomes.Reason.TheVariants.{NoNode}
use Rattle.cluster_node.specs.Rules.{Rules}
use Rattle.cluster_node.specs.declared.events.LogEntry.{LogEntry}
use Rattle.cluster_node.specs.Record.{installed_of, lines_of, by_lines, serve_verdict, newest_of, refusals_of, placed_count}
use Rattle.cluster_core.specs.Laws.{record_after, LeavesArrivals}
use Rattle.cluster_core.specs.Runs.{verdict, say, verdicts, packet_of}
use Rattle.cluster_node.specs.Records.{lines_at, node_of, of_node}
use Rattle.cluster_core.specs.Blocks.{Ask, serves, lines_asked, own, past_after}
use Rattle.cluster_core.proofs.Apart.{serve_leaves}

-- the record of a node with one more event of it
same_node : (n : ℕ) (s : LogEntry) (past : List LogEntry) → node_of s.event ≡ n → of_node n (s ∷ past) ≡ s ∷ of_node n past
same_node n s past e = ap (λ (b : Bool). if b then s ∷ of_node n past else of_node n past) (eq-eqb (node_of s.event) n e)

module _ (rules : Rules) (n w : ℕ) (there : n < rules.nodes) where
  serve_own : (past : List LogEntry) (a : Ask) (x : Option Packet) → verdict rules past (Serve n w a.version a.refused) x ≡ by_lines rules (installed_of (of_node n past)) (lines_at past n w) n w a.version a.refused
  serve_own past a x = ap (λ (b : Bool). if b then serve_verdict rules (of_node n past) n w a.version a.refused else Refused NoNode) (lt-ltb n rules.nodes there)

  said : List LogEntry → Ask → LogEntry
  said past a = say rules past (Serve n w a.version a.refused) None

  installed_kept : (past : List LogEntry) (a : Ask) → installed_of (of_node n (say rules past (Serve n w a.version a.refused) None ∷ past)) ≡ installed_of (of_node n past)
  installed_kept past a = ap installed_of (same_node n (say rules past (Serve n w a.version a.refused) None) past refl)

  own_lines : (past : List LogEntry) (a : Ask) → lines_at (say rules past (Serve n w a.version a.refused) None ∷ past) n w ≡ lines_asked (lines_at past n w) a (verdict rules past (Serve n w a.version a.refused) None)
  own_lines past a = ap (λ (l : List LogEntry). lines_of w l) (same_node n (say rules past (Serve n w a.version a.refused) None) past refl)
      ∙ ap (λ (b : Bool). if b then lines_asked (lines_at past n w) a (verdict rules past (Serve n w a.version a.refused) None) else lines_at past n w) (eq-eqb w w refl)

  -- a worker's servings come to what its own lines say, and the rest follows the record with them
  pub block : (packets : List Packet) (past : List LogEntry) (asks : List Ask) (rest : List Event) → verdicts rules past packets (serves n w asks ++ rest) ≡ own rules (installed_of (of_node n past)) (lines_at past n w) n w asks ++ verdicts rules (past_after rules past n w asks) packets rest
  block packets past [] rest = refl
  block packets past (a ∷ asks) rest =
      let e : verdict rules past (Serve n w a.version a.refused) None ≡ by_lines rules (installed_of (of_node n past)) (lines_at past n w) n w a.version a.refused = serve_own past a None in
      let f : lines_at (say rules past (Serve n w a.version a.refused) None ∷ past) n w ≡ lines_asked (lines_at past n w) a (by_lines rules (installed_of (of_node n past)) (lines_at past n w) n w a.version a.refused) = own_lines past a ∙ ap (λ (o : Outcome). lines_asked (lines_at past n w) a o) e in
      ap (λ (o : Outcome). o ∷ verdicts rules (say rules past (Serve n w a.version a.refused) None ∷ past) packets (serves n w asks ++ rest)) e
      ∙ ap (λ (os : List Outcome). by_lines rules (installed_of (of_node n past)) (lines_at past n w) n w a.version a.refused ∷ os)
      (block packets (say rules past (Serve n w a.version a.refused) None ∷ past) asks rest
      ∙ ap (λ (vs : List ℕ). own rules vs (lines_at (say rules past (Serve n w a.version a.refused) None ∷ past) n w) n w asks ++ verdicts rules (past_after rules past n w (a ∷ asks)) packets rest) (installed_kept past a)
      ∙ ap (λ (ls : List Line). own rules (installed_of (of_node n past)) ls n w asks ++ verdicts rules (past_after rules past n w (a ∷ asks)) packets rest) f)

  -- they leave every other worker's lines
  pub block_leaves : (u : ℕ) → (w ≡ u → ⊥) → (past : List LogEntry) (asks : List Ask) → lines_at (past_after rules past n w asks) n u ≡ lines_at past n u
  block_leaves u ne past [] = refl
  block_leaves u ne past (a ∷ asks) = block_leaves u ne (say rules past (Serve n w a.version a.refused) None ∷ past) asks
      ∙ ap (λ (l : List LogEntry). lines_of u l) (same_node n (say rules past (Serve n w a.version a.refused) None) past refl)
      ∙ serve_leaves (of_node n past) n w u a.version a.refused None (verdict rules past (Serve n w a.version a.refused) None) ne

  -- and the installed versions
  pub block_installed : (past : List LogEntry) (asks : List Ask) → installed_of (of_node n (past_after rules past n w asks)) ≡ installed_of (of_node n past)
  block_installed past [] = refl
  block_installed past (a ∷ asks) = block_installed (say rules past (Serve n w a.version a.refused) None ∷ past) asks ∙ installed_kept past a

-- events of other nodes leave a node's record
pub events_leave : (rules : Rules) (packets : List Packet) (m : ℕ) (past : List LogEntry) (es : List Event) → All (λ e. node_of e ≡ m → ⊥) es → of_node m (record_after rules past packets es) ≡ of_node m past
events_leave rules packets m past [] h = refl
events_leave rules packets m past (e ∷ es) h = events_leave rules packets m (say rules past e (packet_of packets e) ∷ past) es (All-tail (λ e. node_of e ≡ m → ⊥) e es h)
    ∙ ap (λ (b : Bool). if b then say rules past e (packet_of packets e) ∷ of_node m past else of_node m past) (ne_eqb (node_of e) m (All-head (λ e. node_of e ≡ m → ⊥) e es h))

-- what a node's record has after one serving more
serving_leaves : (rules : Rules) (n w v : ℕ) (r : Bool) (past : List LogEntry) → LeavesArrivals rules (of_node n past) (of_node n (say rules past (Serve n w v r) None ∷ past))
serving_leaves rules n w v r past =
    let same : of_node n (say rules past (Serve n w v r) None ∷ past) ≡ say rules past (Serve n w v r) None ∷ of_node n past = same_node n (say rules past (Serve n w v r) None) past refl in
    record { newest = ap newest_of same; cursor = ap (refusals_of rules) same; placed = ap placed_count same }

pub block_arrivals : (rules : Rules) (n w : ℕ) (past : List LogEntry) (asks : List Ask) → LeavesArrivals rules (of_node n past) (of_node n (past_after rules past n w asks))
block_arrivals rules n w past [] = record { newest = refl; cursor = refl; placed = refl }
block_arrivals rules n w past (a ∷ asks) =
    let rest : LeavesArrivals rules (of_node n (say rules past (Serve n w a.version a.refused) None ∷ past)) (of_node n (past_after rules past n w (a ∷ asks))) = block_arrivals rules n w (say rules past (Serve n w a.version a.refused) None ∷ past) asks in
    let one : LeavesArrivals rules (of_node n past) (of_node n (say rules past (Serve n w a.version a.refused) None ∷ past)) = serving_leaves rules n w a.version a.refused past in
    record { newest = rest.newest ∙ one.newest; cursor = rest.cursor ∙ one.cursor; placed = rest.placed ∙ one.placed }
