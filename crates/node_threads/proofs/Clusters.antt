-- One more node.
use Rattle.std.proofs.Common.{◌≡◌, ◌+◌, ◌++◌, ◌∷◌, [], ℕ, List, length, map, sym, ap, ◌∙◌, subst, arith}
use Rattle.std.specs.Prelude.{Result, Ok, Err, IfOk, IfErr, MatchResult}
use Rattle.std.proofs.lemmas.List.{append-nil, append_assoc}
use Rattle.std.proofs.lemmas.List.Elements.{All-push}
use Rattle.stats_book.specs.Moves.{IsSum}
use Rattle.stats_book.specs.declared.stats.Stats.{Stats}
use Rattle.cluster_node.specs.declared.outcomes.Outcome.{Outcome}
use Rattle.thread_records.specs.Joins.{all_outcomes}
use Rattle.thread_roles.specs.Counts.{AreTotals}
use Rattle.thread_records.specs.declared.nodes.NodeRecord.{NodeRecord}
use Rattle.thread_records.specs.Paced.{AreUnmarked, NoneRefused}
use Rattle.thread_records.specs.Runs.{IsRunOf, AreRuns}
use Rattle.cluster_node.specs.Rules.{Rules}
use Rattle.cluster_node.specs.declared.packets.Packet.{Packet}
use Rattle.thread_records.specs.declared.command.Command.{Command}
use Rattle.node_threads.specs.Handed.{IsCounted}
use Rattle.node_threads.specs.Orders.{AllAsked, asked_one}
use Rattle.node_threads.specs.PrivateClusters.{AreNumbered, AreCounted}
use Rattle.node_threads.proofs.Totals.{totals_more}

pub numbered_more : (k m : ℕ) (ns : List ℕ) → AreNumbered k ns → m ≡ k + length ns → AreNumbered k (ns ++ m ∷ [])
numbered_more k m [] h e = (omega (arith, e), tt)
numbered_more k m (n ∷ ns) h e = (h.0, numbered_more (k + 1) m ns h.1 (omega (arith, e)))

pub runs_more : (rules : Rules) (packets : List Packet) (ring k m : ℕ) (cs : List (List Command)) (c : List Command) (rs : List NodeRecord) (r : NodeRecord) → AreRuns rules packets ring k cs rs → m ≡ k + length cs → IsRunOf rules packets m ring c r → AreRuns rules packets ring k (cs ++ c ∷ []) (rs ++ r ∷ [])
runs_more rules packets ring k m [] c [] r h e is = let same : m ≡ k = omega (arith, e) in (subst (λ (n : ℕ). IsRunOf rules packets n ring c r) same is, tt)
runs_more rules packets ring k m [] c (x ∷ xs) r h e is = absurd h
runs_more rules packets ring k m (d ∷ ds) c [] r h e is = absurd h
runs_more rules packets ring k m (d ∷ ds) c (x ∷ xs) r h e is = (h.0, runs_more rules packets ring (k + 1) m ds c xs r h.1 (omega (arith, e)) is)

outcomes_push : (rs : List NodeRecord) (r : NodeRecord) → all_outcomes (rs ++ r ∷ []) ≡ all_outcomes rs ++ r.outcomes.items
outcomes_push [] r = append-nil r.outcomes.items
outcomes_push (q ∷ qs) r = ap (λ (l : List Outcome). q.outcomes.items ++ l) (outcomes_push qs r) ∙ sym (append_assoc q.outcomes.items (all_outcomes qs) r.outcomes.items)

-- nothing is left
pub none_left : {A B : Type 0} (f : A → B) (xs : List A) (ys : List B) → length xs ≡ 0 → ys ++ map f xs ≡ ys
none_left f [] ys e = append-nil ys
none_left f (x ∷ xs) ys e = absurd (omega (arith, e))

-- one more node's run, and its totals
pub counted_more : {S H : Type 0} (rules : Rules) (all : AllAsked S H) (m : ℕ) (cs : List (List Command)) (c : List Command) (rs new : List NodeRecord) (r : NodeRecord) (had own both : Stats) →
    AreCounted rules all cs rs had → m ≡ length cs → IsCounted rules (asked_one all m c) r own → new ≡ rs ++ r ∷ [] → IsSum had own both → AreCounted rules all (cs ++ c ∷ []) new both
counted_more rules all m cs c rs new r had own both h len is items put = record {
  runs = subst (λ (l : List NodeRecord). AreRuns rules all.packets all.ring 0 (cs ++ c ∷ []) l) (sym items) (runs_more rules all.packets all.ring 0 m cs c rs r h.runs (omega (arith, len)) is.run);
  counts = λ read. subst (λ (os : List Outcome). AreTotals both os) (sym (ap all_outcomes items ∙ outcomes_push rs r)) (totals_more (all_outcomes rs) r.outcomes.items had own both put (h.counts read) (is.counts read));
  unmarked = λ paced. subst (λ (l : List NodeRecord). NoneRefused l) (sym items) (All-push (λ (x : NodeRecord). AreUnmarked x.events.items) rs r (h.unmarked paced) (is.unmarked paced));
}

-- what an answer is by its clauses, two of them under premises
pub by_clauses : {X E : Type 0} (A B : Type 0) (P R S All : X → Type 0) (Faults : E → Type 0) (r : Result X E) → ((x : X) → P x → (A → R x) → (B → S x) → All x) → IfOk r P → (A → IfOk r R) → (B → IfOk r S) → IfErr r Faults → MatchResult r All Faults
by_clauses A B P R S All Faults (Ok x) all p s t told = all x p s t
by_clauses A B P R S All Faults (Err e) all p s t told = told
