use Rattle.std.proofs.Common.{ℕ, ◌++◌, ◌∷◌, [], ap, ◌∙◌, sym, List, map, take, arith}
use Rattle.simulation.specs.Sent.{time_of}
use Rattle.simulation.specs.Wires.{lent_record}
use Rattle.run_records.proofs.Walks.{times_more}
use Rattle.run_scenario.proofs.orders.times_of.Goals as goal

pub loop-at-preserved : goal.loop-at-preserved
loop-at-preserved c =
    c.in_ok-push.ensures.items
    ∙ ap (λ (l : List ℕ). l ++ c.time.result ∷ []) c.loop-at.invariant
    ∙ ap (λ (t : ℕ). map time_of (take c.loop-at.at c.args.records.now) ++ t ∷ []) c.time.ensures
    ∙ sym (times_more c.args.records.now c.loop-at.at (lent_record c.at.result) (omega arith) c.at.ensures)
