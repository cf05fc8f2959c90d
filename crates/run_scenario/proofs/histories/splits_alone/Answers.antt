use Rattle.std.proofs.Common.{◌≡◌, Bool, true, false, sym, subst, string_bytes, arith}
use Rattle.std.specs.Prelude.{IfOk}
use Rattle.std.proofs.lemmas.Grind.{common_steps}
use Rattle.run_scenario.specs.PrivateHistories.{said_by, splits_over}
use Rattle.run_scenario.proofs.histories.splits_alone.Goals as goal

pub returns : goal.returns
returns c = λ packets.
    let asked : c.args.options.splits ≡ true = grind (arith, common_steps, c.if-not-options.false) in
    subst (λ (b : Bool). IfOk c.splits_told.result (λ s. string_bytes s ≡ splits_over c.args.options.form false b c.args.scenario.now packets c.args.nodes.now)) (sym asked)
    (c.splits_told.ensures (said_by c.args.nodes.now) c.in_ok-book.ensures)
