use Rattle.std.proofs.Common.{◌≡◌, ℕ, Bool, true, false, List, ap, sym, ◌∙◌, subst, string_bytes}
use Rattle.std.specs.Prelude.{IfOk}
use Rattle.json_lines.specs.Forms.{splits_as}
use Rattle.simulate_scenario.specs.Described.{lookups_in}
use Rattle.run_scenario.specs.PrivateHistories.{said_whole, splits_over}
use Rattle.run_scenario.proofs.Stripped.{same_told}
use Rattle.run_scenario.proofs.histories.Telling.before.Goals as goal

pub returns-then-self-2 : goal.returns-then-self-2
returns-then-self-2 c = λ nodes book.
    let o = c.args.self.now.options in
    let s = c.args.self.now.scenario.now in
    let packets = c.args.self.now.packets.now in
    let same : splits_as o.form (lookups_in s) (said_whole packets nodes) ≡ splits_over o.form o.places o.splits s packets nodes =
    same_told o.form (lookups_in s) packets nodes
    ∙ ap (λ (b : Bool). splits_over o.form false b s packets nodes) (sym c.if-self-2.true)
    ∙ ap (λ (b : Bool). splits_over o.form b o.splits s packets nodes) (sym c.if-self.false) in
    subst (λ (l : List ℕ). IfOk c.splits_told.result (λ t. string_bytes t ≡ l)) same
    (c.splits_told.ensures (said_whole packets nodes) (c.splits.ensures (said_whole packets nodes) book))
