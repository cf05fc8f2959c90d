use Rattle.std.proofs.Common.{◌≡◌, ap, ◌∙◌}
use Rattle.std.specs.Arc.{arc_value}
use Rattle.std.proofs.lemmas.Result.{IfOk-weaker}
use Rattle.selection.specs.Readied.{Readied}
use Rattle.thread_roles.proofs.Showing.{prepared_number}
use Rattle.thread_roles.proofs.driving.next_of.Goals as goal

pub returns-in-Some : goal.returns-in-Some
returns-in-Some g c =
    let number : (arc_value c.in-Some.shared.now).number ≡ c.args.version.now.number = prepared_number c.args.version.now.number c.args.plan.prepared.now (arc_value c.in-Some.shared.now) c.in-Some.ensures in
    IfOk-weaker c.try_clone.result _ _ (λ p same. ap (λ (q : Readied g.row.S.Denot). q.number) same ∙ number) c.try_clone.ensures
