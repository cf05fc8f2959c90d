use Rattle.std.proofs.lemmas.Result.{IfOk-weaker}
use Rattle.std.specs.Arc.{arc_value}
use Rattle.selection.proofs.Sharing.{stands_itself}
use Rattle.selection.proofs.choices.Choices.make.Goals as goal

pub returns-clause-ok : goal.returns-clause-ok
returns-clause-ok g c = IfOk-weaker c.shared_by.result _ _ (λ a e. stands_itself (λ s z u p. g.S.Scheme.is_prepared s z u p) (arc_value a) c.args.scheme.now c.args.size c.args.ups e) c.shared_by.ensures.ok
