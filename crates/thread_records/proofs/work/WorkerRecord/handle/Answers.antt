use Rattle.std.proofs.Common.{◌∙◌, Contains, subst}
use Rattle.std.specs.Prelude.{IfSome}
use Rattle.std.specs.Arc.{arc_value}
use Rattle.thread_records.specs.Sources.{MadeOf, IsMadeOf}
use Rattle.thread_records.proofs.work.WorkerRecord.handle.Goals as goal

pub invariant_of-self : goal.invariant_of-self
invariant_of-self g c =
    let own = subst (λ o. IfSome o (λ p. (m : MadeOf g.row.S.Denot) × Contains c.self.inside.sources.items m × IsMadeOf (arc_value p) m)) c.in-Some.is c.self.invariant.2 in (
      c.handle_under.ensures.again c.self.inside.sources.items own.0 own.1 (c.deref-in-Some.ensures ∙ own.2) c.self.invariant.0,
      c.handle_under.ensures.limits ∙ c.self.invariant.1,
      c.self.invariant.2,
    )
