use Rattle.std.proofs.Common.{◌≡◌, ◌<◌, ◌++◌, ◌∷◌, [], ℕ, sym, subst, ap, ◌∙◌}
use Rattle.version_board.specs.Seats.{published_by}
use Rattle.thread_roles.specs.Shown.{last_published}
use Rattle.thread_roles.specs.declared.fault.RunFault.TheVariants.{Memory}
use Rattle.thread_roles.proofs.Showing.{numbered, passed_on}
use Rattle.thread_roles.proofs.driving.show_next.Goals as goal

pub returns-in_err-publish-clause-newer : goal.returns-in_err-publish-clause-newer
returns-in_err-publish-clause-newer g c = λ known above.
    let same : c.in_ok-next.next.value.number ≡ c.args.number = c.in_ok-next.ensures ∙ numbered c.args.number c.args.plan.assignment.catalogue.now.versions c.in-Some.version.now (sym c.in-Some.ensures.found) in
    passed_on c.from_residual-in_err-publish.result c.in_err-publish.field-0.0 (λ fault. fault ≡ Memory) c.from_residual-in_err-publish.ensures.1 (c.in_err-publish.ensures.newer (subst (λ (n : ℕ). last_published c.args.desk.now.seat < n) (sym same) above))

pub returns-clause-published : goal.returns-clause-published
returns-clause-published g c =
    let same : c.in_ok-next.next.value.number ≡ c.args.number = c.in_ok-next.ensures ∙ numbered c.args.number c.args.plan.assignment.catalogue.now.versions c.in-Some.version.now (sym c.in-Some.ensures.found) in
    c.in_ok-publish.ensures.announced ∙ ap (λ (n : ℕ). published_by c.args.desk.now.seat ++ n ∷ []) same

pub returns-clause-newest : goal.returns-clause-newest
returns-clause-newest g c = c.in_ok-next.ensures ∙ numbered c.args.number c.args.plan.assignment.catalogue.now.versions c.in-Some.version.now (sym c.in-Some.ensures.found)
