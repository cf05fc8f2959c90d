use Rattle.std.proofs.Common.{◌≡◌, ◌∙◌, ap, map}
use Rattle.pool_versions.specs.Pool.{ups}
use Rattle.pool_versions.proofs.Ascending.{ups_permute, ups_are_members}
use Rattle.pool_versions.proofs.service.Service.ups.Goals as goal

pub returns-clause-permutation : goal.returns-clause-permutation
returns-clause-permutation c =
    let e : c.in_ok-backends.backends.items ≡ ups c.args.self.now.members.items = c.in_ok-backends.ensures ∙ ap (map (λ m. m.backend)) (c.as_slice.ensures.value ∙ c.in_ok-members.ensures.value) in
    rw e (ups_permute c.args.self.now.members.items)

pub returns-clause-short : goal.returns-clause-short
returns-clause-short c =
    let e : c.in_ok-backends.backends.items ≡ ups c.args.self.now.members.items = c.in_ok-backends.ensures ∙ ap (map (λ m. m.backend)) (c.as_slice.ensures.value ∙ c.in_ok-members.ensures.value) in
    rw e (ups_are_members c.args.self.now.members.items)
