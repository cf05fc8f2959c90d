use Rattle.std.proofs.Common.{◌∙◌, ap, sym}
use Rattle.std.specs.List.{All}
use Rattle.std.specs.Result.{is_ok}
use Rattle.pool_versions.specs.Pool.{fault_of, AreWeighed}
use Rattle.pool_versions.proofs.Limits.{taken_keeps}
use Rattle.pool_versions.proofs.catalogue.Catalogue.offer.Goals as goal

pub invariant_of-self : goal.invariant_of-self
invariant_of-self c =
    let weighed : All (λ s. AreWeighed s.members.items) c.args.version.services.items = rw c.as_slice.ensures.value at c.weigh_all.ensures in
    rw c.push.ensures.items (taken_keeps (record { size = c.self.inside.size; versions = c.self.inside.versions.items }) c.args.version (is_ok c.push.result) weighed c.self.invariant
    c.fault_of.result (c.fault_of.ensures ∙ ap (λ pools. fault_of pools c.args.version) (sym c.self.view_is)) c.in_default.not-Some)
