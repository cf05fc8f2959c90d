use Rattle.pool_versions.proofs.Limits.{has_ups}
use Rattle.pool_versions.proofs.catalogue.Catalogue.up_of.Goals as goal

pub returns-clause-listed : goal.returns-clause-listed
returns-clause-listed c =
    has_ups c.args.self.now c.args.number c.args.flow.now c.in-Some.version.now c.in-Some-service_of.service.now c.in_ok-ups.field-0.items
    (search c.in-Some.ensures.found) c.in-Some.ensures.limits (search c.in-Some-service_of.ensures)
    c.in_ok-ups.ensures.ascending c.in_ok-ups.ensures.permutation c.in_ok-ups.ensures.short
