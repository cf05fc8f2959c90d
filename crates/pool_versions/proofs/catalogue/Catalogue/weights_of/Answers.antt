use Rattle.pool_versions.proofs.Limits.{has_weights}
use Rattle.pool_versions.proofs.catalogue.Catalogue.weights_of.Goals as goal

pub returns-clause-listed : goal.returns-clause-listed
returns-clause-listed c =
    has_weights c.args.self.now c.args.number c.args.flow.now c.in-Some.found.now c.in-Some-service_of.service.now c.in_ok-weights.field-0.items
    (search c.in-Some.ensures.found) (search c.in-Some-service_of.ensures) c.in_ok-weights.ensures
