use Rattle.std.proofs.Common.{◌∙◌, ap, refl}
use Rattle.pool_versions.specs.Pool.{has_double, same_service, key_of}
use Rattle.pool_versions.proofs.AfterSort.{double_mapped}
use Rattle.pool_versions.proofs.doubles.has_double_service.Goals as goal

pub returns-in-Ok : goal.returns-in-Ok
returns-in-Ok c = c.has_double_key.ensures ∙ (ap (has_double _) c.in-Ok.ensures ∙ double_mapped _ same_service key_of (λ a b. refl) c.args.services.now)
