use Rattle.std.proofs.Common.{◌<◌, ℕ, get_or}
use Rattle.pool_versions.specs.Pool.{AreWeighed}
use Rattle.pool_versions.specs.declared.service.Service.{Service}
use Rattle.pool_versions.proofs.service.weigh_all.Given as goal

abbrev pub invariant-loop-service : goal.invariant-loop-service
invariant-loop-service l = (k : ℕ) (d : Service) → k < l.service-index → AreWeighed (get_or l.services k d).members.items
