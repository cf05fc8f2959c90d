use Rattle.std.proofs.Common.{◌≡◌, ◌+◌, drop, map}
use Rattle.std.specs.List.{position_or_len}
use Rattle.pool_versions.specs.Pool.{same_key}
use Rattle.version_drafts.specs.Plain.{plain_service, plain_key}
use Rattle.scenario_pools.proofs.basing.place_of.Given as goal

abbrev pub invariant-loop-place : goal.invariant-loop-place
invariant-loop-place l = l.place + position_or_len (λ s. same_key l.key (plain_key s)) (map plain_service (drop l.place l.services)) ≡ position_or_len (λ s. same_key l.key (plain_key s)) (map plain_service l.services)
