-- What prepared versions were made from.
use Rattle.std.specs.Prelude.{◌≡◌, ℕ, Bool, true, List, [], ◌∷◌, ◌++◌, IsSomeAnd, ◌⊎◌}
use Rattle.pool_versions.specs.declared.service.Version.{Version}
use Rattle.pool_versions.specs.Pool.{Pools, version_at}
use Rattle.pool_versions.specs.Same.{AreSame}
use Rattle.selection.specs.Readied.{Readied, readied_version}
use Rattle.cluster_core.specs.Setups.{Fixed}

-- a version, and the scheme and the size for which it was prepared
pub record MadeOf (S : Type 0) : Type 0 where
  pub scheme : S
  pub size : ℕ
  pub version : Version

-- a prepared version was made from this
abbrev pub IsMadeOf : {S : Type 0} → Readied S → MadeOf S → Type 0
IsMadeOf p m = p ≡ readied_version m.scheme m.size m.version

-- the catalogue has this very version, and its scheme and size are the setup's
pub record IsFrom {S H : Type 0} (eq : S → S → Bool) (setup : Fixed S H) (pools : Pools) (m : MadeOf S) : Type 0 where
  pub scheme : eq m.scheme setup.scheme ≡ true
  pub size : m.size ≡ setup.size
  pub version : IsSomeAnd (version_at m.version.number pools.versions) (λ v. AreSame m.version v)

-- what was kept stays, and after it there may be what a prepared version was made from
abbrev pub IsMore : {S : Type 0} → Readied S → List (MadeOf S) → List (MadeOf S) → Type 0
IsMore {S} p before after = (after ≡ before) ⊎ ((m : MadeOf S) × (after ≡ before ++ m ∷ []) × IsMadeOf p m)
