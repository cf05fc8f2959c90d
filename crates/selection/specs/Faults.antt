-- What a refusal to prepare says.
use Rattle.std.specs.Prelude.{ℕ, ◌<◌, List, length, ⊤}
use Rattle.pool_versions.specs.declared.backend.Backend.{Backend}
use Rattle.selection.specs.declared.scheme.PrepareFault.{PrepareFault}
use Rattle.selection.specs.declared.scheme.PrepareFault.TheVariants as fault

-- too many are more backends than slots
abbrev pub IsPrepareFault : ℕ → List Backend → PrepareFault → Type 0
IsPrepareFault size ups fault.TooMany = size < length ups
IsPrepareFault size ups fault.Memory = ⊤
