-- Backends at places.
use Rattle.std.specs.Prelude.{◌≡◌, ℕ, List, Some, slice_get}
use Rattle.pool_versions.specs.declared.backend.Backend.{Backend}

-- each place of the one list is the same backend's in the other
abbrev pub Keeps : List Backend → List Backend → Type 0
Keeps old new = (k : ℕ) (b : Backend) → slice_get old k ≡ Some b → slice_get new k ≡ Some b
