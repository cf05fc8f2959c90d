-- A backend among others that ascend by name.
use Rattle.std.specs.Prelude.{Bool, false, ◌||◌, ◌==◌, nat_eq, if◌then◌else◌, List, [], ◌∷◌}
use Rattle.std.specs.Cmp.Lexicographic.{pointwise}
use Rattle.pool_versions.specs.declared.backend.Backend.{Backend}

-- a backend is among those of its name that a list begins with
abbrev pub is_at_head : Backend → List Backend → Bool
is_at_head b [] = false
is_at_head b (c ∷ cs) = if pointwise nat_eq b.name c.name then (b.addr == c.addr) || is_at_head b cs else false
