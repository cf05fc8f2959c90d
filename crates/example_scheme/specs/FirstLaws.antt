-- The first of a list is in it, and there is none only in an empty list.
use Rattle.std.specs.Prelude.{◌≡◌, ◌↔◌, List, [], slice_get, Contains, Some, None}
use Rattle.pool_versions.specs.declared.backend.Backend.{Backend}
use Rattle.selection.specs.PickLaws.{read_is_in, read_is_none}

pub first_is_up : (ups : List Backend) (b : Backend) → slice_get ups 0 ≡ Some b → Contains ups b
first_is_up ups b h = read_is_in ups 0 b h

pub first_is_none : (ups : List Backend) → slice_get ups 0 ≡ None ↔ ups ≡ []
first_is_none ups = read_is_none ups 0 (λ some. some)
