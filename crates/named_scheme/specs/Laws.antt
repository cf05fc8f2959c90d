-- What the picks of a scheme with a name keep.
use Rattle.std.specs.Prelude.{◌≡◌, ◌↔◌, ℕ, [], Some, None}
use Rattle.std.specs.List.{Contains}
use Rattle.five_tuple.specs.declared.Flow.{Flow}
use Rattle.hash_laws.specs.Any.{plain_of}
use Rattle.pool_versions.specs.declared.backend.Backend.{Backend}
use Rattle.selection.specs.Candidates.{Candidates}
use Rattle.selection.specs.Picks.{flow_hash}
use Rattle.selection.specs.PickLaws.{pick_at_is_up, pick_at_is_none, table_pick_is_up, table_pick_is_none}
use Rattle.named_scheme.specs.declared.NamedScheme.{NamedScheme}
use Rattle.named_scheme.specs.declared.NamedScheme.TheVariants.{Maglev, Plain, Round}
use Rattle.named_scheme.specs.Picking.{pick_of}

pub pick_is_up : (s : NamedScheme) (size : ℕ) (ups : Candidates) (x : Flow) (turn : ℕ) (b : Backend) → pick_of s size ups x turn ≡ Some b →
    Contains ups.backends b
pick_is_up (Maglev s) size ups x turn = table_pick_is_up (plain_of s.hash) size ups x
pick_is_up (Plain s) size ups x turn = pick_at_is_up ups.backends (flow_hash (plain_of s.hash) x)
pick_is_up (Round s) size ups x turn = pick_at_is_up ups.backends turn

pub pick_is_none : (s : NamedScheme) (size : ℕ) (ups : Candidates) (x : Flow) (turn : ℕ) → pick_of s size ups x turn ≡ None ↔ ups.backends ≡ []
pick_is_none (Maglev s) size ups x turn = table_pick_is_none (plain_of s.hash) size ups x
pick_is_none (Plain s) size ups x turn = pick_at_is_none ups.backends (flow_hash (plain_of s.hash) x)
pick_is_none (Round s) size ups x turn = pick_at_is_none ups.backends turn
