-- Who is kept, beside who is up.
use Rattle.std.proofs.Common.{◌≡◌, Bool, true, false, List, [], Some, None, refl, ap, ◌∙◌}
use Rattle.std.specs.Prelude.{◌||◌, if◌then◌else◌}
use Rattle.std.specs.List.{list_any}
use Rattle.pool_versions.specs.declared.backend.Backend.{Backend}
use Rattle.connection_table.specs.declared.table.Entry.{Entry}
use Rattle.selection.specs.Candidates.{Candidates}
use Rattle.selection.specs.Readied.{same_backend, keeps}
use Rattle.forwarder.specs.Serving.{is_up, kept}

or_none : (t : Bool) → (t || false) ≡ t
or_none true = refl
or_none false = refl

-- where nobody drains, who is up is kept, and nobody else
pub nobody_drains : (b : Backend) (ups : Candidates) → ups.draining ≡ [] → keeps b ups ≡ is_up b ups
nobody_drains b ups none = ap (λ (ds : List Backend). is_up b ups || list_any (same_backend b) ds) none ∙ or_none (is_up b ups)

pub kept_where_nobody_drains : (e : Entry) (ups : Candidates) → ups.draining ≡ [] → kept (Some e) ups ≡ (if is_up e.backend ups then Some e else None)
kept_where_nobody_drains e ups none = ap (λ (t : Bool). if t then Some e else None) (nobody_drains e.backend ups none)

-- who is up is kept
pub up_is_kept : (b : Backend) (ups : Candidates) → is_up b ups ≡ true → keeps b ups ≡ true
up_is_kept b ups up = ap (λ (t : Bool). t || list_any (same_backend b) ups.draining) up
