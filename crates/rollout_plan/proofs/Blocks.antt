-- The counts of two tables, as the code puts them together.
use Rattle.std.proofs.Common.{◌≡◌, ℕ, List, ◌++◌, Result, Ok, Err, ap, ◌∙◌}
use Rattle.std.specs.Prelude.{OnOk}
use Rattle.pool_versions.specs.declared.backend.Backend.{Backend}
use Rattle.selection.specs.Picks.{NamedTable}
use Rattle.rollout_plan.specs.Counts.{changed, down, moved, drained, least}
use Rattle.rollout_plan.specs.Objects.{causes_end, counts_end}

pub counts_told : {E : Type 0} (r : Result (Unit {0}) E) (before after : NamedTable) (draining : List Backend) (c d m n l : ℕ) (old new : List ℕ) → c ≡ changed before after
    → d ≡ down before after draining → m ≡ moved before after → n ≡ drained before after draining → l ≡ least before after → OnOk r (new ≡ old ++ causes_end c d m n l)
    → OnOk r (new ≡ old ++ counts_end before after draining)
unfolding counts_end
counts_told (Err e) before after draining c d m n l old new ec ed em en el h = tt
counts_told (Ok u) before after draining c d m n l old new ec ed em en el h =
    h ∙ ap (λ (k : ℕ). old ++ causes_end k d m n l) ec
    ∙ ap (λ (k : ℕ). old ++ causes_end (changed before after) k m n l) ed
    ∙ ap (λ (k : ℕ). old ++ causes_end (changed before after) (down before after draining) k n l) em
    ∙ ap (λ (k : ℕ). old ++ causes_end (changed before after) (down before after draining) (moved before after) k l) en
    ∙ ap (λ (k : ℕ). old ++ causes_end (changed before after) (down before after draining) (moved before after) (drained before after draining) k) el
