-- What was prepared, by the variants of a scheme and of what it prepared.
use Rattle.std.proofs.Common.{◌≡◌, ℕ, subst}
use Rattle.selection.specs.Candidates.{Candidates}
use Rattle.named_scheme.specs.declared.NamedScheme.{NamedScheme}
use Rattle.named_scheme.specs.declared.NamedChoices.{NamedChoices}
use Rattle.named_scheme.specs.Picking.{IsPreparedBy}

pub prepared_told : (s t : NamedScheme) (size : ℕ) (ups : Candidates) (p q : NamedChoices) → s ≡ t → p ≡ q → IsPreparedBy s size ups p → IsPreparedBy t size ups q
prepared_told s t size ups p q e f h = subst (λ (x : NamedScheme). IsPreparedBy x size ups q) e (subst (λ (x : NamedChoices). IsPreparedBy s size ups x) f h)
