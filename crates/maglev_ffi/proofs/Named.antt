-- Words that are names, and the names of those who share a table.
use Rattle.std.proofs.Common.{rules, ◌≡◌, ℕ, true, false, refl, sym, ◌∙◌, List, [], length, get_or}
use Rattle.std.proofs.lemmas.Bool.{false≢true}
use Rattle.std.specs.Prelude.{Option, Some, None, MatchOption, IsSome}
use Rattle.backend_names.specs.NameText.{is_name}
use Rattle.maglev_ffi.specs.Tables.{weight_at, entrants_of}
use Rattle.table_entrants.specs.Ranking.{names_of}
use Rattle.table_entrants.proofs.Ranked.{named_in_turn}

-- what a name is made of
pub is_made : (o : Option (List ℕ)) (t : List ℕ) → MatchOption o (is_name t ≡ false) (λ name. (name ≡ t) × (is_name t ≡ true)) → is_name t ≡ true → IsSome o
is_made None t m h = absurd (false≢true (sym m ∙ h))
is_made (Some x) t m h = search rules

-- the names of the entrants are the names
pub names_again : (names : List (List ℕ)) (weights : List ℕ) → names_of (entrants_of names weights) ≡ names
names_again names weights = named_in_turn (λ (i : ℕ). get_or names i []) (weight_at weights) (length names) names refl (λ i l. refl)
