-- Words that are names, and the names of those who share a table.
use Rattle.std.proofs.Common.{◌≡◌, ℕ, Bool, true, false, List, [], map, length, Option, Some, None, sym, ◌∙◌}
use Rattle.std.specs.Prelude.{unwrap_or, option_map, if◌then◌else◌}
use Rattle.std.proofs.lemmas.List.{get_or-map, length-map}
use Rattle.backend_names.specs.NameText.{is_name}
use Rattle.maglev_texts.specs.Parsing.{before_star, behind_star, weight_behind, weighed_as, weighed_name_of}
use Rattle.maglev_texts.specs.declared.weights.WeighedName.{WeighedName}
use Rattle.table_entrants.specs.Ranking.{names_of, IsRanked}
use Rattle.table_entrants.specs.declared.entrant.Entrant.{Entrant}
use Rattle.table_entrants.proofs.Ranked.{named_in_turn, many_given, many_ranked}
use Rattle.table_commands.specs.Text.{weighed_in, name_in, weight_in, entrants_of}

-- what a word is read as
weighed_as_read : (word : List ℕ) (b : Bool) (o : Option ℕ) (n : WeighedName) → (if b then option_map (weighed_as (before_star word)) o else None) ≡ Some n → n ≡ weighed_as (before_star word) (unwrap_or o 0)
weighed_as_read word false o n h = absurd cc
weighed_as_read word true None n h = absurd cc
weighed_as_read word true (Some w) n h = let e : weighed_as (before_star word) w ≡ n = cc in sym e

pub read_as : (word : List ℕ) (n : WeighedName) → weighed_name_of word ≡ Some n → n ≡ weighed_in word
read_as word n h = weighed_as_read word (is_name (before_star word)) (weight_behind (behind_star word)) n h

-- the names of the entrants are those of the words
pub names_again : (words : List (List ℕ)) → names_of (entrants_of words) ≡ map before_star words
names_again words =
    named_in_turn (name_in words) (weight_in words) (length words) (map before_star words) (length-map words before_star) (λ i l. sym (get_or-map before_star words i [] [] l))

-- as many as words
pub many_names : (words : List (List ℕ)) (es : List Entrant) → IsRanked (entrants_of words) es → length es ≡ length words
many_names words es r = many_ranked _ _ r ∙ many_given (name_in words) (weight_in words) (length words)
