-- The table of some backends: every slot names one of them, and their slot counts stand as their weights.
use Rattle.std.proofs.Common.{true, ◌==◌, ◌-◌, ◌%◌, inl, inr, ◌≡◌, ℕ, ◌<◌, ◌≤◌, List, [], ◌∷◌, length, slice_index, get_or, Option, Some, None, IfSome, refl, sym, subst, ◌∙◌, ap, arith}
use Rattle.std.specs.List.{All, list_any}
use Rattle.std.proofs.lemmas.Bool.{or_cases, eqb-true}
use Rattle.std.proofs.lemmas.Nat.{mod_below}
use Rattle.std.proofs.lemmas.List.FromFn.{length-map-range_with_len}
use Rattle.std.proofs.lemmas.List.{length-map}
use Rattle.std.proofs.lemmas.List.Elements.{All-map, Contains-get_or}
use Rattle.std.proofs.lemmas.Option.{slice_get-get_or}
use Rattle.backend_names.specs.Sizes.{is_table_size, table_sizes}
use Rattle.maglev_table.specs.Turns.{Preference, Owners, preference_of, IsProper, IsBalanced}
use Rattle.maglev_table.specs.Weights.{AreWeights, weighted_maglev, AreShares, AreEqual}
use Rattle.maglev_table.proofs.Shares.{weighted_shares, equal_weights_table}
use Rattle.maglev_table.proofs.Whole.{whole_shared}
use Rattle.pool_versions.specs.declared.backend.Backend.{Backend}
use Rattle.pool_versions.specs.declared.backend.Member.{Member}
use Rattle.pool_versions.specs.Pool.{ups, weights, AreWeighed}
use Rattle.pool_versions.proofs.Ascending.{as_many_weights, weights_hold}
use Rattle.selection.specs.Candidates.{among, candidates_in}
use Rattle.selection.specs.Picks.{NamedTable, IsFullTable, IsEvenTable, IsTable, IsTableOf, slots_among, table_of_ups, preferences, owners_in}
use Rattle.selection.specs.PickLaws.{maglev_below}

pub all_of_size : (plain : List ℕ → ℕ) (size : ℕ) (ups : List Backend) → All (λ p. p.size ≡ size) (preferences plain size ups)
all_of_size plain size ups = All-map (λ (p : Preference). p.size ≡ size) (λ b. preference_of plain b.name size) ups (λ k d within. refl)

full_owners : (plain : List ℕ → ℕ) (size : ℕ) (ups : List Backend) (weights owners : List ℕ) → (ups ≡ [] → ⊥) → length owners ≡ size → owners ≡ weighted_maglev (preferences plain size ups) weights size →
    IsFullTable (record { size = size; ups = ups; owners = owners })
full_owners plain size [] weights owners some long are = absurd (some refl)
full_owners plain size (b ∷ bs) weights owners some long are =
    let many : length (preferences plain size (b ∷ bs)) ≡ length (b ∷ bs) = length-map (b ∷ bs) _ in
    record {
      long = long;
      named = λ slot within.
          let low : slice_index (weighted_maglev (preferences plain size (b ∷ bs)) weights size) slot < length (preferences plain size (b ∷ bs)) = maglev_below (preferences plain size (b ∷ bs)) weights size slot (omega arith) in
          let same : slice_index owners slot ≡ slice_index (weighted_maglev (preferences plain size (b ∷ bs)) weights size) slot = ap (λ (xs : List ℕ). slice_index xs slot) are in
          let below : slice_index owners slot < length (b ∷ bs) = omega (arith, low, same, many) in
          (get_or (b ∷ bs) (slice_index owners slot) b, slice_get-get_or (b ∷ bs) (slice_index owners slot) b below, Contains-get_or (b ∷ bs) (slice_index owners slot) b below);
    }

many_lists : (plain : List ℕ → ℕ) (size : ℕ) (ups : List Backend) → length (preferences plain size ups) ≡ length ups
many_lists plain size ups = length-map ups _

even_owners : (plain : List ℕ → ℕ) (size : ℕ) (ups : List Backend) (weights owners : List ℕ) → (ups ≡ [] → ⊥) → length owners ≡ size → owners ≡ weighted_maglev (preferences plain size ups) weights size →
    AreShares weights owners → (AreEqual weights → IsBalanced (length (preferences plain size ups)) owners) → IsEvenTable weights (record { size = size; ups = ups; owners = owners })
even_owners plain size ups weights owners some long are shares even = record {
  full = full_owners plain size ups weights owners some long are;
  shares = shares;
  even = λ equal i j low high. even equal i j (omega (arith, low, many_lists plain size ups)) (omega (arith, high, many_lists plain size ups));
}

no_backends : (plain : List ℕ → ℕ) (size : ℕ) (ups : List Backend) → preferences plain size ups ≡ [] → ups ≡ []
no_backends plain size [] e = refl
no_backends plain size (b ∷ bs) e = absurd cc

listed_slots : (plain : List ℕ → ℕ) (size : ℕ) (ups : List Backend) (weights : List ℕ) → (ups ≡ [] → ⊥) → weighted_maglev (preferences plain size ups) weights size ≡ slots_among plain size ups weights
unfolding slots_among
listed_slots plain size [] weights some = absurd (some refl)
listed_slots plain size (b ∷ bs) weights some = refl

no_slots : (plain : List ℕ → ℕ) (size : ℕ) (ups : List Backend) (weights : List ℕ) → ups ≡ [] → [] ≡ slots_among plain size ups weights
unfolding slots_among
no_slots plain size [] weights e = refl
no_slots plain size (b ∷ bs) weights e = absurd cc

owners_of_table : (plain : List ℕ → ℕ) (size : ℕ) (ups : List Backend) (weights : List ℕ) (o : Option Owners) → (o ≡ None → preferences plain size ups ≡ []) → IfSome o (IsTable (preferences plain size ups) weights size) → owners_in o ≡ slots_among plain size ups weights
owners_of_table plain size ups weights None none some = no_slots plain size ups weights (no_backends plain size ups (none refl))
owners_of_table plain size ups weights (Some t) none some = some.owners_are ∙ listed_slots plain size ups weights (λ (e : ups ≡ []). some.some (ap (preferences plain size) e))

named_table : ℕ → List Backend → List ℕ → NamedTable
named_table size ups owners = record { size = size; ups = ups; owners = owners }

pub even_table : (plain : List ℕ → ℕ) (size : ℕ) (ups : List Backend) (weights : List ℕ) (o : Option Owners) → (o ≡ None → preferences plain size ups ≡ []) → IfSome o (IsTable (preferences plain size ups) weights size) → (ups ≡ [] → ⊥) → IsEvenTable weights (record { size = size; ups = ups; owners = owners_in o })
even_table plain size ups weights None none some any = absurd (any (no_backends plain size ups (none refl)))
even_table plain size ups weights (Some t) none some any = even_owners plain size ups weights t.owners any some.long some.owners_are some.shares some.balanced

pub is_table_of : (plain : List ℕ → ℕ) (size : ℕ) (ups : List Backend) (weights : List ℕ) (o : Option Owners) → (o ≡ None → preferences plain size ups ≡ []) → IfSome o (IsTable (preferences plain size ups) weights size) →
    (ds : List Backend) → IsTableOf plain size (among ups weights ds) (record { size = size; ups = ups; owners = owners_in o })
unfolding named_table
is_table_of plain size ups weights o none some ds = record {
  made = ap (named_table size ups) (owners_of_table plain size ups weights o none some);
  even = even_table plain size ups weights o none some;
}

-- listed sizes are neither small nor large
abbrev AreWithin : ℕ → ℕ → List ℕ → Type 0
AreWithin low high [] = Unit {0}
AreWithin low high (x ∷ xs) = (low ≤ x) × (x ≤ high) × AreWithin low high xs

any_within : (n low high : ℕ) (xs : List ℕ) → AreWithin low high xs → list_any (λ x. n == x) xs ≡ true → (low ≤ n) × (n ≤ high)
any_within n low high [] within h = absurd cc
any_within n low high (x ∷ xs) within h = elim (or_cases (n == x) (list_any (λ y. n == y) xs) h) [
  | inl here ↦ let e : n ≡ x = eqb-true n x here in (omega (arith, e, within.0), omega (arith, e, within.1))
  | inr later ↦ any_within n low high xs within.2 later
]

listed_within : (size : ℕ) → is_table_size size ≡ true → (7 ≤ size) × (size ≤ 65537)
listed_within size listed = any_within size 7 65537 table_sizes
    (omega arith, omega arith, (omega arith, omega arith, (omega arith, omega arith, (omega arith, omega arith, (omega arith, omega arith, (omega arith, omega arith, tt)))))) listed

proper_list : (plain : List ℕ → ℕ) (size : ℕ) (name : List ℕ) → is_table_size size ≡ true → 7 ≤ size → IsProper (preference_of plain name size)
proper_list plain size name listed low =
    let below : plain (107 ∷ name) % (size - 1) < size - 1 = mod_below (plain (107 ∷ name)) (size - 1) (omega arith) in
    record { listed = listed; above = omega arith; below = omega (arith, below) }

-- of each listed size the table of some backends, of as many weights, is an even one
listed_is_even : (plain : List ℕ → ℕ) (size : ℕ) (ups : List Backend) (weights : List ℕ) → is_table_size size ≡ true → length weights ≡ length ups → AreWeights weights → (ups ≡ [] → ⊥) →
    IsEvenTable weights (record { size = size; ups = ups; owners = slots_among plain size ups weights })
unfolding slots_among
listed_is_even plain size [] weights listed as_many within some = absurd (some refl)
listed_is_even plain size (b ∷ bs) weights listed as_many within some =
    let many : length (preferences plain size (b ∷ bs)) ≡ length (b ∷ bs) = length-map (b ∷ bs) _ in
    let bounds = listed_within size listed in
    let long : length weights ≡ length (preferences plain size (b ∷ bs)) = as_many ∙ sym many in
    let proper : All (λ p. IsProper p) (preferences plain size (b ∷ bs)) = All-map (λ (p : Preference). IsProper p) (λ c. preference_of plain c.name size) (b ∷ bs) (λ k d within. proper_list plain size _ listed bounds.0) in
    even_owners plain size (b ∷ bs) weights (weighted_maglev (preferences plain size (b ∷ bs)) weights size) some (length-map-range_with_len _ 0 size) refl
    (weighted_shares (preferences plain size (b ∷ bs)) weights size long (omega (arith, many)) within (all_of_size plain size (b ∷ bs)) proper)
    (λ equal. subst (λ (t : List ℕ). IsBalanced (length (preferences plain size (b ∷ bs))) t) (sym (equal_weights_table (preferences plain size (b ∷ bs)) weights size long (omega (arith, many)) within equal))
    (whole_shared (preferences plain size (b ∷ bs)) size (omega (arith, many)) (omega (arith, bounds.1)) (all_of_size plain size (b ∷ bs)) proper).1)

-- and so is that of the up members of a service
pub members_table_is_even : (plain : List ℕ → ℕ) (size : ℕ) (ms : List Member) → is_table_size size ≡ true → AreWeighed ms → (ups ms ≡ [] → ⊥) → IsEvenTable (weights ms) (table_of_ups plain size (candidates_in ms))
members_table_is_even plain size ms listed weighed some = listed_is_even plain size (ups ms) (weights ms) listed (as_many_weights ms) (weights_hold ms weighed) some
