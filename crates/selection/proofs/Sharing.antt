-- What was prepared of some backends is right for others.
use Rattle.std.proofs.Common.{◌≡◌, ℕ, ◌+◌, ◌<◌, ◌≤◌, List, [], ◌∷◌, ◌++◌, length, map, take, get_or, slice_index, subst, refl, sym, ap, ◌∙◌, arith}
use Rattle.std.proofs.lemmas.List.{take_more, take_all, length-map, get_or-map}
use Rattle.std.proofs.lemmas.List.Elements.{Contains-get_or}
use Rattle.std.proofs.lemmas.Option.{slice_get_within, slice_get-get_or}
use Rattle.maglev_table.specs.Turns.{Preference, preference_of}
use Rattle.maglev_table.specs.Weights.{weighted_maglev}
use Rattle.pool_versions.specs.declared.backend.Backend.{Backend}
use Rattle.selection.specs.Candidates.{Candidates, among}
use Rattle.selection.specs.Shared.{Weighed, Chosen, StandsFor, names_of}
use Rattle.selection.specs.Picks.{NamedTable, IsFullTable, IsEvenTable, IsTableOf, slots_among, preferences}

-- what was prepared by a scheme stands for one that it is right for
pub stands : {S P : Type 0} (is : S → ℕ → Candidates → P → Type 0) (k : Chosen S) (scheme : S) (size : ℕ) (ups : Weighed) →
    ((z : ℕ) (c : Candidates) (p : P) → is k.scheme z c p → is scheme z c p) → k.size ≡ size → k.ups ≡ ups → StandsFor is scheme size ups k
stands {S} {P} is k scheme size ups law sized those = record {
  those = those;
  right = λ (p : P) h ds.
      subst (λ (z : ℕ). is scheme z (among ups.backends ups.weights ds) p) sized
      (law k.size (among ups.backends ups.weights ds) p (subst (λ (u : Weighed). is k.scheme k.size (among u.backends u.weights ds) p) those (h ds)));
}

pub stands_itself : {S P : Type 0} (is : S → ℕ → Candidates → P → Type 0) (k : Chosen S) (scheme : S) (size : ℕ) (ups : Weighed) → k ≡ record { scheme = scheme; size = size; ups = ups } → StandsFor is scheme size ups k
stands_itself {S} {P} is k scheme size ups e = subst (λ (j : Chosen S). StandsFor is scheme size ups j) (sym e) (record { those = refl; right = λ (p : P) h. h })

name_at : (xs : List Backend) (i : ℕ) (a : Backend) (d : List ℕ) → i < length xs → a ≡ get_or xs i a → get_or (names_of xs) i d ≡ a.name
name_at xs i a d lt is = get_or-map (λ (b : Backend). b.name) xs i a d lt ∙ sym (ap (λ (b : Backend). b.name) is)

more : (xs : List Backend) (i : ℕ) (a : Backend) → i < length xs → a ≡ get_or xs i a → take (i + 1) (names_of xs) ≡ take i (names_of xs) ++ a.name ∷ []
more xs i a lt is =
    let many : length (names_of xs) ≡ length xs = length-map xs (λ (b : Backend). b.name) in
    take_more (names_of xs) i a.name (omega (arith, many, lt)) ∙ ap (λ (n : List ℕ). take i (names_of xs) ++ n ∷ []) (name_at xs i a a.name lt is)

-- one more pair of backends of the same name
pub names_more : (xs ys : List Backend) (i : ℕ) (a b : Backend) → i < length xs → i < length ys → a ≡ get_or xs i a → b ≡ get_or ys i b → take i (names_of xs) ≡ take i (names_of ys) → a.name ≡ b.name → take (i + 1) (names_of xs) ≡ take (i + 1) (names_of ys)
names_more xs ys i a b lt mt is js e f = more xs i a lt is ∙ ap (λ (l : List (List ℕ)). l ++ a.name ∷ []) e ∙ ap (λ (n : List ℕ). take i (names_of ys) ++ n ∷ []) f ∙ sym (more ys i b mt js)

-- all of them
pub names_all : (xs : List Backend) (i : ℕ) → length xs ≤ i → take i (names_of xs) ≡ names_of xs
names_all xs i le = let many : length (names_of xs) ≡ length xs = length-map xs (λ (b : Backend). b.name) in take_all i (names_of xs) (omega (arith, many, le))

length_alike : (as' bs : List Backend) → names_of as' ≡ names_of bs → length as' ≡ length bs
length_alike as' bs e = sym (length-map as' (λ (b : Backend). b.name)) ∙ ap (λ (l : List (List ℕ)). length l) e ∙ length-map bs (λ (b : Backend). b.name)

none_alike : (as' bs : List Backend) → names_of as' ≡ names_of bs → as' ≡ [] → bs ≡ []
none_alike as' [] e none = refl
none_alike [] (b ∷ bs) e none = absurd cc
none_alike (a ∷ as') (b ∷ bs) e none = absurd cc

by_names : (plain : List ℕ → ℕ) (size : ℕ) (bs : List Backend) → preferences plain size bs ≡ map (λ (n : List ℕ). preference_of plain n size) (names_of bs)
by_names plain size [] = refl
by_names plain size (b ∷ bs) = ap (λ (ps : List Preference). preference_of plain b.name size ∷ ps) (by_names plain size bs)

preferred_alike : (plain : List ℕ → ℕ) (size : ℕ) (as' bs : List Backend) → names_of as' ≡ names_of bs → preferences plain size as' ≡ preferences plain size bs
preferred_alike plain size as' bs e = by_names plain size as' ∙ ap (map (λ (n : List ℕ). preference_of plain n size)) e ∙ sym (by_names plain size bs)

-- backends of the same names have the same slots
slots_alike : (plain : List ℕ → ℕ) (size : ℕ) (as' bs : List Backend) (ws : List ℕ) → names_of as' ≡ names_of bs → slots_among plain size as' ws ≡ slots_among plain size bs ws
unfolding slots_among
slots_alike plain size [] [] ws e = refl
slots_alike plain size [] (b ∷ bs) ws e = absurd cc
slots_alike plain size (a ∷ as') [] ws e = absurd cc
slots_alike plain size (a ∷ as') (b ∷ bs) ws e = ap (λ (ps : List Preference). weighted_maglev ps ws size) (preferred_alike plain size (a ∷ as') (b ∷ bs) e)

named_table : ℕ → List Backend → List ℕ → NamedTable
named_table size ups owners = record { size = size; ups = ups; owners = owners }

full_alike : (size : ℕ) (as' bs : List Backend) (owners : List ℕ) → length as' ≡ length bs → IsFullTable (named_table size as' owners) → IsFullTable (named_table size bs owners)
unfolding named_table
full_alike size as' bs owners many h = record {
  long = h.long;
  named = λ slot within.
      let there = h.named slot within in
      let below = slice_get_within as' (slice_index owners slot) there.0 there.1 in
      let low : slice_index owners slot < length bs = omega (arith, below, many) in
      (get_or bs (slice_index owners slot) there.0, slice_get-get_or bs (slice_index owners slot) there.0 low, Contains-get_or bs (slice_index owners slot) there.0 low);
}

even_alike : (ws : List ℕ) (size : ℕ) (as' bs : List Backend) (owners : List ℕ) → length as' ≡ length bs → IsEvenTable ws (named_table size as' owners) → IsEvenTable ws (named_table size bs owners)
unfolding named_table
even_alike ws size as' bs owners many h = record {
  full = full_alike size as' bs owners many h.full;
  shares = h.shares;
  even = λ equal i j low high. h.even equal i j (omega (arith, low, many)) (omega (arith, high, many));
}

module _ (plain : List ℕ → ℕ) (size : ℕ) (as' bs : List Backend) (ws : List ℕ) (t : NamedTable) (same : names_of as' ≡ names_of bs) (h : (ds : List Backend) → IsTableOf plain size (among as' ws ds) t) where
  made : t ≡ named_table size as' (slots_among plain size as' ws)
  unfolding named_table
  made = (h []).made

  owners_made : t.owners ≡ slots_among plain size as' ws
  unfolding named_table
  owners_made = ap (λ (u : NamedTable). u.owners) made

  even_renamed : (bs ≡ [] → ⊥) → IsEvenTable ws (named_table size bs t.owners)
  even_renamed some =
      let here : IsEvenTable ws t = (h []).even (λ none. some (none_alike as' bs same none)) in
      let there : IsEvenTable ws (named_table size as' (slots_among plain size as' ws)) = subst (λ (u : NamedTable). IsEvenTable ws u) made here in
      subst (λ (os : List ℕ). IsEvenTable ws (named_table size bs os)) (sym owners_made) (even_alike ws size as' bs (slots_among plain size as' ws) (length_alike as' bs same) there)

  owners_renamed : t.owners ≡ slots_among plain size bs ws
  owners_renamed = owners_made ∙ slots_alike plain size as' bs ws same

  -- the table of backends of the same names has the same slots
  pub renamed : (ds : List Backend) → IsTableOf plain size (among bs ws ds) (record { size = size; ups = bs; owners = t.owners })
  unfolding named_table
  renamed ds = record { made = ap (named_table size bs) owners_renamed; even = even_renamed }

  pub renamed_full : (bs ≡ [] → ⊥) → IsFullTable (record { size = size; ups = bs; owners = t.owners })
  unfolding named_table
  renamed_full some = (even_renamed some).full
