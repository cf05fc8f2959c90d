-- Laws of the picks.
use Rattle.std.proofs.Common.{◌≡◌, ℕ, zero, suc, ◌%◌, ◌<◌, ◌↔◌, List, [], ◌∷◌, length, map, slice_get, slice_index, get_or, Contains, Some, None, refl, ap}
use Rattle.std.proofs.Common.{arith, unwrap_or, ◌==◌, subst}
use Rattle.std.proofs.Math.Path.{fun_ext}
use Rattle.std.specs.List.{All, range_with_len}
use Rattle.std.proofs.lemmas.Bool.{cond_both}
use Rattle.std.proofs.lemmas.List.{length-map}
use Rattle.std.proofs.lemmas.List.Elements.{All-map}
use Rattle.std.proofs.lemmas.Option.{slice_get_within, get_or_from_slice_get, slice_get-get_or}
use Rattle.five_tuple.specs.declared.Flow.{Flow}
use Rattle.maglev_table.specs.Turns.{Preference, preference_list, taker, claims, turn_of}
use Rattle.maglev_table.specs.Weights.{round_of, weighted_maglev}
use Rattle.maglev_table.proofs.Shares.{round_named}
use Rattle.pool_versions.specs.declared.backend.Backend.{Backend}
use Rattle.selection.specs.Candidates.{Candidates}
use Rattle.selection.specs.Picks.{NamedTable, IsTableOf, pick_at, flow_hash, table_pick, slots_among, preferences, slot_of_flow}

-- what is read of a list is in it
pub read_is_in : (ups : List Backend) (i : ℕ) (b : Backend) → slice_get ups i ≡ Some b → Contains ups b
read_is_in ups i b h = (i, slice_get_within ups i b h, get_or_from_slice_get ups i b b h)

-- nothing is read below the length only of an empty list
pub read_is_none : (ups : List Backend) (i : ℕ) → (0 < length ups → i < length ups) → slice_get ups i ≡ None ↔ ups ≡ []
read_is_none [] i h = (λ _. refl, λ _. refl)
read_is_none (b ∷ bs) i h =
    let below : i < length (b ∷ bs) = h (omega arith) in
    let here = slice_get-get_or (b ∷ bs) i b below in
    (λ none. cc, λ empty. cc)

pub pick_at_is_up : (ups : List Backend) (n : ℕ) (b : Backend) → pick_at ups n ≡ Some b → Contains ups b
pick_at_is_up ups n b h = read_is_in ups (n % length ups) b h

pub pick_at_is_none : (ups : List Backend) (n : ℕ) → pick_at ups n ≡ None ↔ ups ≡ []
pick_at_is_none ups n = read_is_none ups (n % length ups) (λ some. omega arith)

pub plain_pick_respects : (p q : List ℕ → ℕ) → ((message : List ℕ) → p message ≡ q message) → (ups : List Backend) (x : Flow) →
    pick_at ups (flow_hash p x) ≡ pick_at ups (flow_hash q x)
plain_pick_respects p q e ups x = ap (λ (plain : List ℕ → ℕ). pick_at ups (flow_hash plain x)) (fun_ext e)

-- each slot was taken by one of n lists
abbrev ByTurn : ℕ → List (ℕ × ℕ) → Type 0
ByTurn n [] = Unit {0}
ByTurn n (c ∷ cs) = (c.1 < n) × ByTurn n cs

taker_below : (n slot : ℕ) (cs : List (ℕ × ℕ)) → 0 < n → ByTurn n cs → unwrap_or (taker slot cs) 0 < n
taker_below n slot [] some h = some
taker_below n slot (c ∷ cs) some h = cond_both (slot == c.0) (Some c.1) (taker slot cs)
    (λ o. unwrap_or o 0 < n) (λ _. h.0) (λ _. taker_below n slot cs some h.1)

index_below : (n : ℕ) (xs : List ℕ) (i : ℕ) → 0 < n → ((k : ℕ) (d : ℕ) → k < length xs → get_or xs k d < n) → slice_index xs i < n
index_below n [] i some h = some
index_below n (x ∷ xs) zero some h = h 0 0 (omega arith)
index_below n (x ∷ xs) (suc i) some h = index_below n xs i some (λ k d within. h (suc k) d (omega arith))

-- a turn of a round is that of one of the lists, whatever is read past the round's end
named_below : (n : ℕ) (round : List ℕ) (t : ℕ) → 0 < n → All (λ who. who < n) round → turn_of round t < n
named_below n round t some all = index_below n round (t % length round) some all

claims_by_turn : (lists : List (List ℕ)) (n : ℕ) (round : List ℕ) (t : ℕ) → 0 < n → All (λ who. who < n) round → ByTurn n (claims lists round t)
unfolding claims
claims_by_turn lists n round zero some all = tt
claims_by_turn lists n round (suc t) some all = (named_below n round t some all, claims_by_turn lists n round t some all)

-- every slot of a table, listed or not, is that of one of the lists, whatever the weights are
pub maglev_below : (ps : List Preference) (weights : List ℕ) (size slot : ℕ) → 0 < length ps → slice_index (weighted_maglev ps weights size) slot < length ps
maglev_below ps weights size slot some =
    index_below (length ps) (weighted_maglev ps weights size) slot some (All-map (λ o. o < length ps)
    (λ s. unwrap_or (taker s (claims (map preference_list ps) (round_of (length ps) weights) size)) 0) (range_with_len 0 size)
    (λ k d within. taker_below (length ps) _ _ some (claims_by_turn (map preference_list ps) (length ps) (round_of (length ps) weights) size some
    (round_named (length ps) weights))))

pub table_pick_is_up : (plain : List ℕ → ℕ) (size : ℕ) (c : Candidates) (x : Flow) (b : Backend) → table_pick plain size c x ≡ Some b → Contains c.backends b
table_pick_is_up plain size c x b h = read_is_in c.backends _ b h

pub table_slots_below : (plain : List ℕ → ℕ) (size : ℕ) (ups : List Backend) (weights : List ℕ) (slot : ℕ) → 0 < length ups →
    slice_index (slots_among plain size ups weights) slot < length ups
unfolding slots_among
table_slots_below plain size [] weights slot some = absurd (omega arith)
table_slots_below plain size (b ∷ bs) weights slot some =
    let many : length (preferences plain size (b ∷ bs)) ≡ length (b ∷ bs) = length-map (b ∷ bs) _ in
    let below = maglev_below (preferences plain size (b ∷ bs)) weights size slot (omega arith) in
    omega (arith, many, below)

pub table_pick_is_none : (plain : List ℕ → ℕ) (size : ℕ) (c : Candidates) (x : Flow) → table_pick plain size c x ≡ None ↔ c.backends ≡ []
table_pick_is_none plain size c x = read_is_none c.backends _ (table_slots_below plain size c.backends c.weights (slot_of_flow plain size x))

pub table_pick_respects : (p q : List ℕ → ℕ) → ((message : List ℕ) → p message ≡ q message) → (size : ℕ) (c : Candidates) (x : Flow) →
    table_pick p size c x ≡ table_pick q size c x
table_pick_respects p q e size c x = ap (λ (plain : List ℕ → ℕ). table_pick plain size c x) (fun_ext e)

-- hashes that answer alike make one table
pub table_respects : (p q : List ℕ → ℕ) → ((message : List ℕ) → p message ≡ q message) → (size : ℕ) (c : Candidates) (t : NamedTable) → IsTableOf p size c t →
    IsTableOf q size c t
table_respects p q e size c t = subst (λ (plain : List ℕ → ℕ). IsTableOf plain size c t) (fun_ext e)
