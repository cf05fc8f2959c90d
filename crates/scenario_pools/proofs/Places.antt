-- Services at the place of the first that is for some flows.
use Rattle.std.proofs.Common.{◌≡◌, ℕ, ◌+◌, ◌<◌, ◌≤◌, Bool, true, false, not, cond, List, [], ◌∷◌, ◌++◌, length, get_or, map, Option, Some, None, Result, Ok, Err, option_map, refl, sym, ap, ◌∙◌, arith, suc}
use Rattle.std.specs.Prelude.{ok_or}
use Rattle.std.specs.Result.{result_map_both}
use Rattle.std.specs.List.{position_or_len}
use Rattle.std.proofs.Math.ListN.{set, get_or-map}
use Rattle.std.proofs.lemmas.List.{length-map, map-append, map-set}
use Rattle.pool_versions.specs.declared.backend.Member.{Member}
use Rattle.pool_versions.specs.declared.service.Service.{Service}
use Rattle.pool_versions.specs.declared.key.ServiceKey.{ServiceKey}
use Rattle.pool_versions.specs.Pool.{same_key}
use Rattle.version_drafts.specs.Plain.{PlainService, plain_service, plain_key}
use Rattle.version_drafts.specs.Drafts.{PlainServiceDraft, draft_key}
use Rattle.scenario_pools.specs.Writing.{placed, changed_one, with_changed}
use Rattle.scenario_pools.specs.BadWords.{bad_change, service_for, bad_in_changes}
use Rattle.scenario_pools.specs.declared.bad_words.BadWord.TheVariants as bad

-- one place further
further : {A : Type 0} (x : A) (xs : List A) (n : ℕ) (y : A) → set (x ∷ xs) (1 + n) y ≡ x ∷ set xs n y
further x xs n y = let e : 1 + n ≡ suc n = omega arith in rw e refl

further_at : {A : Type 0} (x : A) (xs : List A) (n : ℕ) (d : A) → get_or (x ∷ xs) (1 + n) d ≡ get_or xs n d
further_at x xs n d = let e : 1 + n ≡ suc n = omega arith in rw e refl

-- the place where a service is put
abbrev place_for : PlainService Member → List (PlainService Member) → ℕ
place_for t ss = position_or_len (λ s. same_key (plain_key t) (plain_key s)) ss

placed_step : (b : Bool) (n : ℕ) (t s : PlainService Member) (ss : List (PlainService Member)) → cond (not b) (1 + n) 0 < length (s ∷ ss)
    → (n < length ss → placed t ss ≡ set ss n t) → cond b (t ∷ ss) (s ∷ placed t ss) ≡ set (s ∷ ss) (cond (not b) (1 + n) 0) t
placed_step true n t s ss below rest = refl
placed_step false n t s ss below rest = ap (λ (l : List (PlainService Member)). s ∷ l) (rest (omega arith)) ∙ sym (further s ss n t)

-- a service stands in the place of the first that is for its flows
pub placed_at : (t : PlainService Member) (ss : List (PlainService Member)) → place_for t ss < length ss → placed t ss ≡ set ss (place_for t ss) t
placed_at t [] below = absurd (omega arith)
placed_at t (s ∷ ss) below = placed_step (same_key (plain_key t) (plain_key s)) (place_for t ss) t s ss below (placed_at t ss)

behind_step : (b : Bool) (n : ℕ) (t s : PlainService Member) (ss : List (PlainService Member)) → length (s ∷ ss) ≤ cond (not b) (1 + n) 0
    → (length ss ≤ n → placed t ss ≡ ss ++ t ∷ []) → cond b (t ∷ ss) (s ∷ placed t ss) ≡ (s ∷ ss) ++ t ∷ []
behind_step true n t s ss above rest = absurd (omega arith)
behind_step false n t s ss above rest = ap (λ (l : List (PlainService Member)). s ∷ l) (rest (omega arith))

-- and behind all where there is none
pub placed_behind : (t : PlainService Member) (ss : List (PlainService Member)) → length ss ≤ place_for t ss → placed t ss ≡ ss ++ t ∷ []
placed_behind t [] above = refl
placed_behind t (s ∷ ss) above = behind_step (same_key (plain_key t) (plain_key s)) (place_for t ss) t s ss above (placed_behind t ss)

-- the place of the service that is changed
abbrev place_by : PlainServiceDraft → List (PlainService Member) → ℕ
place_by d ss = position_or_len (λ s. same_key (draft_key d) (plain_key s)) ss

kept_first : (s : PlainService Member) (ss : List (PlainService Member)) (n : ℕ) (o : Option (PlainService Member))
    → option_map (λ rest. s ∷ rest) (option_map (set ss n) o) ≡ option_map (set (s ∷ ss) (1 + n)) o
kept_first s ss n None = refl
kept_first s ss n (Some t) = ap Some (sym (further s ss n t))

one_first : (s : PlainService Member) (ss : List (PlainService Member)) (o : Option (PlainService Member)) → option_map (λ t. t ∷ ss) o ≡ option_map (set (s ∷ ss) 0) o
one_first s ss None = refl
one_first s ss (Some t) = refl

changed_step : (b : Bool) (n : ℕ) (d : PlainServiceDraft) (s x : PlainService Member) (ss : List (PlainService Member)) → cond (not b) (1 + n) 0 < length (s ∷ ss)
    → (n < length ss → with_changed d ss ≡ option_map (set ss n) (changed_one d (get_or ss n x)))
    → cond b (option_map (λ t. t ∷ ss) (changed_one d s)) (option_map (λ rest. s ∷ rest) (with_changed d ss))
    ≡ option_map (set (s ∷ ss) (cond (not b) (1 + n) 0)) (changed_one d (get_or (s ∷ ss) (cond (not b) (1 + n) 0) x))
changed_step true n d s x ss below rest = one_first s ss (changed_one d s)
changed_step false n d s x ss below rest =
    ap (option_map (λ (l : List (PlainService Member)). s ∷ l)) (rest (omega arith))
    ∙ kept_first s ss n (changed_one d (get_or ss n x))
    ∙ ap (λ (t : PlainService Member). option_map (set (s ∷ ss) (1 + n)) (changed_one d t)) (sym (further_at s ss n x))

-- the first service that a draft is for is changed
pub changed_at : (d : PlainServiceDraft) (x : PlainService Member) (ss : List (PlainService Member)) → place_by d ss < length ss
    → with_changed d ss ≡ option_map (set ss (place_by d ss)) (changed_one d (get_or ss (place_by d ss) x))
changed_at d x [] below = absurd (omega arith)
changed_at d x (s ∷ ss) below = changed_step (same_key (draft_key d) (plain_key s)) (place_by d ss) d s x ss below (changed_at d x ss)

missing_step : (b : Bool) (n : ℕ) (d : PlainServiceDraft) (s : PlainService Member) (ss : List (PlainService Member)) → length (s ∷ ss) ≤ cond (not b) (1 + n) 0
    → (length ss ≤ n → with_changed d ss ≡ None)
    → cond b (option_map (λ t. t ∷ ss) (changed_one d s)) (option_map (λ rest. s ∷ rest) (with_changed d ss)) ≡ None
missing_step true n d s ss above rest = absurd (omega arith)
missing_step false n d s ss above rest = ap (option_map (λ (l : List (PlainService Member)). s ∷ l)) (rest (omega arith))

-- none is changed where there is none
pub none_changed : (d : PlainServiceDraft) (ss : List (PlainService Member)) → length ss ≤ place_by d ss → with_changed d ss ≡ None
none_changed d [] above = refl
none_changed d (s ∷ ss) above = missing_step (same_key (draft_key d) (plain_key s)) (place_by d ss) d s ss above (none_changed d ss)

-- a service of the code at its place
pub put_at : (key : ServiceKey) (t : Service) (xs : List Service) (k : ℕ) → k ≡ position_or_len (λ s. same_key key (plain_key s)) (map plain_service xs) → key ≡ plain_key (plain_service t) → k < length xs
    → map plain_service (set xs k t) ≡ placed (plain_service t) (map plain_service xs)
put_at key t xs k is named below =
    let at : k ≡ place_for (plain_service t) (map plain_service xs) = is ∙ ap (λ (q : ServiceKey). position_or_len (λ s. same_key q (plain_key s)) (map plain_service xs)) named in
    let long : length (map plain_service xs) ≡ length xs = length-map xs plain_service in
    let h : place_for (plain_service t) (map plain_service xs) < length (map plain_service xs) = omega (arith, at, long, below) in
    map-set plain_service xs k t ∙ ap (λ (n : ℕ). set (map plain_service xs) n (plain_service t)) at ∙ sym (placed_at (plain_service t) (map plain_service xs) h)

-- and behind all
pub put_behind : (key : ServiceKey) (t : Service) (xs : List Service) (k : ℕ) → k ≡ position_or_len (λ s. same_key key (plain_key s)) (map plain_service xs) → key ≡ plain_key (plain_service t) → length xs ≤ k
    → map plain_service (xs ++ t ∷ []) ≡ placed (plain_service t) (map plain_service xs)
put_behind key t xs k is named above =
    let at : k ≡ place_for (plain_service t) (map plain_service xs) = is ∙ ap (λ (q : ServiceKey). position_or_len (λ s. same_key q (plain_key s)) (map plain_service xs)) named in
    let long : length (map plain_service xs) ≡ length xs = length-map xs plain_service in
    let h : length (map plain_service xs) ≤ place_for (plain_service t) (map plain_service xs) = omega (arith, at, long, above) in
    map-append plain_service xs (t ∷ []) ∙ sym (placed_behind (plain_service t) (map plain_service xs) h)

set_mapped : (xs : List Service) (k : ℕ) (o : Option Service) → option_map (λ t. map plain_service (set xs k t)) o ≡ option_map (set (map plain_service xs) k) (option_map plain_service o)
set_mapped xs k None = refl
set_mapped xs k (Some t) = ap Some (map-set plain_service xs k t)

-- a service of the code is changed at its place
pub change_at : (d : PlainServiceDraft) (key : ServiceKey) (x : Service) (xs : List Service) (k : ℕ) (o : Option Service) → k ≡ position_or_len (λ s. same_key key (plain_key s)) (map plain_service xs) → key ≡ draft_key d → k < length xs
    → x ≡ get_or xs k x → option_map plain_service o ≡ changed_one d (plain_service x) → option_map (λ t. map plain_service (set xs k t)) o ≡ with_changed d (map plain_service xs)
change_at d key x xs k o is named below there one =
    let at : k ≡ place_by d (map plain_service xs) = is ∙ ap (λ (q : ServiceKey). position_or_len (λ s. same_key q (plain_key s)) (map plain_service xs)) named in
    let long : length (map plain_service xs) ≡ length xs = length-map xs plain_service in
    let h : place_by d (map plain_service xs) < length (map plain_service xs) = omega (arith, at, long, below) in
    let found : get_or (map plain_service xs) k (plain_service x) ≡ plain_service x = get_or-map plain_service xs k x ∙ ap plain_service (sym there) in
    set_mapped xs k o
    ∙ ap (option_map (set (map plain_service xs) k)) (one ∙ ap (changed_one d) (sym found))
    ∙ ap (λ (n : ℕ). option_map (set (map plain_service xs) n) (changed_one d (get_or (map plain_service xs) n (plain_service x)))) at
    ∙ sym (changed_at d (plain_service x) (map plain_service xs) h)

-- no service of the code is changed
pub change_none : (d : PlainServiceDraft) (key : ServiceKey) (xs : List Service) (k : ℕ) → k ≡ position_or_len (λ s. same_key key (plain_key s)) (map plain_service xs) → key ≡ draft_key d → length xs ≤ k → with_changed d (map plain_service xs) ≡ None
change_none d key xs k is named above =
    let at : k ≡ place_by d (map plain_service xs) = is ∙ ap (λ (q : ServiceKey). position_or_len (λ s. same_key q (plain_key s)) (map plain_service xs)) named in
    let long : length (map plain_service xs) ≡ length xs = length-map xs plain_service in
    none_changed d (map plain_service xs) (omega (arith, at, long, above))

for_step : (b : Bool) (n : ℕ) (s x : PlainService Member) (ss : List (PlainService Member)) (o : Option (PlainService Member)) → cond (not b) (1 + n) 0 < length (s ∷ ss)
    → (n < length ss → o ≡ Some (get_or ss n x)) → cond b (Some s) o ≡ Some (get_or (s ∷ ss) (cond (not b) (1 + n) 0) x)
for_step true n s x ss o below rest = refl
for_step false n s x ss o below rest = rest (omega arith) ∙ ap Some (sym (further_at s ss n x))

-- the service that a draft is for
for_at : (d : PlainServiceDraft) (x : PlainService Member) (ss : List (PlainService Member)) → place_by d ss < length ss → service_for d ss ≡ Some (get_or ss (place_by d ss) x)
for_at d x [] below = absurd (omega arith)
for_at d x (s ∷ ss) below = for_step (same_key (draft_key d) (plain_key s)) (place_by d ss) s x ss (service_for d ss) below (for_at d x ss)

for_none_step : (b : Bool) (n : ℕ) (s : PlainService Member) (ss : List (PlainService Member)) (o : Option (PlainService Member)) → length (s ∷ ss) ≤ cond (not b) (1 + n) 0
    → (length ss ≤ n → o ≡ None) → cond b (Some s) o ≡ None
for_none_step true n s ss o above rest = absurd (omega arith)
for_none_step false n s ss o above rest = rest (omega arith)

for_none : (d : PlainServiceDraft) (ss : List (PlainService Member)) → length ss ≤ place_by d ss → service_for d ss ≡ None
for_none d [] above = refl
for_none d (s ∷ ss) above = for_none_step (same_key (draft_key d) (plain_key s)) (place_by d ss) s ss (service_for d ss) above (for_none d ss)

-- what a result says of a value that may be none
made : (t : Service) (o : Option (PlainService Member)) (n : ℕ) → Ok (plain_service t) ≡ ok_or o n → Some (plain_service t) ≡ o
made t None n h = absurd cc
made t (Some s) n h = (let e : plain_service t ≡ s = cc in ap Some e)

unmade : (m : ℕ) (o : Option (PlainService Member)) (n : ℕ) → Err m ≡ ok_or o n → (None ≡ o) × (m ≡ n)
unmade m None n h = (refl, cc)
unmade m (Some s) n h = absurd cc

-- what is wrong where a service of the code is changed at its place
pub change_told : (number : ℕ) (d : PlainServiceDraft) (key : ServiceKey) (x : Service) (xs : List Service) (k : ℕ) (r : Result Service ℕ)
    → k ≡ position_or_len (λ s. same_key key (plain_key s)) (map plain_service xs) → key ≡ draft_key d → k < length xs → x ≡ get_or xs k x
    → result_map_both plain_service (λ n. n) r ≡ ok_or (changed_one d (plain_service x)) (bad_change 0 d.changes (plain_service x).members)
    → result_map_both (λ t. map plain_service (set xs k t)) (λ n. bad.ServiceChange number n) r
    ≡ ok_or (with_changed d (map plain_service xs)) (bad_in_changes number d (service_for d (map plain_service xs)))
change_told number d key x xs k (Ok t) is named below there one =
    ap (λ (o : Option (List (PlainService Member))). ok_or o (bad_in_changes number d (service_for d (map plain_service xs))))
    (change_at d key x xs k (Some t) is named below there (made t (changed_one d (plain_service x)) (bad_change 0 d.changes (plain_service x).members) one))
change_told number d key x xs k (Err m) is named below there one =
    let p = unmade m (changed_one d (plain_service x)) (bad_change 0 d.changes (plain_service x).members) one in
    let at : k ≡ place_by d (map plain_service xs) = is ∙ ap (λ (q : ServiceKey). position_or_len (λ s. same_key q (plain_key s)) (map plain_service xs)) named in
    let long : length (map plain_service xs) ≡ length xs = length-map xs plain_service in
    let h : place_by d (map plain_service xs) < length (map plain_service xs) = omega (arith, at, long, below) in
    let found : get_or (map plain_service xs) (place_by d (map plain_service xs)) (plain_service x) ≡ plain_service x =
    ap (λ (n : ℕ). get_or (map plain_service xs) n (plain_service x)) (sym at) ∙ get_or-map plain_service xs k x ∙ ap plain_service (sym there) in
    let whose : service_for d (map plain_service xs) ≡ Some (plain_service x) = for_at d (plain_service x) (map plain_service xs) h ∙ ap Some found in
    ap (λ (n : ℕ). Err (bad.ServiceChange number n)) p.1
    ∙ ap (λ (o : Option (PlainService Member)). Err (bad_in_changes number d o)) (sym whose)
    ∙ ap (λ (o : Option (List (PlainService Member))). ok_or o (bad_in_changes number d (service_for d (map plain_service xs)))) (change_at d key x xs k None is named below there p.0)

-- and where there is none
pub none_told : (number : ℕ) (d : PlainServiceDraft) (key : ServiceKey) (xs : List Service) (k : ℕ) → k ≡ position_or_len (λ s. same_key key (plain_key s)) (map plain_service xs) → key ≡ draft_key d → length xs ≤ k
    → Err (bad.Service number) ≡ ok_or (with_changed d (map plain_service xs)) (bad_in_changes number d (service_for d (map plain_service xs)))
none_told number d key xs k is named above =
    let at : k ≡ place_by d (map plain_service xs) = is ∙ ap (λ (q : ServiceKey). position_or_len (λ s. same_key q (plain_key s)) (map plain_service xs)) named in
    let long : length (map plain_service xs) ≡ length xs = length-map xs plain_service in
    let whose : service_for d (map plain_service xs) ≡ None = for_none d (map plain_service xs) (omega (arith, at, long, above)) in
    ap (λ (o : Option (PlainService Member)). Err (bad_in_changes number d o)) (sym whose)
    ∙ ap (λ (o : Option (List (PlainService Member))). ok_or o (bad_in_changes number d (service_for d (map plain_service xs)))) (sym (change_none d key xs k is named above))
