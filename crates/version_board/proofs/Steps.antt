-- Each step keeps the rule of a board.
use Rattle.std.proofs.Common.{◌≡◌, ◌≢◌, ℕ, zero, suc, ◌<◌, ◌≤◌, ◌^◌, List, [], ◌∷◌, ◌++◌, length, set, get_or, fold, true, false, true≢false, refl, sym, ap, ◌∙◌, subst, ⊎_elim, le_refl, arith}
use Rattle.std.specs.Prelude.{All, Contains, slice_index, take}
use Rattle.std.proofs.lemmas.List.{get_or-set_same, get_or-set_other, length-set}
use Rattle.std.proofs.lemmas.List.Sums.{fold-append}
use Rattle.std.proofs.lemmas.List.Elements.{All-nil, All-cons, All-head, All-tail, All-push, All-weaker, All-contains, Contains-append_left, Contains-push}
use mathlib.Core.Option.{none, some, some-ne-none, some-injective}
use lib.ListN.{get_elem?}
use Rattle.atomic_table.specs.Table.{Me, keeps, step, Allows, Splits, Joins}
use Rattle.atomic_table.proofs.Lists.{at_set, at_snoc}
use Rattle.version_board.specs.declared.rule.View.{View}
use Rattle.version_board.specs.Numbers.{newest, IsAscending}
use Rattle.version_board.specs.Rule.{publisher, watcher, newcomer, Fits, IsBoard, HoldsBoard, Published, Looked, Unchanged, Compared}

off : false ≡ true → ⊥
off e = true≢false (sym e)

-- the last number is the greatest
all_up_to : (a : ℕ) (xs : List ℕ) → All (λ m. a < m) xs → IsAscending xs → (a ≤ fold (λ _ n. n) a xs) × All (λ m. m ≤ fold (λ _ n. n) a xs) xs
all_up_to a [] above up = (le_refl a, All-nil (λ m. m ≤ a))
all_up_to a (x ∷ xs) above up =
    let r = all_up_to x xs up.0 up.1 in
    let least = r.0 in
    let first : a < x = All-head (λ m. a < m) x xs above in
    (omega arith, All-cons (λ m. m ≤ fold (λ _ n. n) x xs) x xs r.0 r.1)

pub all_up_to_newest : (xs : List ℕ) → IsAscending xs → All (λ m. m ≤ newest xs) xs
all_up_to_newest [] up = All-nil (λ m. m ≤ 0)
all_up_to_newest (x ∷ xs) up = let r = all_up_to x xs up.0 up.1 in All-cons (λ m. m ≤ newest (x ∷ xs)) x xs r.0 r.1

pub IsAscending-push : (xs : List ℕ) (n : ℕ) → IsAscending xs → All (λ m. m < n) xs → IsAscending (xs ++ n ∷ [])
IsAscending-push [] n up below = (All-nil (λ m. n < m), tt)
IsAscending-push (x ∷ xs) n up below = (All-push (λ m. x < m) xs n up.0 (All-head (λ m. m < n) x xs below), IsAscending-push xs n up.1 (All-tail (λ m. m < n) x xs below))

pub newest-push : (xs : List ℕ) (n : ℕ) → newest (xs ++ n ∷ []) ≡ n
newest-push xs n = fold-append (λ _ m. m) 0 xs (n ∷ [])

Contains-cons : (a x : ℕ) (xs : List ℕ) → Contains xs x → Contains (a ∷ xs) x
Contains-cons a x xs c = let inside = c.1 in (suc c.0, omega arith, c.2)

newest_among : (a : ℕ) (xs : List ℕ) → Contains (a ∷ xs) (newest (a ∷ xs))
newest_among a [] = Contains-push [] a
newest_among a (x ∷ xs) = Contains-cons a (newest (x ∷ xs)) (x ∷ xs) (newest_among x xs)

fits_set : (seat : ℕ) (now : List ℕ) (views : List View) (by : ℕ) (w : View) → ((j : ℕ) (u : View) → j ≢ by → get_elem? views j ≡ some u → Fits seat now j u) → Fits seat now by w → (j : ℕ) (u : View) → get_elem? (set views by w) j ≡ some u → Fits seat now j u
fits_set seat now views by w others mine j u e =
    ⊎_elim
    (λ (x : (j ≡ by) × (w ≡ u)). subst (λ (y : ℕ × View). Fits seat now y.0 y.1) (λ i. (sym x.0 i, x.1 i)) mine)
    (λ (x : (j ≢ by) × (get_elem? views j ≡ some u)). others j u x.0 x.1)
    (at_set views by j w u e)

watches : (seat : ℕ) (now numbers : List ℕ) (by : ℕ) → All (λ n. Contains now n) numbers → Fits seat now by (watcher numbers)
watches seat now numbers by among = ((λ p. absurd (off p)), (λ _. among))

unchanged : (l : List ℕ) (i : ℕ) → set l i (get_or l i 0) ≡ l
unchanged [] i = refl
unchanged (x ∷ xs) zero = refl
unchanged (x ∷ xs) (suc i) = ap (λ t. x ∷ t) (unchanged xs i)

pub begins : (first : ℕ) (words : List ℕ) → words ≡ first ∷ 0 ∷ [] → first < 2 ^ 32 → IsBoard first words (publisher (first ∷ []) [] ∷ [])
begins first words is small = record {
  seat = 0;
  later = [];
  ascending = (All-nil (λ m. first < m), tt);
  two = ap length is;
  word = ap (λ l. slice_index l 0) is;
  small = subst (λ (n : ℕ). n < 2 ^ 32) (sym (ap (λ l. slice_index l 0) is)) small;
  fits = one;
}
  where
    one : (by : ℕ) (v : View) → get_elem? (publisher (first ∷ []) [] ∷ []) by ≡ some v → Fits 0 (first ∷ []) by v
    one zero v e = subst (Fits 0 (first ∷ []) 0) (some-injective _ _ e) ((λ _. (refl, refl, All-nil (λ x. Contains (first ∷ []) x))), (λ c. absurd (true≢false c)))
    one (suc by) v e = absurd (some-ne-none v (sym e))

-- what was among some numbers is among them and one more
among_more : (numbers : List ℕ) (n : ℕ) (xs : List ℕ) → All (λ x. Contains numbers x) xs → All (λ x. Contains (numbers ++ n ∷ []) x) xs
among_more numbers n xs all = All-weaker (λ x. Contains numbers x) (λ x. Contains (numbers ++ n ∷ []) x) (λ x c. Contains-append_left numbers (n ∷ []) x c) xs all

pub publishes : (first slots id : ℕ) (me : Me Unit View) (n : ℕ) → me.0 ≡ publisher me.0.numbers me.0.given_back → newest me.0.numbers < n → n < 2 ^ 32
    → Allows (HoldsBoard first) slots id me 0 (λ _. n) (λ _. Published (step slots 0 n 0 none) me n)
publishes first slots id me n is above fits s h homes at small =
    let known = (h.fits id me.0 at).0 (ap (λ v. v.publishes) is) in
    let now : List ℕ = first ∷ h.later in
    let same : me.0.numbers ≡ now = known.1 in
    let high : newest now < n = subst (λ (l : List ℕ). newest l < n) same above in
    let below : All (λ m. m < n) now = All-weaker (λ m. m ≤ newest now) (λ m. m < n) (λ x le. omega arith) now (all_up_to_newest now h.ascending) in
    let w : View = publisher (me.0.numbers ++ n ∷ []) me.0.given_back in
    let here : slice_index (set s.words 0 n) 0 ≡ n = get_or-set_same s.words 0 n 0 (omega (arith, h.two)) in (
      w,
      keeps,
      tt,
      record {
        seat = h.seat;
        later = h.later ++ n ∷ [];
        ascending = IsAscending-push now n h.ascending below;
        two = length-set s.words 0 n ∙ h.two;
        word = here ∙ sym (newest-push now n);
        small = subst (λ (m : ℕ). m < 2 ^ 32) (sym here) fits;
        fits = fits_set h.seat (now ++ n ∷ []) s.views id w
            (λ j u apart e. ((λ p. absurd (apart (((h.fits j u e).0 p).0 ∙ sym known.0))), (λ p. among_more now n u.numbers ((h.fits j u e).1 p))))
            ((λ _. (known.0, ap (λ l. l ++ n ∷ []) same, among_more now n me.0.given_back known.2)), (λ p. absurd (true≢false p)));
      },
      refl,
    )

pub looks : (first slots id : ℕ) (me : Me Unit View) → me.0 ≡ watcher me.0.numbers
    → Allows (HoldsBoard first) slots id me 0 (λ n. n) (Looked (step slots 0 0 0 none) me)
looks first slots id me is s h homes at small =
    let among = (h.fits id me.0 at).1 (ap (λ v. v.publishes) is) in
    let now : List ℕ = first ∷ h.later in
    let found : ℕ = slice_index s.words 0 in
    let w : View = watcher (me.0.numbers ++ found ∷ []) in
    let same : set s.words 0 found ≡ s.words = unchanged s.words 0 in (
      w,
      keeps,
      tt,
      record {
        seat = h.seat;
        later = h.later;
        ascending = h.ascending;
        two = length-set s.words 0 found ∙ h.two;
        word = ap (λ l. slice_index l 0) same ∙ h.word;
        small = subst (λ (l : List ℕ). slice_index l 0 < 2 ^ 32) (sym same) h.small;
        fits = fits_set h.seat now s.views id w (λ j u apart e. h.fits j u e)
            (watches h.seat now (me.0.numbers ++ found ∷ []) id (All-push (λ x. Contains now x) me.0.numbers found among (subst (λ (x : ℕ). Contains now x) (sym h.word) (newest_among first h.later))));
      },
      (
        refl,
        h.small,
        All-weaker (λ x. Contains now x) (λ x. x ≤ found) (λ x c. subst (λ (y : ℕ). x ≤ y) (sym h.word) (All-contains (λ m. m ≤ newest now) now x (all_up_to_newest now h.ascending) c)) me.0.numbers among,
      ),
    )

-- a step on the other word
pub keeps_view : (first slots id : ℕ) (me : Me Unit View) (f found : ℕ → ℕ)
    → Allows (HoldsBoard first) slots id me 1 f (λ n. Unchanged (step slots 1 0 0 none) me (found n))
keeps_view first slots id me f found s h homes at small =
    let here : slice_index (set s.words 1 (f (slice_index s.words 1))) 0 ≡ slice_index s.words 0 = get_or-set_other s.words 1 0 (f (slice_index s.words 1)) 0 (λ e. omega arith) in (
      me.0,
      keeps,
      tt,
      record {
        seat = h.seat;
        later = h.later;
        ascending = h.ascending;
        two = length-set s.words 1 (f (slice_index s.words 1)) ∙ h.two;
        word = here ∙ h.word;
        small = subst (λ (n : ℕ). n < 2 ^ 32) (sym here) h.small;
        fits = fits_set h.seat (first ∷ h.later) s.views id me.0 (λ j u apart e. h.fits j u e) (h.fits id me.0 at);
      },
      refl,
    )

pub compares : (first slots id : ℕ) (me : Me Unit View) → me.0 ≡ publisher me.0.numbers me.0.given_back
    → Allows (HoldsBoard first) slots id me 0 (λ n. n) (Compared (step slots 0 0 0 none) me)
compares first slots id me is s h homes at small =
    let known = (h.fits id me.0 at).0 (ap (λ v. v.publishes) is) in
    let now : List ℕ = first ∷ h.later in
    let found : ℕ = slice_index s.words 0 in
    let same : set s.words 0 found ≡ s.words = unchanged s.words 0 in (
      me.0,
      keeps,
      tt,
      record {
        seat = h.seat;
        later = h.later;
        ascending = h.ascending;
        two = length-set s.words 0 found ∙ h.two;
        word = ap (λ l. slice_index l 0) same ∙ h.word;
        small = subst (λ (l : List ℕ). slice_index l 0 < 2 ^ 32) (sym same) h.small;
        fits = fits_set h.seat now s.views id me.0 (λ j u apart e. h.fits j u e) (h.fits id me.0 at);
      },
      (refl, subst (λ (l : List ℕ). All (λ n. Contains l n) me.0.given_back) (sym known.1) known.2),
    )

pub seats : (first id : ℕ) (v : View) → v ≡ publisher v.numbers v.given_back → Splits (HoldsBoard first) id v v (newcomer v)
seats first id v is s h at =
    let known = (h.fits id v at).0 (ap (λ u. u.publishes) is) in
    let now : List ℕ = first ∷ h.later in
    let among : All (λ x. Contains now x) (take 1 v.numbers) = subst (λ (l : List ℕ). All (λ x. Contains now x) (take 1 l)) (sym known.1) (All-cons (λ x. Contains now x) first [] (0, omega arith, refl) (All-nil (λ x. Contains now x))) in
    record {
      seat = h.seat;
      later = h.later;
      ascending = h.ascending;
      two = h.two;
      word = h.word;
      small = h.small;
      fits = λ j u e. ⊎_elim
          (fits_set h.seat now s.views id v (λ i w apart x. h.fits i w x) (h.fits id v at) j u)
          (λ (x : newcomer v ≡ u). subst (Fits h.seat now j) x (watches h.seat now (take 1 v.numbers) j among))
          (at_snoc (set s.views id v) (newcomer v) u j e);
    }

pub gives_back : (first id other : ℕ) (v w : View) → v ≡ publisher v.numbers v.given_back → w ≡ watcher w.numbers → Joins (HoldsBoard first) id v other w (publisher v.numbers w.numbers) (watcher [])
gives_back first id other v w is was s h at apart there =
    let now : List ℕ = first ∷ h.later in
    let both : View = publisher v.numbers w.numbers in
    let known = (h.fits id v at).0 (ap (λ u. u.publishes) is) in
    let found : get_elem? s.views other ≡ some w = ⊎_elim (λ (x : (other ≡ id) × (both ≡ w)). absurd (apart x.0)) (λ (x : (other ≢ id) × (get_elem? s.views other ≡ some w)). x.1) (at_set s.views id other both w there) in
    let among = (h.fits other w found).1 (ap (λ u. u.publishes) was) in
    let here : Fits h.seat now id both = ((λ _. (known.0, known.1, among)), (λ p. absurd (true≢false p))) in
    record {
      seat = h.seat;
      later = h.later;
      ascending = h.ascending;
      two = h.two;
      word = h.word;
      small = h.small;
      fits = fits_set h.seat now (set s.views id both) other (watcher [])
          (λ j u _ e. fits_set h.seat now s.views id both (λ i x _ y. h.fits i x y) here j u e)
          (watches h.seat now [] other (All-nil (λ x. Contains now x)));
    }
