-- Of the lists that ascend, one keeps the order of what ties: an insert in order and a stable sort make the same list.
use Rattle.std.proofs.Common.{◌≡◌, ℕ, suc, ◌<◌, Bool, true, false, not, cond, List, [], ◌∷◌, ◌++◌, length, filter, get_or, refl, sym, ◌∙◌, ap, arith, inl, inr, append_assoc}
use Rattle.std.specs.Cmp.{IsStrictWeakOrder}
use Rattle.std.specs.Fn.{Called, ComparesAs}
use Rattle.std.specs.declared.cmp.Ordering.{Ordering}
use denote.Param.Members.{Mut}
use denote.Ref.{Bor}
use Rattle.std.specs.Cmp.Lexicographic.{slice_cmp}
use Rattle.std.specs.List.Sorted.{IsSortedBy, ties}
use Rattle.std.specs.Ordering.{nat_cmp, is_lt}
use Rattle.std.proofs.lemmas.Bool.{and_parts, cases_Bool, not-true, true≢false, true_from_ne_false}
use Rattle.std.proofs.lemmas.Cmp.{nat_list_cmp_total}
use Rattle.std.proofs.lemmas.Fn.{always_returns_same}
use Rattle.std.proofs.lemmas.List.{append-nil}
use Rattle.std.proofs.lemmas.List.Elements.{filter-append}
use Rattle.std.proofs.lemmas.List.Sorted.{sorted_far, ranks_by}
use Rattle.pool_versions.specs.Pool.{is_below, MembersAscend, insert_by_name, ascending_with}
use Rattle.pool_versions.specs.declared.backend.Member.{Member}
use Rattle.pool_versions.proofs.Ascending.{sorted_rest, inserted_ascends, sorted_ascend}

filter_none : {X : Type 0} (p : X → Bool) (xs : List X) → ((k : ℕ) (d : X) → k < length xs → p (get_or xs k d) ≡ false) → filter p xs ≡ []
filter_none p [] h = refl
filter_none p (x ∷ xs) h =
    let e : p x ≡ false = h 0 x (omega arith) in
    rw e (filter_none p xs (λ k d within. h (suc k) d (omega arith)))

filter_kept : {X : Type 0} (p : X → Bool) (x : X) (xs : List X) → p x ≡ true → filter p (x ∷ xs) ≡ x ∷ filter p xs
filter_kept p x xs e = rw e refl

filter_left_out : {X : Type 0} (p : X → Bool) (x : X) (xs : List X) → p x ≡ false → filter p (x ∷ xs) ≡ filter p xs
filter_left_out p x xs e = rw e refl

same_behind : {X : Type 0} (p : X → Bool) (x : X) (xs ys : List X) → filter p (x ∷ xs) ≡ filter p (x ∷ ys) → filter p xs ≡ filter p ys
same_behind p x xs ys h = elim (cases_Bool (p x)) [
  | inl kept ↦ let e : x ∷ filter p xs ≡ x ∷ filter p ys = sym (filter_kept p x xs kept) ∙ h ∙ filter_kept p x ys kept in cc
  | inr left ↦ sym (filter_left_out p x xs left) ∙ h ∙ filter_left_out p x ys left
]

module _ {X : Type 0} (lt : X → X → Bool) (o : IsStrictWeakOrder lt) where
  not_below_itself : (x : X) → lt x x ≡ false
  not_below_itself x = elim (cases_Bool (lt x x)) [ inl below ↦ o.one_way x x below | inr same ↦ same ]

  ties_itself : (x : X) → ties lt x x ≡ true
  ties_itself x = rw (not_below_itself x) refl

  below_further : (b c y : X) → lt b c ≡ true → lt y c ≡ false → lt b y ≡ true
  below_further b c y h low = true_from_ne_false (lt b y) (λ f. true≢false (sym h ∙ o.chain b y c f low))

  untied : (z b y : X) → lt b z ≡ false → lt b y ≡ true → ties lt z y ≡ false
  untied z b y low h =
      let e : lt z y ≡ true = true_from_ne_false (lt z y) (λ f. true≢false (sym h ∙ o.chain b z y low f)) in
      rw e refl

  -- nothing of a list that ascends from above b ties with what is not above b
  none_ties : (z b c : X) (cs : List X) → lt b z ≡ false → lt b c ≡ true → IsSortedBy lt (c ∷ cs) → filter (ties lt z) (c ∷ cs) ≡ []
  none_ties z b c cs low h s = filter_none (ties lt z) (c ∷ cs) (λ k d within.
      untied z b (get_or (c ∷ cs) k d) low (below_further b c (get_or (c ∷ cs) k d) h (sorted_far lt o (c ∷ cs) s 0 k d (omega arith) within)))

  not_first : (x y : X) (xs ys : List X) → IsSortedBy lt (y ∷ ys) → filter (ties lt x) (x ∷ xs) ≡ filter (ties lt x) (y ∷ ys) → lt x y ≡ true → ⊥
  not_first x y xs ys s h below =
      let e : x ∷ filter (ties lt x) xs ≡ [] = sym (filter_kept (ties lt x) x xs (ties_itself x)) ∙ h ∙ none_ties x x y ys (not_below_itself x) below s in
      cc

  pub only_one : (xs ys : List X) → IsSortedBy lt xs → IsSortedBy lt ys → ((z : X) → filter (ties lt z) xs ≡ filter (ties lt z) ys) → xs ≡ ys
  only_one [] [] s t h = refl
  only_one [] (y ∷ ys) s t h = let e : y ∷ filter (ties lt y) ys ≡ [] = sym (filter_kept (ties lt y) y ys (ties_itself y)) ∙ sym (h y) in absurd cc
  only_one (x ∷ xs) [] s t h = let e : x ∷ filter (ties lt x) xs ≡ [] = sym (filter_kept (ties lt x) x xs (ties_itself x)) ∙ h x in absurd cc
  only_one (x ∷ xs) (y ∷ ys) s t h = elim (cases_Bool (lt x y)) [
    | inl below ↦ absurd (not_first x y xs ys t (h x) below)
    | inr low ↦ elim (cases_Bool (lt y x)) [
      | inl below ↦ absurd (not_first y x ys xs s (sym (h y)) below)
      | inr high ↦
          let tied : ties lt x y ≡ true = rw (low, high) refl in
          let heads : x ∷ filter (ties lt x) xs ≡ y ∷ filter (ties lt x) ys = sym (filter_kept (ties lt x) x xs (ties_itself x)) ∙ h x ∙ filter_kept (ties lt x) y ys tied in
          let e : x ≡ y = cc in
          let rest : xs ≡ ys = only_one xs ys (sorted_rest lt x xs s) (sorted_rest lt y ys t) (λ z. same_behind (ties lt z) x xs ys (h z ∙ ap (λ (v : X). filter (ties lt z) (v ∷ ys)) (sym e))) in
          cc
    ]
  ]

-- whether the first one's name is below
abbrev pub by_name : Member → Member → Bool
by_name b c = is_below b.backend.name c.backend.name

pub by_name_is_order : IsStrictWeakOrder by_name
by_name_is_order = ranks_by nat_list_cmp_total (λ (b : Member). b.backend.name)

ties_not_above : (z b : Member) → ties by_name z b ≡ true → is_below b.backend.name z.backend.name ≡ false
ties_not_above z b h = not-true _ (and_parts (not (by_name z b)) (not (by_name b z)) h).1

inserted_keeps : (z b : Member) (cs : List Member) → MembersAscend cs → filter (ties by_name z) (insert_by_name b cs) ≡ filter (ties by_name z) (cs ++ b ∷ [])
inserted_keeps z b [] s = refl
inserted_keeps z b (c ∷ cs) s = elim (cases_Bool (is_below b.backend.name c.backend.name)) [
  | inl lower ↦ rw lower (elim (cases_Bool (ties by_name z b)) [
    | inl tied ↦
        let low : is_below b.backend.name z.backend.name ≡ false = ties_not_above z b tied in
        let none : filter (ties by_name z) (c ∷ cs) ≡ [] = none_ties by_name by_name_is_order z b c cs low lower s in
        filter_kept (ties by_name z) b (c ∷ cs) tied ∙ ap (λ (v : List Member). b ∷ v) none ∙ sym (filter-append (ties by_name z) (c ∷ cs) (b ∷ []) ∙ ap (λ (v : List Member). v ++ filter (ties by_name z) (b ∷ [])) none ∙ filter_kept (ties by_name z) b [] tied)
    | inr apart ↦ filter_left_out (ties by_name z) b (c ∷ cs) apart ∙ sym (append-nil (filter (ties by_name z) (c ∷ cs))) ∙ ap (λ (v : List Member). filter (ties by_name z) (c ∷ cs) ++ v) (sym (filter_left_out (ties by_name z) b [] apart)) ∙ sym (filter-append (ties by_name z) (c ∷ cs) (b ∷ []))
  ])
  | inr higher ↦ rw higher (ap (λ (v : List Member). cond (ties by_name z c) (c ∷ v) v) (inserted_keeps z b cs (sorted_rest by_name c cs s)))
]

ascending_with_keeps : (z : Member) (sorted bs : List Member) → MembersAscend sorted → filter (ties by_name z) (ascending_with sorted bs) ≡ filter (ties by_name z) (sorted ++ bs)
ascending_with_keeps z sorted [] s = ap (filter (ties by_name z)) (sym (append-nil sorted))
ascending_with_keeps z sorted (b ∷ bs) s =
    ascending_with_keeps z (insert_by_name b sorted) bs (inserted_ascends b sorted s)
    ∙ filter-append (ties by_name z) (insert_by_name b sorted) bs
    ∙ ap (λ (v : List Member). v ++ filter (ties by_name z) bs) (inserted_keeps z b sorted s)
    ∙ sym (filter-append (ties by_name z) (sorted ++ b ∷ []) bs)
    ∙ ap (filter (ties by_name z)) (append_assoc sorted (b ∷ []) bs)

-- a list that ascends and keeps the order of ties of some members is those members in order
pub sorted_are : (ms : List Member) (bs : List Member) → MembersAscend bs → ((z : Member) → filter (ties by_name z) bs ≡ filter (ties by_name z) ms) → bs ≡ ascending_with [] ms
sorted_are ms bs s h =
    only_one by_name by_name_is_order bs (ascending_with [] ms) s (sorted_ascend ms)
    (λ z. h z ∙ sym (ascending_with_keeps z [] ms (λ k d low within. absurd (omega arith))))

-- a closure that compares by name answers by that order
pub compares_by_name : {F : Type 0} {g : Mut F (Bor Member × (Bor Member × Unit {0})) Ordering} {f : F} → ((a : Bor Member × (Bor Member × Unit {0})) (r : Ordering) (f' : F) → Called g f a r f' → (r ≡ slice_cmp nat_cmp a.0.now.backend.name a.1.0.now.backend.name) × (f' ≡ f)) →
    ComparesAs g by_name f
compares_by_name {g = g} {f = f} h = always_returns_same g (λ a r. is_lt r ≡ by_name a.0.now a.1.0.now) f (λ a r f' k. (ap is_lt (h a r f' k).0, (h a r f' k).1))
