-- Merges, place by place.
use Rattle.std.proofs.Common.{◌≡◌, ℕ, zero, suc, ◌+◌, ◌-◌, ◌<◌, ◌≤◌, Bool, true, false, List, [], ◌∷◌, ◌++◌, length, map, take, drop, get_or, Option, Some, None, refl, sym, ap, ◌∙◌, subst, arith}
use Rattle.std.specs.Prelude.{nat_lt, if◌then◌else◌, slice_range, MatchOption, is_some, not}
use Rattle.std.proofs.lemmas.Bool.{and_parts, ne_eqb, ltb-true, ltb-false, lt-ltb, and_from, true≢false, false≢true}
use Rattle.std.proofs.lemmas.List.{take_more, drop_more, length-drop, get_or-drop, get_or-map, append-nil, append_assoc, append_cancel_left, take-append-drop, drop_all, take_all, get_or_default}
use Rattle.std.proofs.lemmas.List.Folds.{list_all_more, list_all-map}
use Rattle.cluster_node.specs.declared.outcomes.Outcome.{Outcome}
use Rattle.cluster_node.specs.declared.outcomes.Outcome.TheVariants.{Installed, Placed, Forward, Dropped, Restarted, Refused}
use Rattle.std.specs.List.{list_all}
use Rattle.thread_records.specs.Lean.{send_of}
use Rattle.thread_records.specs.Merges.{is_send, sent_by, sends_of, all_sends, from_one_of, all_from, is_restart, IsMerge, lives_from, AreMerges}

pub sends_push : (w : ℕ) (os : List Outcome) (o : Outcome) (b : Bool) → sent_by w o ≡ b → sends_of w (os ++ o ∷ []) ≡ (if b then sends_of w os ++ o ∷ [] else sends_of w os)
sends_push w [] o true e = ap (λ (c : Bool). if c then o ∷ [] else []) e
sends_push w [] o false e = ap (λ (c : Bool). if c then o ∷ [] else []) e
sends_push w (p ∷ os) o b e = go (sent_by w p) b (sends_push w os o b e)
  where
    go : (c b : Bool) → sends_of w (os ++ o ∷ []) ≡ (if b then sends_of w os ++ o ∷ [] else sends_of w os) → (if c then p ∷ sends_of w (os ++ o ∷ []) else sends_of w (os ++ o ∷ [])) ≡ (if b then (if c then p ∷ sends_of w os else sends_of w os) ++ o ∷ [] else (if c then p ∷ sends_of w os else sends_of w os))
    go true true h = ap (λ (l : List Outcome). p ∷ l) h
    go true false h = ap (λ (l : List Outcome). p ∷ l) h
    go false true h = h
    go false false h = h

-- what is at a place, and what is behind it
pub sends_at : (w : ℕ) (os : List Outcome) (i : ℕ) (d : Outcome) (b : Bool) → i < length os → sent_by w (get_or os i d) ≡ b → sends_of w (drop i os) ≡ (if b then get_or os i d ∷ sends_of w (drop (i + 1) os) else sends_of w (drop (i + 1) os))
sends_at w os i d b h e =
    ap (sends_of w) (drop_more os i d h)
    ∙ ap (λ (c : Bool). if c then get_or os i d ∷ sends_of w (drop (i + 1) os) else sends_of w (drop (i + 1) os)) e

-- nothing was sent by a worker that there isn't
none_of : (n w : ℕ) (os : List Outcome) → n ≤ w → all_from n os ≡ true → sends_of w os ≡ []
none_of n w [] h a = refl
none_of n w (o ∷ os) h a =
    let p = and_parts (from_one_of n o) (all_from n os) a in
    ap (λ (c : Bool). if c then o ∷ sends_of w os else sends_of w os) (other o p.0) ∙ none_of n w os h p.1
  where
    other : (o : Outcome) → from_one_of n o ≡ true → sent_by w o ≡ false
    other Installed e = refl
    other (Placed u f) e = refl
    other (Forward m u k x b v) e = let lt : u < n = ltb-true u n e in ne_eqb u w (λ s. absurd (omega arith))
    other (Dropped k c) e = refl
    other (Restarted l) e = refl
    other (Refused r) e = refl

sender_more : (m n : ℕ) (o : Outcome) → m ≤ n → from_one_of m o ≡ true → from_one_of n o ≡ true
sender_more m n Installed h e = refl
sender_more m n (Placed u f) h e = refl
sender_more m n (Forward k u p x b v) h e = let lt : u < m = ltb-true u m e in lt-ltb u n (omega arith)
sender_more m n (Dropped k c) h e = refl
sender_more m n (Restarted l) h e = refl
sender_more m n (Refused r) h e = refl

pub from_more : (m n : ℕ) (os : List Outcome) → m ≤ n → all_from m os ≡ true → all_from n os ≡ true
from_more m n [] h e = refl
from_more m n (o ∷ os) h e =
    let p = and_parts (from_one_of m o) (all_from m os) e in
    and_from _ _ (sender_more m n o h p.0) (from_more m n os h p.1)

-- one more of a list, and a number that may be greater
pub senders_step : (m n k : ℕ) (os : List Outcome) (i : ℕ) (o : Outcome) → i < length os → o ≡ get_or os i o → m ≤ n → k ≤ n → all_from m (take i os) ≡ true → from_one_of k o ≡ true → all_from n (take (i + 1) os) ≡ true
senders_step m n k os i o lt is a b e f =
    list_all_more (from_one_of n) os i o lt
    ∙ and_from _ _ (from_more m n (take i os) a e) (ap (from_one_of n) (sym is) ∙ sender_more k n o b f)

pub merge_of : (n : ℕ) (sent life : List Outcome) → all_sends sent ≡ true → all_from n sent ≡ true → all_from n life ≡ true → ((w : ℕ) → w < n → sends_of w sent ≡ sends_of w life) → IsMerge sent life
merge_of n sent life only a b each = record { only = only; each = λ w. go w (nat_lt w n) refl }
  where
    go : (w : ℕ) (c : Bool) → nat_lt w n ≡ c → sends_of w sent ≡ sends_of w life
    go w true e = each w (ltb-true w n e)
    go w false e = let h : n ≤ w = ltb-false w n e in none_of n w sent h a ∙ sym (none_of n w life h b)

-- what is sent by the numbers of events
pub sends_numbered : (os : List Outcome) (ns : List ℕ) → all_sends (map (λ n. send_of os n) ns) ≡ list_all (λ n. is_send (send_of os n)) ns
sends_numbered os ns = list_all-map is_send (λ n. send_of os n) ns

pub number_at : (os : List Outcome) (ns : List ℕ) (i d : ℕ) (o : Outcome) → i < length ns → o ≡ send_of os (get_or ns i d) → o ≡ get_or (map (λ k. send_of os k) ns) i o
number_at os ns i d o lt e = e ∙ sym (get_or-map (λ k. send_of os k) ns i d o lt)

-- what is at a place is what the event of that number sent
pub event_at : (os : List Outcome) (i : ℕ) (o : Outcome) → i < length os → o ≡ send_of os i → o ≡ get_or os i o
event_at os i o lt e = e ∙ get_or_default os i Installed o lt

from_event : (n : ℕ) (os : List Outcome) (k : ℕ) → all_from n os ≡ true → from_one_of n (send_of os k) ≡ true
from_event n [] k h = refl
from_event n (o ∷ os) zero h = (and_parts (from_one_of n o) (all_from n os) h).0
from_event n (o ∷ os) (suc k) h = from_event n os k (and_parts (from_one_of n o) (all_from n os) h).1

-- of a history's workers are the events of these numbers, and those of a part of it
pub from_numbers : (n : ℕ) (os : List Outcome) (ns : List ℕ) → all_from n os ≡ true → all_from n (map (λ k. send_of os k) ns) ≡ true
from_numbers n os [] h = refl
from_numbers n os (k ∷ ns) h = and_from _ _ (from_event n os k h) (from_numbers n os ns h)

from_drop : (n i : ℕ) (os : List Outcome) → all_from n os ≡ true → all_from n (drop i os) ≡ true
from_drop n zero os h = h
from_drop n (suc i) [] h = refl
from_drop n (suc i) (o ∷ os) h = from_drop n i os (and_parts (from_one_of n o) (all_from n os) h).1

from_take : (n i : ℕ) (os : List Outcome) → all_from n os ≡ true → all_from n (take i os) ≡ true
from_take n zero os h = refl
from_take n (suc i) [] h = refl
from_take n (suc i) (o ∷ os) h = let p = and_parts (from_one_of n o) (all_from n os) h in and_from _ _ p.0 (from_take n i os p.1)

pub from_range : (n i j : ℕ) (os : List Outcome) → all_from n os ≡ true → all_from n (slice_range os i j) ≡ true
from_range n i j os h = from_take n (j - i) (drop i os) (from_drop n i os h)

sends_append : (w : ℕ) (xs ys : List Outcome) → sends_of w (xs ++ ys) ≡ sends_of w xs ++ sends_of w ys
sends_append w [] ys = refl
sends_append w (x ∷ xs) ys = go (sent_by w x) (sends_append w xs ys)
  where
    go : (c : Bool) → sends_of w (xs ++ ys) ≡ sends_of w xs ++ sends_of w ys → (if c then x ∷ sends_of w (xs ++ ys) else sends_of w (xs ++ ys)) ≡ (if c then x ∷ sends_of w xs else sends_of w xs) ++ sends_of w ys
    go true e = ap (λ (l : List Outcome). x ∷ l) e
    go false e = e

-- what a worker sent, cut at a place where it sent something
sends_cut : (w : ℕ) (one : List Outcome) (i : ℕ) (item : Outcome) → i < length one → item ≡ get_or one i item → sent_by w item ≡ true → sends_of w one ≡ sends_of w (take i one) ++ item ∷ sends_of w (drop (i + 1) one)
sends_cut w one i item lt is e =
    ap (sends_of w) (sym (take-append-drop i one))
    ∙ sends_append w (take i one) (drop i one)
    ∙ ap (λ (l : List Outcome). sends_of w (take i one) ++ l)
    (sends_at w one i item true lt (ap (sent_by w) (sym is) ∙ e) ∙ ap (λ (o : Outcome). o ∷ sends_of w (drop (i + 1) one)) (sym is))

-- so far the one worker's packets are the same in both lists: what follows has to be the same too
module _ (w : ℕ) (one other : List Outcome) (i at : ℕ) (so_far : sends_of w other ≡ sends_of w (take i one) ++ sends_of w (drop at other)) where
  pub rest_is : (item : Outcome) → i < length one → item ≡ get_or one i item → sent_by w item ≡ true → sends_of w one ≡ sends_of w other → item ∷ sends_of w (drop (i + 1) one) ≡ sends_of w (drop at other)
  rest_is item lt is e same = append_cancel_left (sends_of w (take i one)) _ _ (sym (sends_cut w one i item lt is e) ∙ same ∙ so_far)

  pub same_none : (item : Outcome) → i < length one → item ≡ get_or one i item → sent_by w item ≡ true → sends_of w (drop at other) ≡ [] → sends_of w one ≡ sends_of w other → ⊥
  same_none item lt is e none same = let q : item ∷ sends_of w (drop (i + 1) one) ≡ [] = rest_is item lt is e same ∙ none in cc

  pub same_next : (item found : Outcome) (after : List Outcome) → i < length one → item ≡ get_or one i item → sent_by w item ≡ true → sends_of w (drop at other) ≡ found ∷ after → sends_of w one ≡ sends_of w other → found ≡ item
  same_next item found after lt is e next same = let q : item ∷ sends_of w (drop (i + 1) one) ≡ found ∷ after = rest_is item lt is e same ∙ next in cc

  whole_is : length one ≤ i → sends_of w other ≡ sends_of w one ++ sends_of w (drop at other)
  whole_is all = so_far ∙ ap (λ (l : List Outcome). sends_of w l ++ sends_of w (drop at other)) (take_all i one all)

  pub same_all : length one ≤ i → sends_of w (drop at other) ≡ [] → sends_of w one ≡ sends_of w other
  same_all all none = sym (whole_is all ∙ ap (λ (l : List Outcome). sends_of w one ++ l) none ∙ append-nil (sends_of w one))

  pub same_over : (found : Outcome) (after : List Outcome) → length one ≤ i → sends_of w (drop at other) ≡ found ∷ after → sends_of w one ≡ sends_of w other → ⊥
  same_over found after all more same =
      let q : [] ≡ sends_of w (drop at other) = append_cancel_left (sends_of w one) _ _ (append-nil (sends_of w one) ∙ same ∙ whole_is all) in
      let r : [] ≡ found ∷ after = q ∙ more in cc

-- one more of the first list
taken_one : (w : ℕ) (one : List Outcome) (i : ℕ) (item : Outcome) (b : Bool) → i < length one → item ≡ get_or one i item → sent_by w item ≡ b → sends_of w (take (i + 1) one) ≡ (if b then sends_of w (take i one) ++ item ∷ [] else sends_of w (take i one))
taken_one w one i item b h is e =
    ap (sends_of w) (take_more one i item h ∙ ap (λ (o : Outcome). take i one ++ o ∷ []) (sym is)) ∙ sends_push w (take i one) item b e

pub same_more : (w : ℕ) (one other : List Outcome) (i at after : ℕ) (item found : Outcome) → i < length one → item ≡ get_or one i item → sent_by w item ≡ true → found ≡ item
    → sends_of w other ≡ sends_of w (take i one) ++ sends_of w (drop at other) → sends_of w (drop at other) ≡ found ∷ sends_of w (drop after other)
    → sends_of w other ≡ sends_of w (take (i + 1) one) ++ sends_of w (drop after other)
same_more w one other i at after item found h is e f had next =
    had
    ∙ ap (λ (l : List Outcome). sends_of w (take i one) ++ l) (next ∙ ap (λ (o : Outcome). o ∷ sends_of w (drop after other)) f)
    ∙ sym (append_assoc (sends_of w (take i one)) (item ∷ []) (sends_of w (drop after other)))
    ∙ ap (λ (l : List Outcome). l ++ sends_of w (drop after other)) (sym (taken_one w one i item true h is e))

pub same_skip : (w : ℕ) (one other : List Outcome) (i at : ℕ) (item : Outcome) → i < length one → item ≡ get_or one i item → sent_by w item ≡ false
    → sends_of w other ≡ sends_of w (take i one) ++ sends_of w (drop at other) → sends_of w other ≡ sends_of w (take (i + 1) one) ++ sends_of w (drop at other)
same_skip w one other i at item h is e had = had ∙ ap (λ (l : List Outcome). l ++ sends_of w (drop at other)) (sym (taken_one w one i item false h is e))

lives_same : (life os : List Outcome) (o : Outcome) → is_restart o ≡ false → lives_from (life ++ o ∷ []) os ≡ lives_from life (o ∷ os)
lives_same life os Installed e = refl
lives_same life os (Placed w f) e = refl
lives_same life os (Forward n w k x b v) e = refl
lives_same life os (Dropped k c) e = refl
lives_same life os (Restarted l) e = absurd (true≢false e)
lives_same life os (Refused r) e = refl

lives_cut : (life os : List Outcome) (o : Outcome) → is_restart o ≡ true → life ∷ lives_from [] os ≡ lives_from life (o ∷ os)
lives_cut life os Installed e = absurd (false≢true e)
lives_cut life os (Placed w f) e = absurd (false≢true e)
lives_cut life os (Forward n w k x b v) e = absurd (false≢true e)
lives_cut life os (Dropped k c) e = absurd (false≢true e)
lives_cut life os (Restarted l) e = refl
lives_cut life os (Refused r) e = absurd (false≢true e)

slice_more : (xs : List Outcome) (i j : ℕ) (o : Outcome) → i ≤ j → j < length xs → o ≡ get_or xs j o → slice_range xs i (j + 1) ≡ slice_range xs i j ++ o ∷ []
slice_more xs i j o below within is =
    let n : j + 1 - i ≡ (j - i) + 1 = omega arith in
    let m : i + (j - i) ≡ j = omega arith in
    let long : length (drop i xs) ≡ length xs - i = length-drop i xs in
    ap (λ (k : ℕ). take k (drop i xs)) n
    ∙ take_more (drop i xs) (j - i) o (omega arith)
    ∙ ap (λ (q : Outcome). slice_range xs i j ++ q ∷ []) (get_or-drop i xs (j - i) o ∙ ap (λ (k : ℕ). get_or xs k o) m ∙ sym is)

slice_none : (xs : List Outcome) (i : ℕ) → slice_range xs i i ≡ []
slice_none xs i = let z : i - i ≡ 0 = omega arith in ap (λ (k : ℕ). take k (drop i xs)) z

-- where the one list is at its end
pub same_end : (w : ℕ) (one other : List Outcome) (i at : ℕ) (next : Option ℕ) (none : Bool) → sends_of w other ≡ sends_of w (take i one) ++ sends_of w (drop at other) → length one ≤ i
    → MatchOption next (sends_of w (drop at other) ≡ []) (λ k. (d : Outcome) → sends_of w (drop at other) ≡ get_or other k d ∷ sends_of w (drop (k + 1) other)) → is_some next ≡ not none
    → (none ≡ true → sends_of w one ≡ sends_of w other) × (sends_of w one ≡ sends_of w other → none ≡ true)
same_end w one other i at None true so_far all n e = ((λ t. same_all w one other i at so_far all n), (λ same. refl))
same_end w one other i at None false so_far all n e = absurd (false≢true e)
same_end w one other i at (Some k) true so_far all n e = absurd (true≢false e)
same_end w one other i at (Some k) false so_far all n e = ((λ t. absurd (false≢true t)), (λ same. absurd (same_over w one other i at so_far (get_or other k Installed) (sends_of w (drop (k + 1) other)) all (n Installed) same)))

pub tail_is : (os : List Outcome) (start end : ℕ) → end ≡ length os → slice_range os start end ≡ drop start os
tail_is os start end is = let n : length (drop start os) ≤ end - start = omega (arith, is, length-drop start os) in take_all (end - start) (drop start os) n

-- of the same numbers and of the same life
pub same_merge : (os : List Outcome) (ns ms : List ℕ) (life part : List Outcome) → ns ≡ ms → life ≡ part → IsMerge (map (λ n. send_of os n) ns) life → IsMerge (map (λ n. send_of os n) ms) part
same_merge os ns ms life part numbers same one =
    subst (λ (ks : List ℕ). IsMerge (map (λ n. send_of os n) ks) part) numbers (subst (λ (l : List Outcome). IsMerge (map (λ n. send_of os n) ns) l) same one)

-- What is still to be compared: the lists of the lives from one on, beside what came of the events of this life so far
-- and of those behind.
abbrev pub AreMergesFrom : {V : Type 0} → (V → List Outcome) → List V → List Outcome → ℕ → ℕ → ℕ → Type 0
AreMergesFrom items sent outcomes life start at = AreMerges (map items (drop life sent)) (lives_from (slice_range outcomes start at) (drop at outcomes))

module _ {V : Type 0} (items : V → List Outcome) (sent : List V) (outcomes : List Outcome) (start at life : ℕ) where
  module _ (o : Outcome) (places : start ≤ at) (within : at < length outcomes) (is : o ≡ get_or outcomes at o) where
    here : drop at outcomes ≡ o ∷ drop (at + 1) outcomes
    here = drop_more outcomes at o within ∙ ap (λ (q : Outcome). q ∷ drop (at + 1) outcomes) (sym is)

    -- the life goes on
    skip_lists : is_restart o ≡ false → lives_from (slice_range outcomes start (at + 1)) (drop (at + 1) outcomes) ≡ lives_from (slice_range outcomes start at) (drop at outcomes)
    skip_lists e =
        ap (λ (l : List Outcome). lives_from l (drop (at + 1) outcomes)) (slice_more outcomes start at o places within is)
        ∙ lives_same (slice_range outcomes start at) (drop (at + 1) outcomes) o e
        ∙ ap (λ (l : List Outcome). lives_from (slice_range outcomes start at) l) (sym here)

    pub skip_to : is_restart o ≡ false → AreMergesFrom items sent outcomes life start (at + 1) → AreMergesFrom items sent outcomes life start at
    skip_to e m = subst (λ (ls : List (List Outcome)). AreMerges (map items (drop life sent)) ls) (skip_lists e) m

    pub skip_from : is_restart o ≡ false → AreMergesFrom items sent outcomes life start at → AreMergesFrom items sent outcomes life start (at + 1)
    skip_from e m = subst (λ (ls : List (List Outcome)). AreMerges (map items (drop life sent)) ls) (sym (skip_lists e)) m

    -- it ends here
    cut_lists : is_restart o ≡ true → slice_range outcomes start at ∷ lives_from (slice_range outcomes (at + 1) (at + 1)) (drop (at + 1) outcomes) ≡ lives_from (slice_range outcomes start at) (drop at outcomes)
    cut_lists e =
        ap (λ (l : List Outcome). slice_range outcomes start at ∷ lives_from l (drop (at + 1) outcomes)) (slice_none outcomes (at + 1))
        ∙ lives_cut (slice_range outcomes start at) (drop (at + 1) outcomes) o e
        ∙ ap (λ (l : List Outcome). lives_from (slice_range outcomes start at) l) (sym here)

    module _ (s : V) (e : is_restart o ≡ true) (more : life < length sent) (which : s ≡ get_or sent life s) where
      list_is : drop life sent ≡ s ∷ drop (life + 1) sent
      list_is = drop_more sent life s more ∙ ap (λ (v : V). v ∷ drop (life + 1) sent) (sym which)

      pub cut_to : IsMerge (items s) (slice_range outcomes start at) → AreMergesFrom items sent outcomes (life + 1) (at + 1) (at + 1) → AreMergesFrom items sent outcomes life start at
      cut_to one m =
          subst (λ (vs : List V). AreMerges (map items vs) (lives_from (slice_range outcomes start at) (drop at outcomes))) (sym list_is)
          (subst (λ (ls : List (List Outcome)). AreMerges (items s ∷ map items (drop (life + 1) sent)) ls) (cut_lists e) (one, m))

      cut_both : AreMergesFrom items sent outcomes life start at → IsMerge (items s) (slice_range outcomes start at) × AreMergesFrom items sent outcomes (life + 1) (at + 1) (at + 1)
      cut_both m =
          subst (λ (ls : List (List Outcome)). AreMerges (items s ∷ map items (drop (life + 1) sent)) ls) (sym (cut_lists e))
          (subst (λ (vs : List V). AreMerges (map items vs) (lives_from (slice_range outcomes start at) (drop at outcomes))) list_is m)

      pub cut_one : AreMergesFrom items sent outcomes life start at → IsMerge (items s) (slice_range outcomes start at)
      cut_one m = (cut_both m).0

      pub cut_from : AreMergesFrom items sent outcomes life start at → AreMergesFrom items sent outcomes (life + 1) (at + 1) (at + 1)
      cut_from m = (cut_both m).1

    -- but there is no list for it
    pub cut_none : is_restart o ≡ true → length sent ≤ life → AreMergesFrom items sent outcomes life start at → ⊥
    cut_none e all m =
        let r : AreMerges (map items (drop life sent)) (slice_range outcomes start at ∷ lives_from (slice_range outcomes (at + 1) (at + 1)) (drop (at + 1) outcomes)) = subst (λ (ls : List (List Outcome)). AreMerges (map items (drop life sent)) ls) (sym (cut_lists e)) m in
        subst (λ (vs : List V). AreMerges (map items vs) (slice_range outcomes start at ∷ lives_from (slice_range outcomes (at + 1) (at + 1)) (drop (at + 1) outcomes))) (drop_all life sent all) r

  -- the last life
  module _ (end : length outcomes ≤ at) (places : start ≤ at) where
    last_lists : lives_from (slice_range outcomes start at) (drop at outcomes) ≡ drop start outcomes ∷ []
    last_lists =
        let n : length (drop start outcomes) ≤ at - start = omega (arith, length-drop start outcomes) in
        ap (λ (l : List Outcome). lives_from (slice_range outcomes start at) l) (drop_all at outcomes end)
        ∙ ap (λ (l : List Outcome). l ∷ []) (take_all (at - start) (drop start outcomes) n)

    pub last_to : (s : V) → life + 1 ≡ length sent → s ≡ get_or sent life s → IsMerge (items s) (drop start outcomes) → AreMergesFrom items sent outcomes life start at
    last_to s count which one =
        let more : life < length sent = omega arith in
        let list : drop life sent ≡ s ∷ drop (life + 1) sent = drop_more sent life s more ∙ ap (λ (v : V). v ∷ drop (life + 1) sent) (sym which) in
        let none : drop (life + 1) sent ≡ [] = drop_all (life + 1) sent (omega arith) in
        subst (λ (ls : List (List Outcome)). AreMerges (map items (drop life sent)) ls) (sym last_lists)
        (subst (λ (vs : List V). AreMerges (map items vs) (drop start outcomes ∷ [])) (sym (list ∙ ap (λ (vs : List V). s ∷ vs) none)) (one, tt))

    last_is : AreMergesFrom items sent outcomes life start at → AreMerges (map items (drop life sent)) (drop start outcomes ∷ [])
    last_is m = subst (λ (ls : List (List Outcome)). AreMerges (map items (drop life sent)) ls) last_lists m

    pub last_from : (s : V) → life + 1 ≡ length sent → s ≡ get_or sent life s → AreMergesFrom items sent outcomes life start at → IsMerge (items s) (drop start outcomes)
    last_from s count which m =
        let more : life < length sent = omega arith in
        let list : drop life sent ≡ s ∷ drop (life + 1) sent = drop_more sent life s more ∙ ap (λ (v : V). v ∷ drop (life + 1) sent) (sym which) in
        (subst (λ (vs : List V). AreMerges (map items vs) (drop start outcomes ∷ [])) list (last_is m)).0

    -- there has to be one list
    one_list : (vs : List V) (l : List Outcome) → AreMerges (map items vs) (l ∷ []) → length vs ≡ 1
    one_list [] l m = absurd m
    one_list (v ∷ []) l m = refl
    one_list (v ∷ u ∷ vs) l m = absurd m.1

    pub last_count : AreMergesFrom items sent outcomes life start at → life + 1 ≡ length sent
    last_count m = omega (arith, one_list (drop life sent) (drop start outcomes) (last_is m), length-drop life sent)
