-- Outcomes counted by their kinds, in one pass.
use Rattle.std.proofs.Common.{◌≡◌, ℕ, ◌+◌, ◌-◌, ◌<◌, ◌≤◌, ◌^◌, Bool, true, false, List, [], ◌∷◌, length, drop, get_or, replicate, zero, suc, refl, sym, ap, ◌∙◌, subst, arith}
use Rattle.std.specs.Prelude.{◌==◌, if◌then◌else◌, slice_set}
use Rattle.std.proofs.lemmas.Bool.{eqb-true, eq-eqb, ne_eqb, true≢false}
use Rattle.cluster_node.specs.declared.outcomes.Outcome.{Outcome}
use Rattle.cluster_node.specs.declared.outcomes.Outcome.TheVariants.{Installed, Placed, Forward, Dropped, Restarted, Refused}
use Rattle.cluster_node.specs.declared.outcomes.Cause.{Cause}
use Rattle.cluster_node.specs.declared.outcomes.Cause.TheVariants.{NotIpv4, Truncated, BadHeader, BadChecksum, Fragment, NotTcpUdp, BadTransport, TooLarge, NoService, NoBackend, NoVersion, RingsFull, LostAtRestart}
use Rattle.cluster_core.specs.OutcomeCounts.{number, is_arrival, is_forward, is_placed, is_refused, lost_of, lost_all, how_many, drops, drops_all, dropped, drop_counts}
use Rattle.cluster_core.specs.Totals.{came_all, went_all}
use Rattle.cluster_node.specs.declared.events.LogEntry.{LogEntry}
use Rattle.cluster_core.specs.Histories.{outcomes_of}
use Rattle.cluster_core.specs.PrivateCounting.{kind, bumped, bumped_all, zeros, Leads, Fits}
use Rattle.std.specs.List.{sum}
use Rattle.cluster_core.proofs.Law.{Counts, counts, last_fits, drops_add_up, many_le}

number_le : (c : Cause) → number c ≤ 13
number_le NotIpv4 = omega arith
number_le Truncated = omega arith
number_le BadHeader = omega arith
number_le BadChecksum = omega arith
number_le Fragment = omega arith
number_le NotTcpUdp = omega arith
number_le BadTransport = omega arith
number_le TooLarge = omega arith
number_le NoService = omega arith
number_le NoBackend = omega arith
number_le NoVersion = omega arith
number_le RingsFull = omega arith
number_le LostAtRestart = omega arith

kind_below : (o : Outcome) → kind o < 18
kind_below Installed = omega arith
kind_below (Placed w f) = omega arith
kind_below (Forward n w k x b v) = omega arith
kind_below (Dropped k c) = let h : number c ≤ 13 = number_le c in omega arith
kind_below (Restarted l) = omega arith
kind_below (Refused r) = omega arith

set_length : (ns : List ℕ) (k v : ℕ) → length (slice_set ns k v) ≡ length ns
set_length [] k v = refl
set_length (n ∷ ns) zero v = refl
set_length (n ∷ ns) (suc k) v = ap suc (set_length ns k v)

set_same : (ns : List ℕ) (k v : ℕ) → k < length ns → get_or (slice_set ns k v) k 0 ≡ v
set_same [] k v h = absurd (omega arith)
set_same (n ∷ ns) zero v h = refl
set_same (n ∷ ns) (suc k) v h = set_same ns k v (omega arith)

set_other : (ns : List ℕ) (k j v : ℕ) → (k ≡ j → ⊥) → get_or (slice_set ns k v) j 0 ≡ get_or ns j 0
set_other [] k j v h = refl
set_other (n ∷ ns) zero zero v h = absurd (h refl)
set_other (n ∷ ns) zero (suc j) v h = refl
set_other (n ∷ ns) (suc k) zero v h = refl
set_other (n ∷ ns) (suc k) (suc j) v h = set_other ns k j v (λ e. h (ap suc e))

no_counts : (n k : ℕ) → get_or {A = ℕ} (replicate n 0) k 0 ≡ zero
no_counts zero k = refl
no_counts (suc n) zero = refl
no_counts (suc n) (suc k) = no_counts n k

bump_adds : (ns : List ℕ) (k j : ℕ) → k < length ns → (b : Bool) → (k == j) ≡ b → get_or (bumped k ns) j 0 ≡ (if b then get_or ns j 0 + 1 else get_or ns j 0)
bump_adds ns k j h true e = let d : k ≡ j = eqb-true k j e in subst (λ (z : ℕ). get_or (bumped k ns) z 0 ≡ get_or ns z 0 + 1) d (set_same ns k (get_or ns k 0 + 1) h)
bump_adds ns k j h false e = set_other ns k j (get_or ns k 0 + 1) (λ d. true≢false (sym (eq-eqb k j d) ∙ e))

one_more : (b : Bool) (was now n m : ℕ) → was ≡ (if b then now + 1 else now) → m ≡ was + n → m ≡ now + (if b then 1 + n else n)
one_more true was now n m e f = omega arith
one_more false was now n m e f = omega arith

-- the count of a kind
told : (os : List Outcome) (ns : List ℕ) (k : ℕ) → length ns ≡ 18 → get_or (bumped_all os ns) k 0 ≡ get_or ns k 0 + how_many (λ o. kind o == k) os
told [] ns k h = let e : get_or ns k 0 ≡ get_or ns k 0 + 0 = omega arith in e
told (o ∷ os) ns k h =
    let size : length (bumped (kind o) ns) ≡ 18 = set_length ns (kind o) (get_or ns (kind o) 0 + 1) ∙ h in
    let b : kind o < 18 = kind_below o in
    one_more (kind o == k) (get_or (bumped (kind o) ns) k 0) (get_or ns k 0) (how_many (λ q. kind q == k) os) (get_or (bumped_all os (bumped (kind o) ns)) k 0)
    (bump_adds ns (kind o) k (omega arith) (kind o == k) refl) (told os (bumped (kind o) ns) k size)

-- at the start
pub leads_all : (all : List Outcome) (ns : List ℕ) (r l : ℕ) → ns ≡ zeros → r ≡ 0 → l ≡ 0 → Leads all all ns r l
leads_all all ns r l e f g = record {
  size = ap length e;
  kinds = ap (bumped_all all) e;
  received = (let z : r + how_many (λ o. is_arrival o) all ≡ how_many (λ o. is_arrival o) all = omega arith in z);
  lost = (let z : l + lost_all all ≡ lost_all all = omega arith in z);
}

arrived : (b : Bool) (r a n m : ℕ) → a ≡ (if b then 1 else 0) → r + (if b then 1 + n else n) ≡ m → (r + a) + n ≡ m
arrived true r a n m e f = omega arith
arrived false r a n m e f = omega arith

-- one outcome more
pub leads_step : (o : Outcome) (rest all : List Outcome) (ns : List ℕ) (r l k a d : ℕ) → k ≡ kind o → a ≡ (if is_arrival o then 1 else 0) → d ≡ lost_of o → Leads (o ∷ rest) all ns r l → Leads rest all (bumped k ns) (r + a) (l + d)
leads_step o rest all ns r l k a d e f g h = record {
  size = set_length ns k (get_or ns k 0 + 1) ∙ h.size;
  kinds = ap (λ (z : ℕ). bumped_all rest (bumped z ns)) e ∙ h.kinds;
  received = arrived (is_arrival o) r a (how_many (λ q. is_arrival q) rest) (how_many (λ q. is_arrival q) all) f h.received;
  lost = (let i : l + (lost_of o + lost_all rest) ≡ lost_all all = h.lost in let z : (l + d) + lost_all rest ≡ lost_all all = omega arith in z);
}

-- there is room for it
pub record Roomy (o : Outcome) (ns : List ℕ) (r l : ℕ) : Type 0 where
  pub kinds : get_or ns (kind o) 0 + 1 < 2 ^ 64
  pub received : r + (if is_arrival o then 1 else 0) < 2 ^ 64
  pub lost : l + lost_of o < 2 ^ 64

may_arrive : (b : Bool) (r n m : ℕ) → r + (if b then 1 + n else n) ≡ m → m < 2 ^ 64 → r + (if b then 1 else 0) < 2 ^ 64
may_arrive true r n m e h = omega arith
may_arrive false r n m e h = omega arith

pub roomy : (o : Outcome) (rest all : List Outcome) (ns : List ℕ) (r l : ℕ) → Fits all → Leads (o ∷ rest) all ns r l → Roomy o ns r l
roomy o rest all ns r l fits h =
    let same : (kind o == kind o) ≡ true = eq-eqb (kind o) (kind o) refl in
    let one : how_many (λ q. kind q == kind o) (o ∷ rest) ≡ 1 + how_many (λ q. kind q == kind o) rest = ap (λ (b : Bool). if b then 1 + how_many (λ q. kind q == kind o) rest else how_many (λ q. kind q == kind o) rest) same in
    let here : get_or (bumped_all (o ∷ rest) ns) (kind o) 0 ≡ get_or ns (kind o) 0 + how_many (λ q. kind q == kind o) (o ∷ rest) = told (o ∷ rest) ns (kind o) h.size in
    let there : get_or (bumped_all all zeros) (kind o) 0 ≡ get_or zeros (kind o) 0 + how_many (λ q. kind q == kind o) all = told all zeros (kind o) refl in
    let alike : get_or (bumped_all (o ∷ rest) ns) (kind o) 0 ≡ get_or (bumped_all all zeros) (kind o) 0 = ap (λ (z : List ℕ). get_or z (kind o) 0) h.kinds in
    let none : get_or zeros (kind o) 0 ≡ 0 = no_counts 18 (kind o) in
    let le : how_many (λ q. kind q == kind o) all ≤ length all = many_le (λ q. kind q == kind o) all in
    let few : length all < 2 ^ 64 = fits.few in
    let al : how_many (λ q. is_arrival q) all ≤ length all = many_le (λ q. is_arrival q) all in
    let lost : l + (lost_of o + lost_all rest) ≡ lost_all all = h.lost in
    let small : lost_all all < 2 ^ 64 = fits.lost in
    record {
      kinds = (omega arith);
      received = may_arrive (is_arrival o) r (how_many (λ q. is_arrival q) rest) (how_many (λ q. is_arrival q) all) h.received (omega arith);
      lost = (omega arith);
    }

-- counted alike
many_alike : (p q : Outcome → Bool) → ((o : Outcome) → p o ≡ q o) → (os : List Outcome) → how_many p os ≡ how_many q os
many_alike p q h [] = refl
many_alike p q h (o ∷ os) = ap (λ (b : Bool). if b then 1 + how_many p os else how_many p os) (h o) ∙ ap (λ (n : ℕ). if q o then 1 + n else n) (many_alike p q h os)

drops_kind : (k : ℕ) → 0 < k → k < 14 → (o : Outcome) → (kind o == k) ≡ drops k o
drops_kind k some few Installed = ne_eqb 0 k (λ e. absurd (omega arith))
drops_kind k some few (Placed w f) = ne_eqb 14 k (λ e. absurd (omega arith))
drops_kind k some few (Forward n w j x b v) = ne_eqb 15 k (λ e. absurd (omega arith))
drops_kind k some few (Dropped j c) = refl
drops_kind k some few (Restarted l) = ne_eqb 16 k (λ e. absurd (omega arith))
drops_kind k some few (Refused r) = ne_eqb 17 k (λ e. absurd (omega arith))

late : (c : Cause) (k : ℕ) → 13 < k → (number c == k) ≡ false
late c k h = ne_eqb (number c) k (λ e. let l : number c ≤ 13 = number_le c in absurd (omega arith))

placed_kind : (o : Outcome) → (kind o == 14) ≡ is_placed o
placed_kind Installed = refl
placed_kind (Placed w f) = refl
placed_kind (Forward n w k x b v) = refl
placed_kind (Dropped k c) = late c 14 (omega arith)
placed_kind (Restarted l) = refl
placed_kind (Refused r) = refl

forward_kind : (o : Outcome) → (kind o == 15) ≡ is_forward o
forward_kind Installed = refl
forward_kind (Placed w f) = refl
forward_kind (Forward n w k x b v) = refl
forward_kind (Dropped k c) = late c 15 (omega arith)
forward_kind (Restarted l) = refl
forward_kind (Refused r) = refl

refused_kind : (o : Outcome) → (kind o == 17) ≡ is_refused o
refused_kind Installed = refl
refused_kind (Placed w f) = refl
refused_kind (Forward n w k x b v) = refl
refused_kind (Dropped k c) = late c 17 (omega arith)
refused_kind (Restarted l) = refl
refused_kind (Refused r) = refl

-- all were counted
module _ (all : List Outcome) (ns : List ℕ) (r l : ℕ) (h : Leads [] all ns r l) where
  of_kind : (k : ℕ) → get_or ns k 0 ≡ how_many (λ o. kind o == k) all
  of_kind k =
      let e : get_or ns k 0 ≡ get_or (bumped_all all zeros) k 0 = ap (λ (z : List ℕ). get_or z k 0) h.kinds in
      let t : get_or (bumped_all all zeros) k 0 ≡ get_or zeros k 0 + how_many (λ o. kind o == k) all = told all zeros k refl in
      let z : get_or zeros k 0 ≡ 0 = no_counts 18 k in
      omega arith

  pub of_drops : (k : ℕ) → 0 < k → k < 14 → get_or ns k 0 ≡ drops_all k all
  of_drops k some few = of_kind k ∙ many_alike (λ o. kind o == k) (λ o. drops k o) (drops_kind k some few) all

  pub of_placed : get_or ns 14 0 ≡ how_many (λ o. is_placed o) all
  of_placed = of_kind 14 ∙ many_alike (λ o. kind o == 14) (λ o. is_placed o) placed_kind all

  pub of_forwards : get_or ns 15 0 ≡ how_many (λ o. is_forward o) all
  of_forwards = of_kind 15 ∙ many_alike (λ o. kind o == 15) (λ o. is_forward o) forward_kind all

  pub of_refused : get_or ns 17 0 ≡ how_many (λ o. is_refused o) all
  of_refused = of_kind 17 ∙ many_alike (λ o. kind o == 17) (λ o. is_refused o) refused_kind all

  pub of_arrivals : r ≡ how_many (λ o. is_arrival o) all
  of_arrivals = let i : r + 0 ≡ how_many (λ o. is_arrival o) all = h.received in omega arith

  pub of_lost : l ≡ lost_all all
  of_lost = let i : l + 0 ≡ lost_all all = h.lost in omega arith

-- balanced outcomes fit
pub fitting : (all : List Outcome) → length all < 2 ^ 64 → went_all all ≤ came_all all → Fits all
fitting all few b = let c : Counts all = counts all in record { few = few; lost = omega (arith, few, b, c.placed, c.went, c.few) }

-- there is room for the last count
pub last_room : (all : List Outcome) (ns : List ℕ) (r l : ℕ) → Fits all → went_all all ≤ came_all all → Leads [] all ns r l → get_or ns 13 0 + l < 2 ^ 64
last_room all ns r l fits b h =
    let a : get_or ns 13 0 ≡ drops_all 13 all = of_drops all ns r l h 13 (omega arith) (omega arith) in
    let d : l ≡ lost_all all = of_lost all ns r l h in
    let e : drops_all 13 all + lost_all all ≤ length all = last_fits all b in
    let few : length all < 2 ^ 64 = fits.few in
    omega arith

-- what waits
pub record Waits (all : List Outcome) (ns : List ℕ) (l : ℕ) : Type 0 where
  pub went : ((get_or ns 15 0 + get_or ns 9 0) + get_or ns 10 0) + l ≡ went_all all
  pub came : get_or ns 14 0 ≡ came_all all
  pub few : came_all all ≤ length all

pub waits : (all : List Outcome) (ns : List ℕ) (r l : ℕ) → Leads [] all ns r l → Waits all ns l
waits all ns r l h =
    let c : Counts all = counts all in
    let p : get_or ns 14 0 ≡ how_many (λ o. is_placed o) all = of_placed all ns r l h in
    let f : get_or ns 15 0 ≡ how_many (λ o. is_forward o) all = of_forwards all ns r l h in
    let a : get_or ns 9 0 ≡ drops_all 9 all = of_drops all ns r l h 9 (omega arith) (omega arith) in
    let b : get_or ns 10 0 ≡ drops_all 10 all = of_drops all ns r l h 10 (omega arith) (omega arith) in
    let d : l ≡ lost_all all = of_lost all ns r l h in
    record { went = omega (arith, c.went, f, a, b, d); came = p ∙ c.placed; few = omega (arith, c.few, c.placed) }

cons_alike : (a b : ℕ) (xs ys : List ℕ) → a ≡ b → xs ≡ ys → a ∷ xs ≡ b ∷ ys
cons_alike a b xs ys e f = ap (λ (n : ℕ). n ∷ xs) e ∙ ap (λ (l : List ℕ). b ∷ l) f

pub all_drops : (all : List Outcome) (ns : List ℕ) (r l : ℕ) → Leads [] all ns r l → get_or ns 1 0 ∷ get_or ns 2 0 ∷ get_or ns 3 0 ∷ get_or ns 4 0 ∷ get_or ns 5 0 ∷ get_or ns 6 0 ∷ get_or ns 7 0 ∷ get_or ns 8 0 ∷ get_or ns 9 0 ∷ get_or ns 10 0 ∷ get_or ns 11 0 ∷ get_or ns 12 0 ∷ (get_or ns 13 0 + l) ∷ [] ≡ drop_counts all
all_drops all ns r l h =
    let at : (k : ℕ) → 0 < k → k < 14 → get_or ns k 0 ≡ drops_all k all = of_drops all ns r l h in
    cons_alike _ _ _ _ (at 1 (omega arith) (omega arith)) (cons_alike _ _ _ _ (at 2 (omega arith) (omega arith)) (cons_alike _ _ _ _ (at 3 (omega arith) (omega arith)) (cons_alike _ _ _ _ (at 4 (omega arith) (omega arith))
    (cons_alike _ _ _ _ (at 5 (omega arith) (omega arith)) (cons_alike _ _ _ _ (at 6 (omega arith) (omega arith)) (cons_alike _ _ _ _ (at 7 (omega arith) (omega arith)) (cons_alike _ _ _ _ (at 8 (omega arith) (omega arith))
    (cons_alike _ _ _ _ (at 9 (omega arith) (omega arith)) (cons_alike _ _ _ _ (at 10 (omega arith) (omega arith)) (cons_alike _ _ _ _ (at 11 (omega arith) (omega arith)) (cons_alike _ _ _ _ (at 12 (omega arith) (omega arith))
    (ap (λ (n : ℕ). n ∷ []) (ap (λ (n : ℕ). n + l) (at 13 (omega arith) (omega arith)) ∙ ap (λ (n : ℕ). drops_all 13 all + n) (of_lost all ns r l h))))))))))))))

-- the law of totals
pub lawful : (all : List Outcome) (t f w : ℕ) (ds : List ℕ) → t ≡ how_many (λ o. is_arrival o) all → f ≡ how_many (λ o. is_forward o) all → ds ≡ drop_counts all → w + went_all all ≡ came_all all → t ≡ f + (sum ds + w)
lawful all t f w ds d e dropped_are g =
    let c : Counts all = counts all in
    let le : went_all all ≤ came_all all = omega arith in
    let law : how_many (λ o. is_arrival o) all ≡ how_many (λ o. is_forward o) all + ((dropped all + lost_all all) + (came_all all - went_all all)) = c.law le in
    let s : sum ds ≡ dropped all + lost_all all = ap sum dropped_are ∙ drops_add_up all in
    omega arith

-- the loops' steps
pub drop_get : (xs : List Outcome) (i : ℕ) (d : Outcome) → i < length xs → drop i xs ≡ get_or xs i d ∷ drop (i + 1) xs
drop_get [] i d h = absurd (omega arith)
drop_get (x ∷ xs) zero d h = refl
drop_get (x ∷ xs) (suc i) d h =
    let e : suc i + 1 ≡ suc (i + 1) = omega arith in
    subst (λ (m : ℕ). drop i xs ≡ get_or xs i d ∷ drop m (x ∷ xs)) (sym e) (drop_get xs i d (omega arith))

drop_past : (xs : List Outcome) (i : ℕ) → length xs ≤ i → drop i xs ≡ []
drop_past [] zero h = refl
drop_past [] (suc i) h = refl
drop_past (x ∷ xs) zero h = absurd (omega arith)
drop_past (x ∷ xs) (suc i) h = drop_past xs i (omega arith)

-- the next outcome is in front
pub leads_next : (all : List Outcome) (i : ℕ) (o : Outcome) (ns : List ℕ) (r l : ℕ) → i < length all → o ≡ get_or all i o → Leads (drop i all) all ns r l → Leads (o ∷ drop (i + 1) all) all ns r l
leads_next all i o ns r l lt e h = subst (λ (q : Outcome). Leads (q ∷ drop (i + 1) all) all ns r l) (sym e) (subst (λ (rest : List Outcome). Leads rest all ns r l) (drop_get all i o lt) h)

pub leads_end : (all : List Outcome) (i : ℕ) (ns : List ℕ) (r l : ℕ) → length all ≤ i → Leads (drop i all) all ns r l → Leads [] all ns r l
leads_end all i ns r l le h = subst (λ (rest : List Outcome). Leads rest all ns r l) (drop_past all i le) h

-- a step of a loop
pub leads_more : (all : List Outcome) (i : ℕ) (o : Outcome) (ns ms : List ℕ) (r q l k : ℕ) → i < length all → o ≡ get_or all i o → ((rest whole : List Outcome) → Leads (o ∷ rest) whole ns r l → Leads rest whole ms q k) → Leads (drop i all) all ns r l → Leads (drop (i + 1) all) all ms q k
leads_more all i o ns ms r q l k lt e step h = step (drop (i + 1) all) all (leads_next all i o ns r l lt e h)

-- the outcomes of a history
pub told_length : (h : List LogEntry) → length (outcomes_of h) ≡ length h
told_length [] = refl
told_length (s ∷ h) = ap suc (told_length h)

pub told_at : (h : List LogEntry) (i : ℕ) (s : LogEntry) → i < length h → s ≡ get_or h i s → s.outcome ≡ get_or (outcomes_of h) i s.outcome
told_at h i s lt e = ap (λ (z : LogEntry). z.outcome) e ∙ go h i lt
  where
    go : (h : List LogEntry) (i : ℕ) → i < length h → (get_or h i s).outcome ≡ get_or (outcomes_of h) i s.outcome
    go [] i lt = refl
    go (z ∷ h) zero lt = refl
    go (z ∷ h) (suc i) lt = go h i (omega arith)
