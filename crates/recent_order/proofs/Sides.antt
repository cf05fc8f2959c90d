-- The links of the places, two side by side: the lists of them after a write, and what a method leaves.
use Rattle.std.proofs.Common.{◌≡◌, ℕ, ◌+◌, ◌-◌, ◌<◌, ◌≤◌, List, [], ◌∷◌, length, get_or, set, map, max, refl, sym, ap, ◌∙◌, subst, arith}
use Rattle.std.specs.List.{Contains}
use Rattle.std.proofs.Math.ListN.{get_or-map}
use Rattle.std.proofs.Math.Seq.{map-set_same}
use Rattle.std.proofs.lemmas.List.{map-set, length-map, get_or_read}
use Rattle.std.proofs.lemmas.List.Elements.{All-get_or}
use Rattle.recent_order.specs.declared.order.Links.{Links}
use Rattle.recent_order.specs.Places.{without}
use Rattle.recent_order.specs.Links.{IsRing, places_of}
use Rattle.recent_order.specs.Sides.{no_links, older_of, newer_of, AreLinkedBy}
use Rattle.recent_order.proofs.Others.{Avoids, places_promoted, next_avoids, absent}
use Rattle.recent_order.proofs.Rings.{older_within, newer_within, first_within, unlinked, linked_first, avoids_from_not, places_are, ring_of, promoted, extended, added, no_ring, oldest_is, linked_along}

-- the link of a place in its list
older_read : (ls : List Links) (i : ℕ) → get_or (map older_of ls) i 0 ≡ (get_or ls i no_links).older
older_read ls i = get_or-map older_of ls i no_links

newer_read : (ls : List Links) (i : ℕ) → get_or (map newer_of ls) i 0 ≡ (get_or ls i no_links).newer
newer_read ls i = get_or-map newer_of ls i no_links

-- one of the links of a place is written, and the other one stays
abbrev set_older : List Links → ℕ → ℕ → List Links
set_older ls i v = set ls i record { older = v; newer = (get_or ls i no_links).newer }

abbrev set_newer : List Links → ℕ → ℕ → List Links
set_newer ls i v = set ls i record { older = (get_or ls i no_links).older; newer = v }

older_set : (ls : List Links) (i v : ℕ) → map older_of (set_older ls i v) ≡ set (map older_of ls) i v
older_set ls i v = map-set older_of ls i record { older = v; newer = (get_or ls i no_links).newer }

newer_set : (ls : List Links) (i v : ℕ) → map newer_of (set_newer ls i v) ≡ set (map newer_of ls) i v
newer_set ls i v = map-set newer_of ls i record { older = (get_or ls i no_links).older; newer = v }

older_kept : (ls : List Links) (i v : ℕ) → map older_of (set_newer ls i v) ≡ map older_of ls
older_kept ls i v = map-set_same older_of ls i record { older = (get_or ls i no_links).older; newer = v } no_links refl

newer_kept : (ls : List Links) (i v : ℕ) → map newer_of (set_older ls i v) ≡ map newer_of ls
newer_kept ls i v = map-set_same newer_of ls i record { older = v; newer = (get_or ls i no_links).newer } no_links refl

-- a bound by the number of places that have links is one by the length of a list of them
long : (ls : List Links) (k : ℕ) → k < length ls → k < length (map older_of ls)
long ls k low = subst (λ (m : ℕ). k < m) (sym (length-map ls older_of)) low

short : (ls : List Links) (k : ℕ) → k < length (map older_of ls) → k < length ls
short ls k low = subst (λ (m : ℕ). k < m) (length-map ls older_of) low

-- the neighbours of a place have links
pub older_below : (ls : List Links) (p : ℕ) (xs : List ℕ) → p < length ls → AreLinkedBy ls xs → Contains xs p → get_or (map older_of ls) p 0 < length ls
older_below ls p xs low h there = short ls _ (older_within (map older_of ls) (map newer_of ls) p xs (long ls 0 (omega arith)) h there)

pub newer_below : (ls : List Links) (p : ℕ) (xs : List ℕ) → p < length ls → AreLinkedBy ls xs → Contains xs p → get_or (map newer_of ls) p 0 < length ls
newer_below ls p xs low h there = short ls _ (newer_within (map older_of ls) (map newer_of ls) p xs (long ls 0 (omega arith)) h there)

pub first_below : (ls : List Links) (p : ℕ) (xs : List ℕ) → p < length ls → AreLinkedBy ls xs → get_or (map older_of ls) 0 0 < length ls
first_below ls p xs low h = short ls _ (first_within (map older_of ls) (map newer_of ls) xs (long ls 0 (omega arith)) h)

-- a place is taken out of the ring
pub unlinked_by : (ls : List Links) (p : ℕ) (xs : List ℕ) → get_or (map older_of ls) p 0 < length ls → get_or (map newer_of ls) p 0 < length ls → AreLinkedBy ls xs → Contains xs p
    → AreLinkedBy (set_newer (set_older ls (get_or ls p no_links).newer (get_or ls p no_links).older) (get_or ls p no_links).older (get_or ls p no_links).newer) (without p xs)
unlinked_by ls p xs lo ln h there =
    let o : List ℕ = map older_of ls in
    let n : List ℕ = map newer_of ls in
    let a : ℕ = (get_or ls p no_links).older in
    let b : ℕ = (get_or ls p no_links).newer in
    let ea : a ≡ get_or o p 0 = sym (older_read ls p) in
    let eb : b ≡ get_or n p 0 = sym (newer_read ls p) in
    linked_along (set o (get_or n p 0) (get_or o p 0)) (set n (get_or o p 0) (get_or n p 0)) _ _ (without p xs)
    (older_kept (set_older ls b a) a b ∙ older_set ls b a ∙ ap (λ (i : ℕ). set o i a) eb ∙ ap (λ (v : ℕ). set o (get_or n p 0) v) ea)
    (newer_set (set_older ls b a) a b ∙ ap (λ (ys : List ℕ). set ys a b) (newer_kept ls b a) ∙ ap (λ (i : ℕ). set n i b) ea ∙ ap (λ (v : ℕ). set n (get_or o p 0) v) eb)
    (unlinked o n p xs (long ls _ lo) (long ls _ ln) h there)

-- a place is put in front of the ring
pub first_by : (ls : List Links) (p : ℕ) (xs : List ℕ) → 0 < p → p < length ls → get_or (map older_of ls) 0 0 < length ls → AreLinkedBy ls xs → (Contains xs p → ⊥)
    → AreLinkedBy (set_older (set_newer (set ls p record { older = (get_or ls 0 no_links).older; newer = 0 }) (get_or ls 0 no_links).older p) 0 p) (p ∷ xs)
first_by ls p xs some low lf h gone =
    let o : List ℕ = map older_of ls in
    let n : List ℕ = map newer_of ls in
    let f : ℕ = (get_or ls 0 no_links).older in
    let ls₁ : List Links = set ls p record { older = f; newer = 0 } in
    let ls₂ : List Links = set_newer ls₁ f p in
    let ef : f ≡ get_or o 0 0 = sym (older_read ls 0) in
    linked_along (set (set o p (get_or o 0 0)) 0 p) (set (set n p 0) (get_or o 0 0) p) _ _ (p ∷ xs)
    (older_set ls₂ 0 p ∙ ap (λ (ys : List ℕ). set ys 0 p) (older_kept ls₁ f p ∙ map-set older_of ls p record { older = f; newer = 0 } ∙ ap (λ (v : ℕ). set o p v) ef))
    (newer_kept ls₂ 0 p ∙ newer_set ls₁ f p ∙ ap (λ (ys : List ℕ). set ys f p) (map-set newer_of ls p record { older = f; newer = 0 }) ∙ ap (λ (i : ℕ). set (set n p 0) i p) ef)
    (linked_first o n p xs some (long ls p low) (long ls _ lf) (avoids_from_not p xs gone) h)

-- all places are linked by these links
abbrev AreRing : List Links → List ℕ → Type 0
AreRing ls xs = IsRing (map older_of ls) (map newer_of ls) xs

-- the places that these links lead to
abbrev places_by : List Links → List ℕ
places_by ls = places_of (map older_of ls)

ring_by : (ls : List Links) (xs : List ℕ) → AreRing ls (places_by ls) → places_by ls ≡ xs → AreRing ls xs
ring_by ls xs h view = subst (λ (ys : List ℕ). AreRing ls ys) view h

pub record IsOldest (x : ℕ) (xs : List ℕ) : Type 0 where
  pub last : x ≡ get_or xs (length xs - 1) 0
  pub some : 0 < x
  pub within : x ≤ length xs

pub oldest_read : (ls : List Links) (xs : List ℕ) (l : Links) → 0 < length xs → AreRing ls (places_by ls) → places_by ls ≡ xs → l ≡ get_or ls 0 l → IsOldest l.newer xs
oldest_read ls xs l some h view read = record {
  last = last;
  some = subst (λ (y : ℕ). 0 < y) (sym last) low.0;
  within = subst (λ (y : ℕ). y ≤ length xs) (sym last) low.1;
}
  where
    ring : AreRing ls xs
    ring = ring_by ls xs h view

    there : 0 < length ls
    there = let sized : length xs ≡ length (map older_of ls) - 1 = ring.sized in short ls 0 (omega arith)

    last : l.newer ≡ get_or xs (length xs - 1) 0
    last = ap newer_of (get_or_read ls 0 l there read no_links) ∙ sym (newer_read ls 0) ∙ oldest_is (map older_of ls) (map newer_of ls) xs some ring

    low : (0 < get_or xs (length xs - 1) 0) × (get_or xs (length xs - 1) 0 ≤ length xs)
    low = All-get_or (λ p. (0 < p) × (p ≤ length xs)) xs (length xs - 1) 0 (omega arith) ring.places.low

-- what a method leaves: a ring of these places
pub record Leaves (ls : List Links) (xs : List ℕ) : Type 0 where
  pub ring : AreRing ls (places_by ls)
  pub view : places_by ls ≡ xs

leaves : (ls ls₂ : List Links) (xs : List ℕ) → ls ≡ ls₂ → AreRing ls₂ xs → Leaves ls xs
leaves ls ls₂ xs e h =
    let k : AreRing ls xs = subst (λ (ks : List Links). AreRing ks xs) (sym e) h in
    record { ring = ring_of (map older_of ls) (map newer_of ls) xs k; view = places_are (map older_of ls) (map newer_of ls) xs k }

pub new_leaves : (ls : List Links) → ls ≡ [] → Leaves ls []
new_leaves ls e = leaves ls [] [] e (no_ring [] [] refl refl)

-- ls are the links before, ls₁ the slice of them, ls₂ the slice after, ls₃ the links after
pub promote_leaves : (ls ls₁ ls₂ ls₃ : List Links) (p : ℕ) (xs : List ℕ) → 0 < p → p ≤ length xs → AreRing ls (places_by ls) → places_by ls ≡ xs → ls₁ ≡ ls
    → ((ys : List ℕ) → AreLinkedBy ls₁ ys → Contains ys p → AreLinkedBy ls₂ (p ∷ without p ys)) → length ls₂ ≡ length ls₁ → ls₃ ≡ ls₂ → Leaves ls₃ (p ∷ without p xs)
promote_leaves ls ls₁ ls₂ ls₃ p xs some low h view e moves len e₃ =
    let ring : AreRing ls xs = ring_by ls xs h view in
    let moved : AreLinkedBy ls₂ (p ∷ without p xs) = moves xs (subst (λ (ks : List Links). AreLinkedBy ks xs) (sym e) ring.linked) (ring.places.all p some low) in
    let sized : length (map older_of ls₂) ≡ length (map older_of ls) = length-map ls₂ older_of ∙ len ∙ ap length e ∙ sym (length-map ls older_of) in
    leaves ls₃ ls₂ (p ∷ without p xs) e₃ (promoted (map older_of ls) (map newer_of ls) (map older_of ls₂) (map newer_of ls₂) p xs some low sized ring moved)

-- a use leaves as many places
pub promoted_length : (ls : List Links) (p : ℕ) (xs ys : List ℕ) → 0 < p → p ≤ length xs → AreRing ls (places_by ls) → places_by ls ≡ xs → ys ≡ p ∷ without p xs → length ys ≡ length xs
promoted_length ls p xs ys some low h view e = ap length e ∙ (places_promoted (length xs) p xs some low (ring_by ls xs h view).places).long

-- links that read like others, through what a call took and gave
pub reads : (ls es rs ss : List Links) → ss ≡ es → ((q : ℕ) → get_or es q no_links ≡ get_or rs q no_links) → rs ≡ ls → (q : ℕ) → get_or ss q no_links ≡ get_or ls q no_links
reads ls es rs ss taken same given q = ap (λ (ks : List Links). get_or ks q no_links) taken ∙ same q ∙ ap (λ (ks : List Links). get_or ks q no_links) given

-- the links that were extended
pub extended_by : (ls ls₁ : List Links) (p : ℕ) (xs : List ℕ) → AreRing ls (places_by ls) → places_by ls ≡ xs → p ≡ max (length ls) 1 → length ls₁ ≡ p + 1 → ((q : ℕ) → get_or ls₁ q no_links ≡ get_or ls q no_links) → AreLinkedBy ls₁ xs
extended_by ls ls₁ p xs h view is len same =
    let o : length (map older_of ls) ≡ length ls = length-map ls older_of in
    let o₁ : length (map older_of ls₁) ≡ length ls₁ = length-map ls₁ older_of in
    let n₁ : length (map newer_of ls₁) ≡ length ls₁ = length-map ls₁ newer_of in
    extended (map older_of ls) (map newer_of ls) (map older_of ls₁) (map newer_of ls₁) xs (omega arith) (n₁ ∙ sym o₁)
    (λ q. older_read ls₁ q ∙ ap older_of (same q) ∙ sym (older_read ls q)) (λ q. newer_read ls₁ q ∙ ap newer_of (same q) ∙ sym (newer_read ls q)) (ring_by ls xs h view).linked

pub add_leaves : (ls ls₁ ls₂ ls₃ : List Links) (p : ℕ) (xs : List ℕ) → AreRing ls (places_by ls) → places_by ls ≡ xs → p ≡ max (length ls) 1 → length ls₁ ≡ p + 1 → ((q : ℕ) → get_or ls₁ q no_links ≡ get_or ls q no_links)
    → ((ys : List ℕ) → AreLinkedBy ls₁ ys → (Contains ys p → ⊥) → AreLinkedBy ls₂ (p ∷ ys)) → length ls₂ ≡ length ls₁ → ls₃ ≡ ls₂ → Leaves ls₃ ((length xs + 1) ∷ xs)
add_leaves ls ls₁ ls₂ ls₃ p xs h view is len same links kept e₃ =
    let ring : AreRing ls xs = ring_by ls xs h view in
    let sized : length xs ≡ length (map older_of ls) - 1 = ring.sized in
    let o : length (map older_of ls) ≡ length ls = length-map ls older_of in
    let next : p ≡ length xs + 1 = omega arith in
    let away : Avoids p xs = subst (λ (q : ℕ). Avoids q xs) (sym next) (next_avoids (length xs) xs ring.places) in
    let linked : AreLinkedBy ls₂ (p ∷ xs) = links xs (extended_by ls ls₁ p xs h view is len same) (absent p xs away) in
    leaves ls₃ ls₂ ((length xs + 1) ∷ xs) e₃ (added (map older_of ls) (map newer_of ls) (map older_of ls₂) (map newer_of ls₂) p xs next (length-map ls₂ older_of ∙ kept ∙ len) ring linked)
