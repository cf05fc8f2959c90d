-- What the groups become, lanes and chains.
use Rattle.std.proofs.Common.{◌≡◌, ℕ, ◌+◌, ◌-◌, ◌<◌, ◌≤◌, inl, inr, ⊎_elim, refl, sym, ◌∙◌, ap, subst, arith, List, [], ◌∷◌, ◌++◌, length, map, get_or, set, replicate, slice_index, Option, Some, None, IfSome, IfNone}
use Rattle.std.proofs.lemmas.Bool.{cases_eq, cases_lt}
use Rattle.std.proofs.lemmas.List.{length-set, length-replicate, length-map, get_or-set_same, get_or-set_other, get_or-replicate, get_or_past, get_or_append_left, get_or-map, map-set, set-get_or}
use Rattle.place_buckets.specs.declared.groups.Group.{Group}
use Rattle.place_buckets.specs.declared.groups.Link.{Link}
use Rattle.place_buckets.specs.declared.lanes.TheConstants.{LANES}
use Rattle.place_buckets.specs.Groups.{nothing, no_group, hash_of, next_at, hash_at, overflow_at, lane_at, tag_at, bucket_of, tag_of, home_in, IsInLane, Inside, IsChain, Chained, Grouped, AreGrouped, AreGroupedBut}
use Rattle.place_buckets.proofs.Chaining.{kept, fronted, less_first, less_next, none}
use Rattle.place_buckets.proofs.Laning.{IsLane, which, decide, same_lanes, put, freed, all_free}

-- links after a write
next_same : (links : List Link) (place : ℕ) (x : Link) → 0 < place → place ≤ length links → next_at (set links (place - 1) x) place ≡ x.next
unfolding next_at
next_same links place x pos low = ap (λ (l : Link). l.next) (get_or-set_same links (place - 1) x nothing (omega arith))

next_other : (links : List Link) (place p : ℕ) (x : Link) → 0 < place → 0 < p → (p ≡ place → ⊥) → next_at (set links (place - 1) x) p ≡ next_at links p
unfolding next_at
next_other links place p x pos low other = ap (λ (l : Link). l.next) (get_or-set_other links (place - 1) (p - 1) x nothing (λ e. other (omega arith)))

hash_same : (links : List Link) (place : ℕ) (x : Link) → 0 < place → place ≤ length links → hash_at (set links (place - 1) x) place ≡ x.hash
unfolding hash_at
hash_same links place x pos low = ap (λ (l : Link). l.hash) (get_or-set_same links (place - 1) x nothing (omega arith))

hash_other : (links : List Link) (place p : ℕ) (x : Link) → 0 < place → 0 < p → (p ≡ place → ⊥) → hash_at (set links (place - 1) x) p ≡ hash_at links p
unfolding hash_at
hash_other links place p x pos low other = ap (λ (l : Link). l.hash) (get_or-set_other links (place - 1) (p - 1) x nothing (λ e. other (omega arith)))

hash_kept : (links : List Link) (place p : ℕ) (x : Link) → 0 < place → place ≤ length links → x.hash ≡ hash_at links place → 0 < p → hash_at (set links (place - 1) x) p ≡ hash_at links p
hash_kept links place p x pos low same here =
    ⊎_elim (λ (e : p ≡ place). subst (λ (q : ℕ). hash_at (set links (place - 1) x) q ≡ hash_at links q) (sym e) (hash_same links place x pos low ∙ same))
    (λ (other : p ≡ place → ⊥). hash_other links place p x pos here other)
    (cases_eq p place)

-- Groups after a write, by what is read of a group. Here that stays.
read_stays : {A : Type 0} (read : Group → A) (groups : List Group) (b : ℕ) (g : Group) → b < length groups → read g ≡ read (get_or groups b no_group) → (c : ℕ) → read (get_or (set groups b g) c no_group) ≡ read (get_or groups c no_group)
read_stays read groups b g low is c =
    ⊎_elim (λ (e : c ≡ b). ap (λ (x : ℕ). read (get_or (set groups b g) x no_group)) e ∙ ap read (get_or-set_same groups b g no_group low) ∙ is ∙ ap (λ (x : ℕ). read (get_or groups x no_group)) (sym e))
    (λ (other : c ≡ b → ⊥). ap read (get_or-set_other groups b c g no_group other)) (cases_eq c b)

-- the lanes or the tags stay
all_stay : (read : Group → List ℕ) (groups : List Group) (b : ℕ) (g : Group) → b < length groups → read g ≡ read (get_or groups b no_group)
    → (c i : ℕ) → get_or (read (get_or (set groups b g) c no_group)) i 0 ≡ get_or (read (get_or groups c no_group)) i 0
all_stay read groups b g low is c i = ap (λ (xs : List ℕ). get_or xs i 0) (read_stays read groups b g low is c)

-- where one lane or its tag changes
one_written : (read : Group → List ℕ) (groups : List Group) (b i y : ℕ) (g : Group) → b < length groups → i < length (read (get_or groups b no_group)) → read g ≡ set (read (get_or groups b no_group)) i y
    → get_or (read (get_or (set groups b g) b no_group)) i 0 ≡ y
one_written read groups b i y g low few is =
    ap (λ (xs : List ℕ). get_or xs i 0) (ap read (get_or-set_same groups b g no_group low) ∙ is) ∙ get_or-set_same (read (get_or groups b no_group)) i y 0 few

others_stay : (read : Group → List ℕ) (groups : List Group) (b i y : ℕ) (g : Group) → b < length groups → read g ≡ set (read (get_or groups b no_group)) i y
    → (c j : ℕ) → (IsLane b i c j → ⊥) → get_or (read (get_or (set groups b g) c no_group)) j 0 ≡ get_or (read (get_or groups c no_group)) j 0
others_stay read groups b i y g low is c j other =
    ⊎_elim (λ (e : c ≡ b).
    subst (λ (x : ℕ). get_or (read (get_or (set groups b g) x no_group)) j 0 ≡ get_or (read (get_or groups x no_group)) j 0) (sym e)
    (ap (λ (xs : List ℕ). get_or xs j 0) (ap read (get_or-set_same groups b g no_group low) ∙ is) ∙ get_or-set_other (read (get_or groups b no_group)) i j y 0 (λ k. other (e, k))))
    (λ (apart : c ≡ b → ⊥). ap (λ (x : Group). get_or (read x) j 0) (get_or-set_other groups b c g no_group apart)) (cases_eq c b)

-- the number of groups stays
sized : (groups : List Group) (b : ℕ) (g : Group) (next hash : ℕ → ℕ) (lane tag : ℕ → ℕ → ℕ) (overflow : ℕ → ℕ) (there : ℕ → Type 0)
    → Grouped (length groups) next hash lane tag overflow there → Grouped (length (set groups b g)) next hash lane tag overflow there
sized groups b g next hash lane tag overflow there h = subst (λ (n : ℕ). Grouped n next hash lane tag overflow there) (sym (length-set groups b g)) h

-- the hashes of all places stay
pub same_hashes : (links : List Link) (i : ℕ) (x : Link) → i < length links → x.hash ≡ (get_or links i nothing).hash → map hash_of (set links i x) ≡ map hash_of links
same_hashes links i x low same =
    map-set hash_of links i x ∙ ap (λ (h : ℕ). set (map hash_of links) i h) (same ∙ sym (get_or-map hash_of links i nothing 0 low)) ∙ set-get_or (map hash_of links) i 0

-- groups whose places keep their links
regrouped : (count : ℕ) (next then hash after : ℕ → ℕ) (lane tag : ℕ → ℕ → ℕ) (overflow : ℕ → ℕ) (old new : ℕ → Type 0)
    → ((p : ℕ) → 0 < p → old p → then p ≡ next p)
    → ((p : ℕ) → 0 < p → old p → after p ≡ hash p)
    → ((p : ℕ) → 0 < p → old p → new p)
    → ((p : ℕ) → 0 < p → new p → old p)
    → Grouped count next hash lane tag overflow old → Grouped count then after lane tag overflow new
regrouped count next then hash after lane tag overflow old new links hashes more fewer g = record {
  laned = same_lanes count hash after lane lane tag tag old new (λ b i low. refl) (λ b i low. refl) hashes (λ p pos o m. more p pos o) g.laned;
  chained = kept count next then hash after overflow overflow (λ p. old p × (IsInLane count hash lane p → ⊥)) (λ p. new p × (IsInLane count after lane p → ⊥))
      (λ b low. refl) (λ p pos o. links p pos o.0) (λ p pos o. hashes p pos o.0)
      (λ p pos o. (more p pos o.0, λ (m : IsInLane count after lane p). o.1 (subst (λ (h : ℕ). (i : ℕ) × (i < LANES) × (lane (bucket_of count h) i ≡ p)) (hashes p pos o.0) m)))
      (λ p pos n.
      let o : old p = fewer p pos n.0 in
      (o, λ (m : IsInLane count hash lane p). n.1 (subst (λ (h : ℕ). (i : ℕ) × (i < LANES) × (lane (bucket_of count h) i ≡ p)) (sym (hashes p pos o)) m)))
      g.chained;
}

-- a place put in a lane of its bucket
pub linked_in_lane : (groups : List Group) (links late : List Link) (place n bucket i : ℕ) (g : Group) → late ≡ links → place ≤ n → bucket < length groups → bucket ≡ bucket_of (length groups) (hash_at links place)
    → i < LANES → i < length (get_or groups bucket no_group).places → i < length (get_or groups bucket no_group).tags → get_or (get_or groups bucket no_group).places i 0 ≡ 0
    → g.places ≡ set (get_or groups bucket no_group).places i place → g.tags ≡ set (get_or groups bucket no_group).tags i (tag_of (hash_at links place)) → g.overflow ≡ (get_or groups bucket no_group).overflow
    → AreGroupedBut groups links n place → AreGrouped (set groups bucket g) late n
unfolding lane_at tag_at overflow_at
linked_in_lane groups links late place n bucket i g same few within value small wide long free places tags overflow old =
    let count : ℕ = length groups in
    let then : List Group = set groups bucket g in
    let written : lane_at then bucket i ≡ place = one_written (λ (x : Group). x.places) groups bucket i place g within wide places in
    let others : (b j : ℕ) → (IsLane bucket i b j → ⊥) → lane_at then b j ≡ lane_at groups b j = others_stay (λ (x : Group). x.places) groups bucket i place g within places in
    subst (λ (ls : List Link). AreGrouped then ls n) (sym same)
    (sized groups bucket g (next_at links) (hash_at links) (lane_at then) (tag_at then) (overflow_at then) (λ p. p ≤ n)
    (record {
      laned = put count (hash_at links) (lane_at groups) (lane_at then) (tag_at groups) (tag_at then) (λ p. (p ≤ n) × (p ≡ place → ⊥)) (λ p. p ≤ n) bucket i place
          (sym value) written (one_written (λ (x : Group). x.tags) groups bucket i (tag_of (hash_at links place)) g within long tags) others (others_stay (λ (x : Group). x.tags) groups bucket i (tag_of (hash_at links place)) g within tags)
          (λ o. o.1 refl) few (λ p o. o.0) old.laned;
      chained = kept count (next_at links) (next_at links) (hash_at links) (hash_at links) (overflow_at groups) (overflow_at then)
          (λ p. ((p ≤ n) × (p ≡ place → ⊥)) × (IsInLane count (hash_at links) (lane_at groups) p → ⊥)) (λ p. (p ≤ n) × (IsInLane count (hash_at links) (lane_at then) p → ⊥))
          (λ b low. read_stays (λ (x : Group). x.overflow) groups bucket g within overflow b) (λ p here o. refl) (λ p here o. refl)
          (λ p here o. (
            o.0.0,
            λ (m : IsInLane count (hash_at links) (lane_at then) p).
                ⊎_elim (λ (k : IsLane bucket i (home_in count (hash_at links) p) m.0). o.0.1 (sym m.2 ∙ ap (λ (b : ℕ). lane_at then b m.0) k.0 ∙ ap (lane_at then bucket) k.1 ∙ written))
                (λ (k : IsLane bucket i (home_in count (hash_at links) p) m.0 → ⊥). o.1 (m.0, m.1, sym (others (home_in count (hash_at links) p) m.0 k) ∙ m.2))
                (which bucket i (home_in count (hash_at links) p) m.0),
          ))
          (λ p here m. (
            (m.0, λ (e : p ≡ place). m.1 (subst (λ (q : ℕ). IsInLane count (hash_at links) (lane_at then) q) (sym e) (i, small, ap (λ (b : ℕ). lane_at then b i) (sym value) ∙ written))),
            λ (k : IsInLane count (hash_at links) (lane_at groups) p).
                ⊎_elim
                (λ (z : IsLane bucket i (home_in count (hash_at links) p) k.0).
                let nobody : p ≡ 0 = sym k.2 ∙ ap (λ (b : ℕ). lane_at groups b k.0) z.0 ∙ ap (lane_at groups bucket) z.1 ∙ free in omega arith)
                (λ (z : IsLane bucket i (home_in count (hash_at links) p) k.0 → ⊥). m.1 (k.0, k.1, others (home_in count (hash_at links) p) k.0 z ∙ k.2))
                (which bucket i (home_in count (hash_at links) p) k.0),
          ))
          old.chained;
    }))

-- a place put in front of its bucket's chain
pub linked_in_chain : (groups : List Group) (links : List Link) (place n bucket : ℕ) (g : Group) (x : Link) → 0 < place → place ≤ length links → place ≤ n → bucket < length groups → bucket ≡ bucket_of (length groups) (hash_at links place)
    → g.places ≡ (get_or groups bucket no_group).places → g.tags ≡ (get_or groups bucket no_group).tags → g.overflow ≡ place
    → x.hash ≡ hash_at links place → x.next ≡ overflow_at groups bucket
    → AreGroupedBut groups links n place → AreGrouped (set groups bucket g) (set links (place - 1) x) n
unfolding lane_at tag_at overflow_at
linked_in_chain groups links place n bucket g x pos low few within value places tags overflow same to old =
    let count : ℕ = length groups in
    let then : List Group = set groups bucket g in
    let late : List Link = set links (place - 1) x in
    let lanes : (b j : ℕ) → lane_at then b j ≡ lane_at groups b j = all_stay (λ (x : Group). x.places) groups bucket g within places in
    let hashes : (p : ℕ) → 0 < p → hash_at late p ≡ hash_at links p = λ p here. hash_kept links place p x pos low same here in
    let at : home_in count (hash_at late) place ≡ bucket = ap (bucket_of count) (hashes place pos) ∙ sym value in
    let was : (p : ℕ) → 0 < p → IsInLane count (hash_at late) (lane_at then) p → IsInLane count (hash_at links) (lane_at groups) p
    = λ p here m. (m.0, m.1, ap (λ (h : ℕ). lane_at groups (bucket_of count h) m.0) (sym (hashes p here)) ∙ sym (lanes (home_in count (hash_at late) p) m.0) ∙ m.2) in
    let is : (p : ℕ) → 0 < p → IsInLane count (hash_at links) (lane_at groups) p → IsInLane count (hash_at late) (lane_at then) p
    = λ p here m. (m.0, m.1, lanes (home_in count (hash_at late) p) m.0 ∙ ap (λ (h : ℕ). lane_at groups (bucket_of count h) m.0) (hashes p here) ∙ m.2) in
    let outside : IsInLane count (hash_at late) (lane_at then) place → ⊥ = λ m.
    let k = was place pos m in
    let there : lane_at groups bucket k.0 ≡ place = ap (λ (b : ℕ). lane_at groups b k.0) value ∙ k.2 in
    (old.laned.among bucket k.0 within k.1 (subst (λ (q : ℕ). 0 < q) (sym there) pos)).1 there in
    sized groups bucket g (next_at late) (hash_at late) (lane_at then) (tag_at then) (overflow_at then) (λ p. p ≤ n)
    (record {
      laned = same_lanes count (hash_at links) (hash_at late) (lane_at groups) (lane_at then) (tag_at groups) (tag_at then) (λ p. (p ≤ n) × (p ≡ place → ⊥)) (λ p. p ≤ n)
          (λ b i under. lanes b i) (λ b i under. all_stay (λ (x : Group). x.tags) groups bucket g within tags b i) (λ p here o. hashes p here) (λ p here o m. o.0) old.laned;
      chained = fronted count (next_at links) (next_at late) (hash_at links) (hash_at late) (overflow_at groups) (overflow_at then)
          (λ p. ((p ≤ n) × (p ≡ place → ⊥)) × (IsInLane count (hash_at links) (lane_at groups) p → ⊥)) (λ p. (p ≤ n) × (IsInLane count (hash_at late) (lane_at then) p → ⊥)) bucket place
          pos (few, outside) at (next_same links place x pos low ∙ to) (ap (λ (x : Group). x.overflow) (get_or-set_same groups bucket g no_group within) ∙ overflow)
          (λ b other. ap (λ (x : Group). x.overflow) (get_or-set_other groups bucket b g no_group other))
          (λ p here o. next_other links place p x pos here o.0.1) (λ p here o. hashes p here)
          (λ p here o. (o.0.0, λ (m : IsInLane count (hash_at late) (lane_at then) p). o.1 (was p here m)))
          (λ p here m. ⊎_elim (λ (e : p ≡ place). inl e) (λ (e : p ≡ place → ⊥). inr ((m.0, e), λ (k : IsInLane count (hash_at links) (lane_at groups) p). m.1 (is p here k))) (cases_eq p place))
          old.chained;
    })

-- a place taken out of its lane
pub unlinked_lane : (groups : List Group) (links : List Link) (place n bucket i : ℕ) (g : Group) → 0 < place → bucket < length groups → bucket ≡ bucket_of (length groups) (hash_at links place)
    → i < LANES → i < length (get_or groups bucket no_group).places → get_or (get_or groups bucket no_group).places i 0 ≡ place
    → g.places ≡ set (get_or groups bucket no_group).places i 0 → g.tags ≡ (get_or groups bucket no_group).tags → g.overflow ≡ (get_or groups bucket no_group).overflow
    → AreGrouped groups links n → AreGroupedBut (set groups bucket g) links n place
unfolding lane_at tag_at overflow_at
unlinked_lane groups links place n bucket i g pos within value small wide is places tags overflow old =
    let count : ℕ = length groups in
    let then : List Group = set groups bucket g in
    let written : lane_at then bucket i ≡ 0 = one_written (λ (x : Group). x.places) groups bucket i 0 g within wide places in
    let others : (b j : ℕ) → (IsLane bucket i b j → ⊥) → lane_at then b j ≡ lane_at groups b j = others_stay (λ (x : Group). x.places) groups bucket i 0 g within places in
    sized groups bucket g (next_at links) (hash_at links) (lane_at then) (tag_at then) (overflow_at then) (λ p. (p ≤ n) × (p ≡ place → ⊥))
    (record {
      laned = freed count (hash_at links) (lane_at groups) (lane_at then) (tag_at groups) (tag_at then) (λ p. p ≤ n) bucket i place
          pos within small is written others (λ b j low. all_stay (λ (x : Group). x.tags) groups bucket g within tags b j) old.laned;
      chained = kept count (next_at links) (next_at links) (hash_at links) (hash_at links) (overflow_at groups) (overflow_at then)
          (λ p. (p ≤ n) × (IsInLane count (hash_at links) (lane_at groups) p → ⊥)) (λ p. ((p ≤ n) × (p ≡ place → ⊥)) × (IsInLane count (hash_at links) (lane_at then) p → ⊥))
          (λ b low. read_stays (λ (x : Group). x.overflow) groups bucket g within overflow b) (λ p here o. refl) (λ p here o. refl)
          (λ p here o. (
            (o.0, λ (e : p ≡ place). o.1 (subst (λ (q : ℕ). IsInLane count (hash_at links) (lane_at groups) q) (sym e) (i, small, ap (λ (b : ℕ). lane_at groups b i) (sym value) ∙ is))),
            λ (m : IsInLane count (hash_at links) (lane_at then) p).
                ⊎_elim
                (λ (k : IsLane bucket i (home_in count (hash_at links) p) m.0).
                let nobody : p ≡ 0 = sym m.2 ∙ ap (λ (b : ℕ). lane_at then b m.0) k.0 ∙ ap (lane_at then bucket) k.1 ∙ written in omega arith)
                (λ (k : IsLane bucket i (home_in count (hash_at links) p) m.0 → ⊥). o.1 (m.0, m.1, sym (others (home_in count (hash_at links) p) m.0 k) ∙ m.2))
                (which bucket i (home_in count (hash_at links) p) m.0),
          ))
          (λ p here m. (
            m.0.0,
            λ (k : IsInLane count (hash_at links) (lane_at groups) p).
                ⊎_elim (λ (z : IsLane bucket i (home_in count (hash_at links) p) k.0). m.0.1 (sym k.2 ∙ ap (λ (b : ℕ). lane_at groups b k.0) z.0 ∙ ap (lane_at groups bucket) z.1 ∙ is))
                (λ (z : IsLane bucket i (home_in count (hash_at links) p) k.0 → ⊥). m.1 (k.0, k.1, others (home_in count (hash_at links) p) k.0 z ∙ k.2))
                (which bucket i (home_in count (hash_at links) p) k.0),
          ))
          old.chained;
    })

-- a place that was in no lane is in its chain no more
without : (groups then : List Group) (links late : List Link) (place n bucket : ℕ) → bucket ≡ bucket_of (length groups) (hash_at links place)
    → ((i : ℕ) → i < LANES → lane_at groups bucket i ≡ place → ⊥)
    → ((b i : ℕ) → lane_at then b i ≡ lane_at groups b i) → ((b i : ℕ) → tag_at then b i ≡ tag_at groups b i)
    → ((p : ℕ) → 0 < p → hash_at late p ≡ hash_at links p)
    → Chained (length groups) (next_at late) (hash_at late) (overflow_at then) (λ p. ((p ≤ n) × (IsInLane (length groups) (hash_at links) (lane_at groups) p → ⊥)) × (p ≡ place → ⊥))
    → AreGrouped groups links n
    → Grouped (length groups) (next_at late) (hash_at late) (lane_at then) (tag_at then) (overflow_at then) (λ p. (p ≤ n) × (p ≡ place → ⊥))
without groups then links late place n bucket value absent lanes tags hashes chains old =
    let count : ℕ = length groups in
    record {
      laned = same_lanes count (hash_at links) (hash_at late) (lane_at groups) (lane_at then) (tag_at groups) (tag_at then) (λ p. p ≤ n) (λ p. (p ≤ n) × (p ≡ place → ⊥))
          (λ b i low. lanes b i) (λ b i low. tags b i) (λ p here o. hashes p here)
          (λ p here o m. (
            o,
            λ (e : p ≡ place).
                let k = subst (λ (q : ℕ). IsInLane count (hash_at links) (lane_at groups) q) e m in
                absent k.0 k.1 (ap (λ (b : ℕ). lane_at groups b k.0) value ∙ k.2),
          ))
          old.laned;
      chained = kept count (next_at late) (next_at late) (hash_at late) (hash_at late) (overflow_at then) (overflow_at then)
          (λ p. ((p ≤ n) × (IsInLane count (hash_at links) (lane_at groups) p → ⊥)) × (p ≡ place → ⊥)) (λ p. ((p ≤ n) × (p ≡ place → ⊥)) × (IsInLane count (hash_at late) (lane_at then) p → ⊥))
          (λ b low. refl) (λ p here o. refl) (λ p here o. refl)
          (λ p here o. (
            (o.0.0, o.1),
            λ (m : IsInLane count (hash_at late) (lane_at then) p).
                o.0.1 (m.0, m.1, ap (λ (h : ℕ). lane_at groups (bucket_of count h) m.0) (sym (hashes p here)) ∙ sym (lanes (home_in count (hash_at late) p) m.0) ∙ m.2),
          ))
          (λ p here m. (
            (
              m.0.0,
              λ (k : IsInLane count (hash_at links) (lane_at groups) p).
                  m.1 (k.0, k.1, lanes (home_in count (hash_at late) p) k.0 ∙ ap (λ (h : ℕ). lane_at groups (bucket_of count h) k.0) (hashes p here) ∙ k.2),
            ),
            m.0.1,
          ))
          chains;
    }

-- the first place of a chain taken out
pub unlinked_first : (groups : List Group) (links : List Link) (place n bucket : ℕ) (g : Group) → 0 < place → bucket < length groups → bucket ≡ bucket_of (length groups) (hash_at links place)
    → ((i : ℕ) → i < LANES → get_or (get_or groups bucket no_group).places i 0 ≡ place → ⊥) → overflow_at groups bucket ≡ place
    → g.places ≡ (get_or groups bucket no_group).places → g.tags ≡ (get_or groups bucket no_group).tags → g.overflow ≡ next_at links place
    → AreGrouped groups links n → AreGroupedBut (set groups bucket g) links n place
unfolding lane_at tag_at overflow_at
unlinked_first groups links place n bucket g pos within value absent is places tags overflow old =
    let then : List Group = set groups bucket g in
    sized groups bucket g (next_at links) (hash_at links) (lane_at then) (tag_at then) (overflow_at then) (λ p. (p ≤ n) × (p ≡ place → ⊥))
    (without groups then links links place n bucket value absent (all_stay (λ (x : Group). x.places) groups bucket g within places) (all_stay (λ (x : Group). x.tags) groups bucket g within tags) (λ p here. refl)
    (less_first (length groups) (next_at links) (hash_at links) (overflow_at groups) (overflow_at then) (λ p. (p ≤ n) × (IsInLane (length groups) (hash_at links) (lane_at groups) p → ⊥)) bucket place
    pos (sym value) is (ap (λ (x : Group). x.overflow) (get_or-set_same groups bucket g no_group within) ∙ overflow) (λ b other. ap (λ (x : Group). x.overflow) (get_or-set_other groups bucket b g no_group other)) old.chained)
    old)

-- a place behind another taken out
pub unlinked_next : (groups then : List Group) (links : List Link) (place before n bucket : ℕ) (x : Link) → then ≡ groups → 0 < place → 0 < before → before ≤ length links → bucket < length groups → bucket ≡ bucket_of (length groups) (hash_at links place)
    → ((i : ℕ) → i < LANES → get_or (get_or groups bucket no_group).places i 0 ≡ place → ⊥) → next_at links before ≡ place → Inside (next_at links) n before (overflow_at groups bucket)
    → x.hash ≡ hash_at links before → x.next ≡ next_at links place
    → AreGrouped groups links n → AreGroupedBut then (set links (before - 1) x) n place
unfolding lane_at
unlinked_next groups then links place before n bucket x stay pos some low within value absent behind inside same to old =
    let late : List Link = set links (before - 1) x in
    subst (λ (gs : List Group). AreGroupedBut gs late n place) (sym stay)
    (without groups groups links late place n bucket value absent (λ b i. refl) (λ b i. refl) (λ p here. hash_kept links before p x some low same here)
    (less_next (length groups) n (next_at links) (next_at late) (hash_at links) (hash_at late) (overflow_at groups) (overflow_at groups) (λ p. (p ≤ n) × (IsInLane (length groups) (hash_at links) (lane_at groups) p → ⊥)) bucket before place
    pos within (sym value) inside behind (next_same links before x some low ∙ to) (λ b under. refl)
    (λ p here other. next_other links before p x some here other) (λ p here. hash_kept links before p x some low same here) old.chained)
    old)

-- a bucket's chain, as a walk
pub chain_of : (groups : List Group) (links : List Link) (n bucket : ℕ) → bucket < length groups → AreGrouped groups links n → IsChain (next_at links) n (overflow_at groups bucket)
chain_of groups links n bucket within old =
    let c = old.chained.chain bucket within in
    record { places = c.places; linked = c.linked; low = λ p m. (c.among p m).0 }

-- the chain of a place that is in no lane, as a walk
pub inside_of : (groups : List Group) (links : List Link) (place n bucket : ℕ) → 0 < place → place ≤ n → bucket < length groups → bucket ≡ bucket_of (length groups) (hash_at links place)
    → ((i : ℕ) → i < LANES → get_or (get_or groups bucket no_group).places i 0 ≡ place → ⊥) → AreGrouped groups links n → Inside (next_at links) n place (overflow_at groups bucket)
unfolding lane_at chain_of
inside_of groups links place n bucket pos few within value absent old =
    record {
      chain = chain_of groups links n bucket within old;
      there = (old.chained.chain bucket within).whole place pos (few, λ (m : IsInLane (length groups) (hash_at links) (lane_at groups) place). absent m.0 m.1 (ap (λ (b : ℕ). lane_at groups b m.0) value ∙ m.2)) (sym value);
    }

-- a hash written to a place that is nowhere
pub other_hash : (groups : List Group) (links : List Link) (place n : ℕ) (x : Link) → 0 < place → place ≤ length links → AreGroupedBut groups links n place → AreGroupedBut groups (set links (place - 1) x) n place
other_hash groups links place n x pos low old =
    regrouped (length groups) (next_at links) (next_at (set links (place - 1) x)) (hash_at links) (hash_at (set links (place - 1) x)) (lane_at groups) (tag_at groups) (overflow_at groups)
    (λ p. (p ≤ n) × (p ≡ place → ⊥)) (λ p. (p ≤ n) × (p ≡ place → ⊥))
    (λ p here o. next_other links place p x pos here o.1) (λ p here o. hash_other links place p x pos here o.1) (λ p here o. o) (λ p here o. o) old

-- the next place of all, which is nowhere so far
pub but_last : (groups : List Group) (links : List Link) (k n : ℕ) → k + 1 ≡ n → AreGrouped groups links k → AreGroupedBut groups links n n
but_last groups links k n is old =
    regrouped (length groups) (next_at links) (next_at links) (hash_at links) (hash_at links) (lane_at groups) (tag_at groups) (overflow_at groups)
    (λ p. p ≤ k) (λ p. (p ≤ n) × (p ≡ n → ⊥))
    (λ p here o. refl) (λ p here o. refl) (λ p here o. (omega arith, λ (z : p ≡ n). let l : p ≤ k = o in omega arith)) (λ p here m. at_most p k n is m.0 m.1) old
  where
    at_most : (p k n : ℕ) → k + 1 ≡ n → p ≤ n → (p ≡ n → ⊥) → p ≤ k
    at_most p k n is low other = omega arith

-- a place behind all others, which is nowhere so far
pub pushed : (groups : List Group) (links then : List Link) (x : Link) → then ≡ links ++ x ∷ [] → AreGrouped groups links (length links) → AreGrouped groups then (length links)
unfolding next_at hash_at
pushed groups links then x made old =
    subst (λ (ls : List Link). AreGrouped groups ls (length links)) (sym made)
    (regrouped (length groups) (next_at links) (next_at (links ++ x ∷ [])) (hash_at links) (hash_at (links ++ x ∷ [])) (lane_at groups) (tag_at groups) (overflow_at groups)
    (λ p. p ≤ length links) (λ p. p ≤ length links)
    (λ p here o. let low : p - 1 < length links = omega arith in ap (λ (l : Link). l.next) (get_or_append_left links (x ∷ []) nothing (p - 1) low))
    (λ p here o. let low : p - 1 < length links = omega arith in ap (λ (l : Link). l.hash) (get_or_append_left links (x ∷ []) nothing (p - 1) low))
    (λ p here o. o) (λ p here o. o) old)

-- a group that has no place
abbrev free_group : ℕ → Group
free_group lanes = record { tags = replicate lanes 0; overflow = 0; places = replicate lanes 0 }

zeros : (n i : ℕ) → get_or {A = ℕ} (replicate n 0) i 0 ≡ 0
zeros n i =
    ⊎_elim (λ (low : i < n). get_or-replicate n i 0 0 low) (λ (far : n ≤ i). get_or_past (replicate n 0) i 0 (omega (arith, length-replicate {A = ℕ} n 0))) (cases_lt i n)

-- free lanes and chains that end at once are of no place
pub none_grouped : (groups : List Group) (links : List Link) (count lanes : ℕ) → groups ≡ replicate count (free_group lanes) → AreGrouped groups links 0
unfolding lane_at overflow_at
none_grouped groups links count lanes is =
    let read : (b : ℕ) → b < length groups → get_or groups b no_group ≡ free_group lanes
    = λ b low.
    let under : b < count = omega (arith, ap length is, length-replicate {A = Group} count (free_group lanes)) in
    ap (λ (gs : List Group). get_or gs b no_group) is ∙ get_or-replicate count b (free_group lanes) no_group under in
    record {
      laned = all_free (length groups) (hash_at links) (lane_at groups) (tag_at groups) (λ p. p ≤ 0) (λ b i low. ap (λ (g : Group). get_or g.places i 0) (read b low) ∙ zeros lanes i);
      chained = none (length groups) (next_at links) (hash_at links) (overflow_at groups) (λ p. (p ≤ 0) × (IsInLane (length groups) (hash_at links) (lane_at groups) p → ⊥))
          (λ b low. ap (λ (g : Group). g.overflow) (read b low)) (λ p pos m. let low : p ≤ 0 = m.0 in omega arith);
    }

-- where neither lanes nor chain have a place that is sought, none of the hash is
pub nowhere : (groups : List Group) (links : List Link) (n bucket hash : ℕ) (IsOther : ℕ → Type 0) → bucket < length groups → bucket ≡ bucket_of (length groups) hash
    → ((i : ℕ) → i < LANES → get_or (get_or groups bucket no_group).tags i 0 ≡ tag_of hash → 0 < get_or (get_or groups bucket no_group).places i 0 → IsOther (get_or (get_or groups bucket no_group).places i 0))
    → ((p : ℕ) → Inside (next_at links) n p (overflow_at groups bucket) → hash_at links p ≡ hash → IsOther p)
    → AreGrouped groups links n → (p : ℕ) → 0 < p → p ≤ n → hash_at links p ≡ hash → IsOther p
unfolding lane_at tag_at
nowhere groups links n bucket hash IsOther within value lanes chain old p pos low is =
    let home : home_in (length groups) (hash_at links) p ≡ bucket = ap (bucket_of (length groups)) is ∙ sym value in
    ⊎_elim
    (λ (f : (i : ℕ) × (i < LANES) × (lane_at groups bucket i ≡ p)).
    let some : 0 < lane_at groups bucket f.0 = subst (λ (q : ℕ). 0 < q) (sym f.2) pos in
    let tagged : tag_at groups bucket f.0 ≡ tag_of hash = old.laned.tagged bucket f.0 within f.1 some ∙ ap (λ (q : ℕ). tag_of (hash_at links q)) f.2 ∙ ap tag_of is in
    subst IsOther f.2 (lanes f.0 f.1 tagged some))
    (λ (no : (i : ℕ) → i < LANES → lane_at groups bucket i ≡ p → ⊥). chain p (inside_of groups links p n bucket pos low within (sym home) no old) is)
    (decide (lane_at groups bucket) LANES p)

-- what follows where nothing was found
pub none_then : {A B : Type 0} (o : Option ℕ) → (A → B) → IfNone o A → IfNone o B
none_then None more h = more h
none_then (Some p) more h = h

-- the view of a place's hash
viewed : (links : List Link) (view : List ℕ) (p : ℕ) → map hash_of links ≡ view → 0 < p → p ≤ length links → get_or view (p - 1) 0 ≡ hash_at links p
unfolding hash_at
viewed links view p is pos low =
    let under : p - 1 < length links = omega arith in ap (λ (xs : List ℕ). get_or xs (p - 1) 0) (sym is) ∙ get_or-map hash_of links (p - 1) nothing 0 under

long_view : (links : List Link) (view : List ℕ) → map hash_of links ≡ view → length links ≡ length view
long_view links view is = sym (length-map links hash_of) ∙ ap length is

pub found_in_view : (IsSought : ℕ → Type 0) (links : List Link) (view : List ℕ) → map hash_of links ≡ view → (o : Option ℕ)
    → IfSome o (λ p. (0 < p) × (p ≤ length links) × IsSought p) → IfSome o (λ p. (0 < p) × (p ≤ length view) × IsSought p)
found_in_view IsSought links view is None h = h
found_in_view IsSought links view is (Some p) h =
    let long : length links ≡ length view = long_view links view is in
    (h.0, subst (λ (n : ℕ). p ≤ n) long h.1, h.2)

pub absent_in_view : (IsOther : ℕ → Type 0) (links : List Link) (view : List ℕ) (hash : ℕ) → map hash_of links ≡ view → (o : Option ℕ)
    → IfNone o ((p : ℕ) → 0 < p → p ≤ length links → hash_at links p ≡ hash → IsOther p) → IfNone o ((p : ℕ) → 0 < p → p ≤ length view → slice_index view (p - 1) ≡ hash → IsOther p)
absent_in_view IsOther links view hash is None h = λ p pos low e.
    let few : p ≤ length links = subst (λ (n : ℕ). p ≤ n) (sym (long_view links view is)) low in
    h p pos few (sym (viewed links view p is pos few) ∙ e)
absent_in_view IsOther links view hash is (Some p) h = h
