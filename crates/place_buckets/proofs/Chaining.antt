-- What the chains of all buckets become.
use Rattle.std.proofs.Common.{◌≡◌, ℕ, ◌<◌, ◌⊎◌, inl, inr, ⊎_elim, refl, sym, ◌∙◌, ap, subst, List, [], ◌∷◌}
use Rattle.std.proofs.lemmas.Bool.{cases_eq}
use Rattle.place_buckets.specs.Groups.{bucket_of, home_in, IsAmong, Linked, Inside, Chain, Chained}
use Rattle.place_buckets.proofs.Walks.{frame, above, same_walk}
use Rattle.place_buckets.proofs.Removal.{Without, from_front, from_inside}

-- a chain whose places keep their links
stays : (next then home after : ℕ → ℕ) (old new : ℕ → Type 0) (bucket first : ℕ)
    → ((p : ℕ) → 0 < p → old p → home p ≡ bucket → then p ≡ next p)
    → ((p : ℕ) → 0 < p → old p → after p ≡ home p)
    → ((p : ℕ) → 0 < p → old p → home p ≡ bucket → new p)
    → ((p : ℕ) → 0 < p → new p → after p ≡ bucket → old p)
    → Chain next home old bucket first → Chain then after new bucket first
stays next then home after old new bucket first links homes more fewer c = record {
  places = c.places;
  linked = frame next then first c.places (λ p pos m. links p pos (c.among p m) (c.within p m)) c.linked;
  among = λ p m. more p (above next first p c.places c.linked m) (c.among p m) (c.within p m);
  within = λ p m. homes p (above next first p c.places c.linked m) (c.among p m) ∙ c.within p m;
  whole = λ p pos n e. let o = fewer p pos n e in c.whole p pos o (sym (homes p pos o) ∙ e);
}

-- a chain with one more place in front
in_front : (next then home after : ℕ → ℕ) (old new : ℕ → Type 0) (bucket first place : ℕ)
    → 0 < place → then place ≡ first → after place ≡ bucket → new place
    → ((p : ℕ) → 0 < p → old p → then p ≡ next p)
    → ((p : ℕ) → 0 < p → old p → after p ≡ home p)
    → ((p : ℕ) → 0 < p → old p → new p)
    → ((p : ℕ) → 0 < p → new p → (p ≡ place) ⊎ old p)
    → Chain next home old bucket first → Chain then after new bucket place
in_front next then home after old new bucket first place pos to here is links homes more fewer c = record {
  places = place ∷ c.places;
  linked = (refl, pos, subst (λ (x : ℕ). Linked then x c.places) (sym to) (frame next then first c.places (λ p low m. links p low (c.among p m)) c.linked));
  among = λ p m. ⊎_elim (λ (e : p ≡ place). subst new (sym e) is) (λ (k : IsAmong p c.places). more p (above next first p c.places c.linked k) (c.among p k)) m;
  within = λ p m. ⊎_elim (λ (e : p ≡ place). subst (λ (x : ℕ). after x ≡ bucket) (sym e) here)
      (λ (k : IsAmong p c.places). homes p (above next first p c.places c.linked k) (c.among p k) ∙ c.within p k) m;
  whole = λ p low n e. ⊎_elim (λ (k : p ≡ place). inl k) (λ (o : old p). inr (c.whole p low o (sym (homes p low o) ∙ e))) (fewer p low n);
}

-- a chain without one of its places
taken : (next then home after : ℕ → ℕ) (old : ℕ → Type 0) (bucket first start place : ℕ)
    → ((p : ℕ) → 0 < p → old p → after p ≡ home p)
    → (c : Chain next home old bucket first) → Without then start place c.places → Chain then after (λ p. old p × (p ≡ place → ⊥)) bucket start
taken next then home after old bucket first start place homes c w = record {
  places = w.rest;
  linked = w.linked;
  among = λ p m. (c.among p (w.from p m), λ (e : p ≡ place). w.gone (subst (λ (x : ℕ). IsAmong x w.rest) e m));
  within = λ p m. let k = w.from p m in homes p (above next first p c.places c.linked k) (c.among p k) ∙ c.within p k;
  whole = λ p pos n e. w.kept p (c.whole p pos n.0 (sym (homes p pos n.0) ∙ e)) n.1;
}

-- chains whose places keep their links
pub kept : (count : ℕ) (next then hash after overflow overflows : ℕ → ℕ) (old new : ℕ → Type 0)
    → ((b : ℕ) → b < count → overflows b ≡ overflow b)
    → ((p : ℕ) → 0 < p → old p → then p ≡ next p)
    → ((p : ℕ) → 0 < p → old p → after p ≡ hash p)
    → ((p : ℕ) → 0 < p → old p → new p)
    → ((p : ℕ) → 0 < p → new p → old p)
    → Chained count next hash overflow old → Chained count then after overflows new
kept count next then hash after overflow overflows old new firsts links hashes more fewer c = record {
  chain = λ b low. subst (λ (first : ℕ). Chain then (home_in count after) new b first) (sym (firsts b low))
      (stays next then (home_in count hash) (home_in count after) old new b (overflow b)
      (λ p pos o e. links p pos o) (λ p pos o. ap (bucket_of count) (hashes p pos o)) (λ p pos o e. more p pos o) (λ p pos n e. fewer p pos n)
      (c.chain b low));
}

-- a place put in front of its bucket's chain
pub fronted : (count : ℕ) (next then hash after overflow overflows : ℕ → ℕ) (old new : ℕ → Type 0) (bucket place : ℕ)
    → 0 < place → new place → home_in count after place ≡ bucket → then place ≡ overflow bucket → overflows bucket ≡ place
    → ((b : ℕ) → (b ≡ bucket → ⊥) → overflows b ≡ overflow b)
    → ((p : ℕ) → 0 < p → old p → then p ≡ next p)
    → ((p : ℕ) → 0 < p → old p → after p ≡ hash p)
    → ((p : ℕ) → 0 < p → old p → new p)
    → ((p : ℕ) → 0 < p → new p → (p ≡ place) ⊎ old p)
    → Chained count next hash overflow old → Chained count then after overflows new
fronted count next then hash after overflow overflows old new bucket place pos is at to first others links hashes more fewer c = record {
  chain = λ b low.
      let homes : (p : ℕ) → 0 < p → old p → home_in count after p ≡ home_in count hash p = λ p here o. ap (bucket_of count) (hashes p here o) in
      ⊎_elim
      (λ (e : b ≡ bucket).
      let within : bucket < count = subst (λ (x : ℕ). x < count) e low in
      let made = in_front next then (home_in count hash) (home_in count after) old new bucket (overflow bucket) place pos to at is links homes more fewer (c.chain bucket within) in
      subst (λ (x : ℕ). Chain then (home_in count after) new x (overflows x)) (sym e) (subst (λ (x : ℕ). Chain then (home_in count after) new bucket x) (sym first) made))
      (λ (other : b ≡ bucket → ⊥). subst (λ (x : ℕ). Chain then (home_in count after) new b x) (sym (others b other))
      (stays next then (home_in count hash) (home_in count after) old new b (overflow b)
      (λ p here o e. links p here o) homes (λ p here o e. more p here o)
      (λ p here n e. ⊎_elim (λ (k : p ≡ place). absurd (other (sym e ∙ ap (home_in count after) k ∙ at))) (λ (o : old p). o) (fewer p here n))
      (c.chain b low)))
      (cases_eq b bucket);
}

-- the first place of a chain taken out
pub less_first : (count : ℕ) (next hash overflow overflows : ℕ → ℕ) (old : ℕ → Type 0) (bucket place : ℕ)
    → 0 < place → home_in count hash place ≡ bucket → overflow bucket ≡ place → overflows bucket ≡ next place
    → ((b : ℕ) → (b ≡ bucket → ⊥) → overflows b ≡ overflow b)
    → Chained count next hash overflow old → Chained count next hash overflows (λ p. old p × (p ≡ place → ⊥))
less_first count next hash overflow overflows old bucket place pos at is to others c = record {
  chain = λ b low. ⊎_elim
      (λ (e : b ≡ bucket).
      let within : bucket < count = subst (λ (x : ℕ). x < count) e low in
      let k = c.chain bucket within in
      let w : Without next (overflows bucket) place k.places
      = subst (λ (x : ℕ). Without next x place k.places) (sym to) (from_front next place k.places (subst (λ (x : ℕ). Linked next x k.places) is k.linked) pos) in
      subst (λ (x : ℕ). Chain next (home_in count hash) (λ p. old p × (p ≡ place → ⊥)) x (overflows x)) (sym e)
      (taken next next (home_in count hash) (home_in count hash) old bucket (overflow bucket) (overflows bucket) place (λ p here o. refl) k w))
      (λ (other : b ≡ bucket → ⊥). subst (λ (x : ℕ). Chain next (home_in count hash) (λ p. old p × (p ≡ place → ⊥)) b x) (sym (others b other))
      (stays next next (home_in count hash) (home_in count hash) old (λ p. old p × (p ≡ place → ⊥)) b (overflow b)
      (λ p here o e. refl) (λ p here o. refl) (λ p here o e. (o, λ (k : p ≡ place). other (sym e ∙ ap (home_in count hash) k ∙ at))) (λ p here n e. n.0)
      (c.chain b low)))
      (cases_eq b bucket);
}

-- a place behind another taken out
pub less_next : (count n : ℕ) (next then hash after overflow overflows : ℕ → ℕ) (old : ℕ → Type 0) (bucket before place : ℕ)
    → 0 < place → bucket < count → home_in count hash place ≡ bucket → Inside next n before (overflow bucket) → next before ≡ place → then before ≡ next place
    → ((b : ℕ) → b < count → overflows b ≡ overflow b)
    → ((p : ℕ) → 0 < p → (p ≡ before → ⊥) → then p ≡ next p)
    → ((p : ℕ) → 0 < p → after p ≡ hash p)
    → Chained count next hash overflow old → Chained count then after overflows (λ p. old p × (p ≡ place → ⊥))
less_next count n next then hash after overflow overflows old bucket before place pos within at inside behind to firsts links hashes c = record {
  chain = λ b low.
      let homes : (p : ℕ) → 0 < p → old p → home_in count after p ≡ home_in count hash p = λ p here o. ap (bucket_of count) (hashes p here) in
      let k = c.chain bucket within in
      let same : inside.chain.places ≡ k.places = same_walk next (overflow bucket) inside.chain.places k.places inside.chain.linked k.linked in
      let there : IsAmong before k.places = subst (λ (ps : List ℕ). IsAmong before ps) same inside.there in
      subst (λ (x : ℕ). Chain then (home_in count after) (λ p. old p × (p ≡ place → ⊥)) b x) (sym (firsts b low))
      (⊎_elim
      (λ (e : b ≡ bucket).
      let w : Without then (overflow bucket) place k.places = from_inside next then (overflow bucket) before place k.places k.linked there behind pos to links in
      let made = taken next then (home_in count hash) (home_in count after) old bucket (overflow bucket) (overflow bucket) place homes k w in
      subst (λ (x : ℕ). Chain then (home_in count after) (λ p. old p × (p ≡ place → ⊥)) x (overflow x)) (sym e) made)
      (λ (other : b ≡ bucket → ⊥).
      stays next then (home_in count hash) (home_in count after) old (λ p. old p × (p ≡ place → ⊥)) b (overflow b)
      (λ p here o e. links p here (λ (z : p ≡ before). other (sym e ∙ ap (home_in count hash) z ∙ k.within before there)))
      homes (λ p here o e. (o, λ (z : p ≡ place). other (sym e ∙ ap (home_in count hash) z ∙ at))) (λ p here m e. m.0)
      (c.chain b low))
      (cases_eq b bucket));
}

-- chains that end at once are of no place
pub none : (count : ℕ) (next hash overflow : ℕ → ℕ) (new : ℕ → Type 0) → ((b : ℕ) → b < count → overflow b ≡ 0) → ((p : ℕ) → 0 < p → new p → ⊥) → Chained count next hash overflow new
none count next hash overflow new ends nobody = record {
  chain = λ b low. record {
    places = [];
    linked = ends b low;
    among = λ p m. absurd m;
    within = λ p m. absurd m;
    whole = λ p pos n e. absurd (nobody p pos n);
  };
}
