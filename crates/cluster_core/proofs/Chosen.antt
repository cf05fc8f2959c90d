-- Each backend that a packet is sent to is the scheme's pick under its origin.
use Rattle.std.proofs.Common.{◌≡◌, ℕ, ◌-◌, ◌%◌, ◌^◌, max, Bool, true, false, List, [], ◌∷◌, Option, Some, None, refl, sym, ◌∙◌, subst}
use Rattle.std.specs.Prelude.{if◌then◌else◌, nat_lt}
use Rattle.five_tuple.specs.declared.Flow.{Flow}
use Rattle.pool_versions.specs.declared.backend.Backend.{Backend}
use Rattle.connection_table.specs.declared.table.Entry.{Entry}
use Rattle.connection_table.specs.Touches.{same_flow}
use Rattle.connection_table.proofs.Standing.{same_flow-true}
use Rattle.connection_table.specs.Touches.{Touch, last_touch, since, distinct_flows, in_time, remembered, standing}
use Rattle.forwarder.specs.declared.Choice.{Choice}
use Rattle.forwarder.specs.declared.Choice.TheVariants.{Forward, NoService, NoBackend}
use Rattle.selection.specs.Candidates.{Candidates}
use Rattle.selection.specs.Readied.{keeps}
use Rattle.forwarder.specs.Serving.{Pick, Serving, Reply, kept, told_asked, told_by, told_under, serve_as, with_touch, touches, asked_count, clock_of, told_after, told}

abbrev pub Up : Type 0
Up = ℕ → Flow → Option (Candidates)

-- the pick under that version
pub record Chosen (pick : Pick) (up : Up) (x : Flow) (b : Backend) (origin : ℕ) : Type 0 where
  pub ups : Candidates
  pub turn : ℕ
  pub here : up origin x ≡ Some ups
  pub picked : pick ups x turn ≡ Some b

module _ (pick : Pick) (up : Up) where
  abbrev pub EntryOk : Flow → Option Entry → Type 0
  EntryOk x None = Unit {0}
  EntryOk x (Some e) = Chosen pick up x e.backend e.version

  abbrev pub TouchOk : Option Touch → Type 0
  TouchOk None = Unit {0}
  TouchOk (Some t) = Chosen pick up t.0 t.1.backend t.1.version

  abbrev pub ChoiceOk : Flow → Choice → Type 0
  ChoiceOk x (Forward b o) = Chosen pick up x b o
  ChoiceOk x NoService = Unit {0}
  ChoiceOk x NoBackend = Unit {0}

  abbrev pub AllOk : List Touch → Type 0
  AllOk [] = Unit {0}
  AllOk (t ∷ ts) = Chosen pick up t.0 t.1.backend t.1.version × AllOk ts

  abbrev pub Coherent : List Serving → Type 0
  Coherent [] = Unit {0}
  Coherent (s ∷ ss) = (s.ups ≡ up s.version s.flow) × Coherent ss

  last_ok : (x : Flow) (ts : List Touch) → AllOk ts → EntryOk x (last_touch x ts)
  last_ok x [] h = tt
  last_ok x (t ∷ ts) h = go (last_ok x ts h.1) (same_flow t.0 x) refl
    where
      go : EntryOk x (last_touch x ts) → (b : Bool) → same_flow t.0 x ≡ b → EntryOk x (if b then Some t.1 else last_touch x ts)
      go ih true e = subst (λ (y : Flow). Chosen pick up y t.1.backend t.1.version) (same_flow-true t.0 x e) h.0
      go ih false e = ih

  time_ok : (idle : Option ℕ) (clock : ℕ) (x : Flow) (o : Option Entry) → EntryOk x o → EntryOk x (in_time idle clock o)
  time_ok idle clock x None h = h
  time_ok None clock x (Some e) h = h
  time_ok (Some limit) clock x (Some e) h = go (nat_lt limit (clock - e.last))
    where
      go : (b : Bool) → EntryOk x (if b then None else Some e)
      go true = tt
      go false = h

  remembered_ok : (capacity : ℕ) (x : Flow) (ts : List Touch) → AllOk ts → EntryOk x (remembered capacity x ts)
  remembered_ok capacity x ts h = go (nat_lt (distinct_flows (since x ts)) capacity)
    where
      go : (b : Bool) → EntryOk x (if b then last_touch x ts else None)
      go true = last_ok x ts h
      go false = tt

  stands_ok : (capacity : ℕ) (idle : Option ℕ) (clock : ℕ) (x : Flow) (ts : List Touch) → AllOk ts → EntryOk x (standing capacity idle clock x ts)
  stands_ok capacity idle clock x ts h = time_ok idle clock x (remembered capacity x ts) (remembered_ok capacity x ts h)

  kept_ok : (x : Flow) (o : Option Entry) (ups : Candidates) → EntryOk x o → EntryOk x (kept o ups)
  kept_ok x None ups h = tt
  kept_ok x (Some e) ups h = go (keeps e.backend ups)
    where
      go : (b : Bool) → EntryOk x (if b then Some e else None)
      go true = h
      go false = tt

  abbrev pub ToldOk : Flow → Reply → Type 0
  ToldOk x t = ChoiceOk x t.choice × TouchOk t.touch

  asked_ok : (clock : ℕ) (s : Serving) (ups : Candidates) (stood : Option Entry) (turn : ℕ) → s.ups ≡ up s.version s.flow → s.ups ≡ Some ups → EntryOk s.flow stood → (o : Option Backend) → pick ups s.flow turn ≡ o → ToldOk s.flow (told_asked clock s stood o)
  asked_ok clock s ups None turn c u h None e = (tt, tt)
  asked_ok clock s ups (Some d) turn c u h None e = (tt, h)
  asked_ok clock s ups (Some d) turn c u h (Some b) e = let r : Chosen pick up s.flow b s.version = record { ups = ups; turn = turn; here = sym c ∙ u; picked = e } in (r, r)
  asked_ok clock s ups None turn c u h (Some b) e = let r : Chosen pick up s.flow b s.version = record { ups = ups; turn = turn; here = sym c ∙ u; picked = e } in (r, go s.refused r)
    where
      go : (q : Bool) → Chosen pick up s.flow b s.version → TouchOk (if q then None else Some (s.flow, record { backend = b; version = s.version; last = clock }))
      go true r = tt
      go false r = r

  by_ok : (clock : ℕ) (s : Serving) (ups : Candidates) (stood : Option Entry) (turn : ℕ) → s.ups ≡ up s.version s.flow → s.ups ≡ Some ups → EntryOk s.flow stood → (k : Option Entry) → EntryOk s.flow k → ToldOk s.flow (told_by pick clock s ups stood k turn)
  by_ok clock s ups stood turn c u h (Some e) k = (k, k)
  by_ok clock s ups stood turn c u h None k = asked_ok clock s ups stood turn c u h (pick ups s.flow turn) refl

  serve_ok : (clock : ℕ) (s : Serving) (stood : Option Entry) (turn : ℕ) → s.ups ≡ up s.version s.flow → EntryOk s.flow stood → ToldOk s.flow (serve_as pick clock s stood turn)
  serve_ok clock s stood turn c h = go s.ups refl
    where
      go : (o : Option (Candidates)) → s.ups ≡ o → ToldOk s.flow (told_under pick clock s o stood turn)
      go None u = (tt, tt)
      go (Some ups) u = by_ok clock s ups stood turn c u h (kept stood ups) (kept_ok s.flow stood ups h)

  with_ok : (o : Option Touch) (ts : List Touch) → TouchOk o → AllOk ts → AllOk (with_touch o ts)
  with_ok None ts h k = k
  with_ok (Some t) ts h k = (h, k)

  told_ok : (capacity : ℕ) (idle : Option ℕ) (past : List Reply) (s : Serving) → s.ups ≡ up s.version s.flow → AllOk (touches past) → ToldOk s.flow (told_after pick capacity idle past s)
  told_ok capacity idle past s c h =
      let clock : ℕ = max (clock_of past) s.at in
      serve_ok clock s (standing capacity idle clock s.flow (touches past)) (asked_count past % 2 ^ 64) c (stands_ok capacity idle clock s.flow (touches past) h)

  -- every touch of a forwarder holds a pick under its origin
  pub touches_ok : (capacity : ℕ) (idle : Option ℕ) (ss : List Serving) → Coherent ss → AllOk (touches (told pick capacity idle ss))
  touches_ok capacity idle [] h = tt
  touches_ok capacity idle (s ∷ ss) h =
      let before : AllOk (touches (told pick capacity idle ss)) = touches_ok capacity idle ss h.1 in
      with_ok _ _ (told_ok capacity idle (told pick capacity idle ss) s h.0 before).1 before

  -- and so does every answer
  pub choice_ok : (capacity : ℕ) (idle : Option ℕ) (ss : List Serving) (s : Serving) → Coherent ss → s.ups ≡ up s.version s.flow → ChoiceOk s.flow (told_after pick capacity idle (told pick capacity idle ss) s).choice
  choice_ok capacity idle ss s h c = (told_ok capacity idle (told pick capacity idle ss) s c (touches_ok capacity idle ss h)).0
