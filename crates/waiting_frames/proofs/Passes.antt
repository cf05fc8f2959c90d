-- A packet that waits alone and is taken out at once leaves the queues as they were.
use Rattle.std.proofs.Common.{◌≡◌, ℕ, ◌+◌, ◌*◌, ◌<◌, Bool, true, false, List, [], ◌∷◌, ◌++◌, length, drop, Option, Some, None, refl, sym, ap, ◌∙◌, subst, arith}
use Rattle.std.specs.Prelude.{slice_get, slice_index_or, ◌==◌, ◌&&◌, nat_lt, if◌then◌else◌}
use Rattle.std.proofs.lemmas.Bool.{eqb-true, eq-eqb, true≢false, ltb-true}
use Rattle.five_tuple.specs.declared.Flow.{Flow}
use Rattle.pool_versions.specs.declared.backend.Backend.{Backend}
use Rattle.pcap_file.specs.Format.{Record}
use Rattle.cluster_node.specs.declared.events.Event.{Event}
use Rattle.cluster_node.specs.declared.events.Event.TheVariants.{Install, Arrive, Serve, Restart}
use Rattle.cluster_node.specs.declared.events.LogEntry.{LogEntry}
use Rattle.cluster_node.specs.declared.outcomes.Outcome.TheVariants.{Forward}
use Rattle.cluster_node.specs.Record.{accepted}
use Rattle.cluster_node.specs.Records.{Judged}
use Rattle.cluster_core.specs.Cluster.{Cluster}
use Rattle.waiting_frames.specs.Queues.{queue_at, HasQueue, place_of, Moves, only_at, placed_by, put_by, arrived, settled_by, taken_by, taken_out, changed_at, is_free, serving_on, alone_on, passes}
use Rattle.waiting_frames.specs.Mirrors.{Mirrors, CanFollow, ComesAs, IsNoArrival}
use Rattle.waiting_frames.proofs.Places.{at_place, and_parts, moves_changed}
use Rattle.waiting_frames.proofs.Follows.{follow_arrived, follow_settled, first_sent, moves_accepted, taken_accepted}

-- where an arrival's packet waits alone, and what takes it out
record Passing (s t : LogEntry) (qs : List (List Record)) : Type 0 where
  n : ℕ
  w : ℕ
  version : ℕ
  refused : Bool
  placed : placed_by s.event s.packet s.outcome ≡ Some (n, w)
  event : t.event ≡ Serve n w version refused
  taken : accepted t.outcome ≡ true
  has : HasQueue qs n w
  free : queue_at qs n w ≡ []

none_long : (q : List Record) → length q ≡ 0 → q ≡ []
none_long [] e = refl
none_long (r ∷ q) e = absurd (omega (arith, e))

free_queue : (qs : List (List Record)) (n w : ℕ) → is_free qs n w ≡ true → HasQueue qs n w × (queue_at qs n w ≡ [])
free_queue qs n w h =
    let a : ((nat_lt w 16 && nat_lt (n * 16 + w) (length qs)) ≡ true) × ((length (slice_index_or qs (n * 16 + w) []) == 0) ≡ true) = and_parts _ _ h in
    let b : (nat_lt w 16 ≡ true) × (nat_lt (n * 16 + w) (length qs) ≡ true) = and_parts _ _ a.0 in
    let few : w < 16 = ltb-true w 16 b.0 in
    ((few, ltb-true (n * 16 + w) (length qs) b.1), at_place qs n w few ∙ none_long (slice_index_or qs (n * 16 + w) []) (eqb-true (length (slice_index_or qs (n * 16 + w) [])) 0 a.1))

module _ (s t : LogEntry) (qs : List (List Record)) where
  -- the two workers are one, at which nothing waits
  one_worker : (m u n w v : ℕ) (x : Bool) → placed_by s.event s.packet s.outcome ≡ Some (m, u) → accepted t.outcome ≡ true → t.event ≡ Serve n w v x → ((m == n && u == w) && is_free qs m u) ≡ true → Passing s t qs
  one_worker m u n w v x i j l h =
      let a : ((m == n && u == w) ≡ true) × (is_free qs m u ≡ true) = and_parts _ _ h in
      let b : ((m == n) ≡ true) × ((u == w) ≡ true) = and_parts _ _ a.0 in
      let e : m ≡ n = eqb-true m n b.0 in
      let d : u ≡ w = eqb-true u w b.1 in
      let q : HasQueue qs m u × (queue_at qs m u ≡ []) = free_queue qs m u a.1 in
      record {
        n = m;
        w = u;
        version = v;
        refused = x;
        placed = i;
        event = l ∙ ap (λ (y : ℕ). Serve y w v x) (sym e) ∙ ap (λ (y : ℕ). Serve m y v x) (sym d);
        taken = j;
        has = q.0;
        free = q.1;
      }

  passing_by : (p : Option (ℕ × ℕ)) (a : Bool) (e : Event) → placed_by s.event s.packet s.outcome ≡ p → accepted t.outcome ≡ a → t.event ≡ e → alone_on p (if a then serving_on e else None) qs ≡ true → Passing s t qs
  passing_by None a e i j l h = absurd (true≢false (sym h))
  passing_by (Some at) false e i j l h = absurd (true≢false (sym h))
  passing_by (Some at) true (Install n v) i j l h = absurd (true≢false (sym h))
  passing_by (Some at) true (Arrive n k marks) i j l h = absurd (true≢false (sym h))
  passing_by (Some (m, u)) true (Serve n w v x) i j l h = one_worker m u n w v x i j l h
  passing_by (Some at) true (Restart n) i j l h = absurd (true≢false (sym h))

  passing : passes s t qs ≡ true → Passing s t qs
  passing h = passing_by (placed_by s.event s.packet s.outcome) (accepted t.outcome) t.event refl refl refl h

-- the queues with one record more, behind those of a worker
abbrev with_one : List (List Record) → ℕ → ℕ → Record → List (List Record)
with_one qs n w r = changed_at qs (place_of (length qs) n w) (λ q. q ++ r ∷ [])

pass_each : (q p : List Record) (r : Record) (d : Bool) → p ≡ (if d then q ++ r ∷ [] else q) → (d ≡ true → q ≡ []) → q ≡ (if d then drop 1 p else p)
pass_each q p r true e free = free refl ∙ sym (ap (drop 1) (e ∙ ap (λ (l : List Record). l ++ r ∷ []) (free refl)))
pass_each q p r false e free = sym e

free_there : (qs : List (List Record)) (m u n w : ℕ) → queue_at qs m u ≡ [] → (m == n && u == w) ≡ true → queue_at qs n w ≡ []
free_there qs m u n w h e =
    let p : ((m == n) ≡ true) × ((u == w) ≡ true) = and_parts _ _ e in
    ap (λ (y : ℕ). queue_at qs y w) (sym (eqb-true m n p.0)) ∙ ap (λ (y : ℕ). queue_at qs m y) (sym (eqb-true u w p.1)) ∙ h

pass_moves : (qs : List (List Record)) (m u : ℕ) (r : Record) → queue_at qs m u ≡ [] → Moves (with_one qs m u r) qs (only_at m u (drop 1))
pass_moves qs m u r free =
    let put : Moves qs (with_one qs m u r) (only_at m u (λ q. q ++ r ∷ [])) = moves_changed qs m u (λ q. q ++ r ∷ []) in
    record {
      count = sym put.count;
      each = λ n w h. pass_each (queue_at qs n w) (queue_at (with_one qs m u r) n w) r (m == n && u == w)
          (put.each n w (h.0, subst (λ (y : ℕ). n * 16 + w < y) put.count h.1)) (free_there qs m u n w free);
    }

both_same : (n w : ℕ) → (n == n && w == w) ≡ true
both_same n w = ap (λ (b : Bool). b && w == w) (eq-eqb n n refl) ∙ eq-eqb w w refl

first_there : (qs : List (List Record)) (n w : ℕ) (r : Record) → HasQueue qs n w → queue_at qs n w ≡ [] → slice_get (queue_at (with_one qs n w r) n w) 0 ≡ Some r
first_there qs n w r has free =
    ap (λ (q : List Record). slice_get q 0)
    ((moves_changed qs n w (λ q. q ++ r ∷ [])).each n w has
    ∙ ap (λ (b : Bool). if b then queue_at qs n w ++ r ∷ [] else queue_at qs n w) (both_same n w)
    ∙ ap (λ (q : List Record). q ++ r ∷ []) free)

module _ (all : List Record) (k : Cluster) (past : List LogEntry) (s t : LogEntry) (r : Record) (qs : List (List Record)) (f : CanFollow all k past s qs) (comes : ComesAs all r s.event) (judged : Judged k.judge (t ∷ s ∷ past)) (g : Passing s t qs) where
  arrives : Moves qs (with_one qs g.n g.w r) (arrived s r)
  arrives = subst (λ (p : Option (ℕ × ℕ)). Moves qs (with_one qs g.n g.w r) (put_by p r)) (sym g.placed) (moves_changed qs g.n g.w (λ q. q ++ r ∷ []))

  can_take : CanFollow all k (s ∷ past) t (with_one qs g.n g.w r)
  can_take = record {
    workers = f.workers;
    room = omega (arith, f.room, arrives.count);
    orderly = f.orderly;
    judged = judged;
    mirrors = follow_arrived all k past s r qs (with_one qs g.n g.w r) f comes arrives;
  }

  taken_alone : taken_out t (with_one qs g.n g.w r) ≡ Some r
  taken_alone =
      sym (taken_accepted t (with_one qs g.n g.w r) (Some r) g.taken (sym (ap (λ (e : Event). taken_by e (with_one qs g.n g.w r)) g.event ∙ first_there qs g.n g.w r g.has g.free)))

  mirrors_passed : Mirrors all k (t ∷ s ∷ past) qs
  mirrors_passed = follow_settled all k (s ∷ past) t (with_one qs g.n g.w r) qs can_take
      (subst IsNoArrival (sym g.event) tt)
      (moves_accepted t (with_one qs g.n g.w r) qs g.taken (subst (λ (e : Event). Moves (with_one qs g.n g.w r) qs (settled_by e)) (sym g.event) (pass_moves qs g.n g.w r g.free)))

  sent_passed : (n w i : ℕ) (x : Flow) (b : Backend) (v : ℕ) → t.outcome ≡ Forward n w i x b v → slice_get all i ≡ Some r
  sent_passed n w i x b v e =
      let h = first_sent all k (s ∷ past) t (with_one qs g.n g.w r) can_take n w i x b v e in
      h.2 ∙ sym h.1 ∙ taken_alone

pub pass_mirrors : (all : List Record) (k : Cluster) (past : List LogEntry) (s t : LogEntry) (r : Record) (qs : List (List Record)) → passes s t qs ≡ true → CanFollow all k past s qs → ComesAs all r s.event → Judged k.judge (t ∷ s ∷ past) → Mirrors all k (t ∷ s ∷ past) qs
pass_mirrors all k past s t r qs h f comes judged = mirrors_passed all k past s t r qs f comes judged (passing s t qs h)

pub pass_sent : (all : List Record) (k : Cluster) (past : List LogEntry) (s t : LogEntry) (r : Record) (qs : List (List Record)) → passes s t qs ≡ true → CanFollow all k past s qs → ComesAs all r s.event → Judged k.judge (t ∷ s ∷ past) → (n w i : ℕ) (x : Flow) (b : Backend) (v : ℕ) → t.outcome ≡ Forward n w i x b v → slice_get all i ≡ Some r
pass_sent all k past s t r qs h f comes judged = sent_passed all k past s t r qs f comes judged (passing s t qs h)
