-- The frames that wait stay those of the packets that wait, event by event.
use Rattle.std.proofs.Common.{◌≡◌, ℕ, ◌+◌, ◌*◌, ◌<◌, ◌≤◌, Bool, true, false, List, [], ◌∷◌, ◌++◌, length, drop, map, zero, suc, Option, Some, None, refl, sym, ap, ◌∙◌, arith}
use Rattle.std.specs.Prelude.{slice_get, ◌==◌, ◌&&◌, if◌then◌else◌, option_map, IsSomeAnd}
use Rattle.std.proofs.lemmas.List.{map-append, drop-append-le, drop-map}
use Rattle.five_tuple.specs.declared.Flow.{Flow}
use Rattle.pool_versions.specs.declared.backend.Backend.{Backend}
use Rattle.pcap_file.specs.Format.{Record}
use Rattle.cluster_node.specs.declared.serving.Item.{Item}
use Rattle.cluster_node.specs.declared.packets.Packet.{Packet}
use Rattle.cluster_node.specs.declared.packets.Packet.TheVariants.{Good, Bad}
use Rattle.cluster_node.specs.declared.events.Event.{Event}
use Rattle.cluster_node.specs.declared.events.Event.TheVariants.{Install, Arrive, Serve, Restart}
use Rattle.cluster_node.specs.declared.events.LogEntry.{LogEntry}
use Rattle.cluster_node.specs.declared.outcomes.Outcome.{Outcome}
use Rattle.cluster_node.specs.declared.outcomes.Outcome.TheVariants.{Installed, Placed, Forward, Dropped, Restarted, Refused}
use Rattle.cluster_node.specs.Book.{Line, put, took, placed, taken_count, next_item}
use Rattle.cluster_node.specs.Record.{accepted, lines_of, line_by}
use Rattle.cluster_node.specs.Records.{node_of, of_node, lines_at}
use Rattle.cluster_node.proofs.Books.{drop_at}
use Rattle.cluster_core.specs.Cluster.{Cluster, TakesFirst, queue_by}
use Rattle.waiting_frames.specs.Queues.{queue_at, HasQueue, Moves, placed_by, put_by, arrived, settled_by, settled, taken_by, taken_out}
use Rattle.waiting_frames.specs.Mirrors.{Mirrors, CanFollow, ComesAs, IsNoArrival}

-- one worker's records are those of its packets, by its lines
abbrev pub Beside : List Record → List Record → List Line → Type 0
Beside all q ls = map (λ r. Some r) q ≡ map (λ i. slice_get all i) (queue_by ls)

drop_nil : (n : ℕ) → drop {A = Item} n [] ≡ []
drop_nil zero = refl
drop_nil (suc n) = refl

drop_more : (n : ℕ) (xs : List Item) → drop 1 (drop n xs) ≡ drop (n + 1) xs
drop_more zero xs = refl
drop_more (suc n) [] = sym (drop_nil (suc n + 1))
drop_more (suc n) (x ∷ xs) = drop_more n xs ∙ ap (λ (m : ℕ). drop m (x ∷ xs)) (let e : suc (n + 1) ≡ suc n + 1 = omega arith in e)

put_beside : (all q : List Record) (ls : List Line) (i : Item) (r : Record) → taken_count ls ≤ length (placed ls) → slice_get all i.packet ≡ Some r → Beside all q ls → Beside all (q ++ r ∷ []) (put i ∷ ls)
put_beside all q ls i r sound here h =
    map-append (λ (x : Record). Some x) q (r ∷ [])
    ∙ ap (λ (l : List (Option Record)). l ++ Some r ∷ []) h
    ∙ ap (λ (o : Option Record). map (λ j. slice_get all j) (queue_by ls) ++ o ∷ []) (sym here)
    ∙ sym (map-append (λ (j : ℕ). slice_get all j) (queue_by ls) (i.packet ∷ []))
    ∙ ap (map (λ j. slice_get all j)) (sym (map-append (λ (j : Item). j.packet) (drop (taken_count ls) (placed ls)) (i ∷ [])))
    ∙ ap (λ (l : List Item). map (λ j. slice_get all j) (map (λ j. j.packet) l)) (sym (drop-append-le (taken_count ls) (placed ls) (i ∷ []) sound))

took_beside : (all q : List Record) (ls : List Line) (v : ℕ) (r : Bool) → Beside all q ls → Beside all (drop 1 q) (took v r ∷ ls)
took_beside all q ls v r h =
    sym (drop-map (λ (x : Record). Some x) 1 q)
    ∙ ap (drop 1) h
    ∙ drop-map (λ (j : ℕ). slice_get all j) 1 (queue_by ls)
    ∙ ap (map (λ j. slice_get all j)) (drop-map (λ (j : Item). j.packet) 1 (drop (taken_count ls) (placed ls)))
    ∙ ap (λ (l : List Item). map (λ j. slice_get all j) (map (λ j. j.packet) l)) (drop_more (taken_count ls) (placed ls))

kept : (all q : List Record) (ls : List Line) (b : Bool) → Beside all q ls → Beside all q (if b then ls else ls)
kept all q ls true h = h
kept all q ls false h = h

-- a worker's lines with one event more
lines_more : (s : LogEntry) (past : List LogEntry) (n w : ℕ) → lines_at (s ∷ past) n w ≡ (if node_of s.event == n then line_by w s.event s.packet s.outcome (lines_at past n w) else lines_at past n w)
lines_more s past n w = go (node_of s.event == n)
  where
    go : (b : Bool) → lines_of w (if b then s ∷ of_node n past else of_node n past) ≡ (if b then line_by w s.event s.packet s.outcome (lines_at past n w) else lines_at past n w)
    go true = refl
    go false = refl

module _ (all q : List Record) (ls : List Line) (h : Beside all q ls) where
  placed_beside : (i : Item) (r : Record) → taken_count ls ≤ length (placed ls) → slice_get all i.packet ≡ Some r → (b d : Bool) → Beside all (if b && d then q ++ r ∷ [] else q) (if b then (if d then put i ∷ ls else ls) else ls)
  placed_beside i r sound here true true = put_beside all q ls i r sound here h
  placed_beside i r sound here true false = h
  placed_beside i r sound here false d = h

  arrived_beside : (n w : ℕ) (r : Record) (e : Event) (p : Option Packet) (o : Outcome) → taken_count ls ≤ length (placed ls) → ComesAs all r e → Beside all (put_by (placed_by e p o) r n w q) (if node_of e == n then line_by w e p o ls else ls)
  arrived_beside n w r (Install m v) p o sound here = absurd here
  arrived_beside n w r (Serve m u v x) p o sound here = absurd here
  arrived_beside n w r (Restart m) p o sound here = absurd here
  arrived_beside n w r (Arrive m k marks) None o sound here = kept all q ls (m == n) h
  arrived_beside n w r (Arrive m k marks) (Some (Bad c)) o sound here = kept all q ls (m == n) h
  arrived_beside n w r (Arrive m k marks) (Some (Good x l t)) Installed sound here = kept all q ls (m == n) h
  arrived_beside n w r (Arrive m k marks) (Some (Good x l t)) (Placed u f) sound here = placed_beside (record { packet = k; flow = x; at = t; floor = f }) r sound here (m == n) (u == w)
  arrived_beside n w r (Arrive m k marks) (Some (Good x l t)) (Forward a u j y b v) sound here = kept all q ls (m == n) h
  arrived_beside n w r (Arrive m k marks) (Some (Good x l t)) (Dropped j c) sound here = kept all q ls (m == n) h
  arrived_beside n w r (Arrive m k marks) (Some (Good x l t)) (Restarted lost) sound here = kept all q ls (m == n) h
  arrived_beside n w r (Arrive m k marks) (Some (Good x l t)) (Refused c) sound here = kept all q ls (m == n) h

  served_beside : (v : ℕ) (x : Bool) (a b d : Bool) → Beside all (if a then (if b && d then drop 1 q else q) else q) (if b then (if d then (if a then took v x ∷ ls else ls) else ls) else ls)
  served_beside v x true true true = took_beside all q ls v x h
  served_beside v x false true true = h
  served_beside v x true true false = h
  served_beside v x false true false = h
  served_beside v x true false d = h
  served_beside v x false false d = h

  restarted_beside : (a b : Bool) → Beside all (if a then (if b then [] else q) else q) (if b then (if a then [] else ls) else ls)
  restarted_beside true true = refl
  restarted_beside true false = h
  restarted_beside false true = h
  restarted_beside false false = h

  same_beside : (a b : Bool) → Beside all (if a then q else q) (if b then ls else ls)
  same_beside true b = kept all q ls b h
  same_beside false b = kept all q ls b h

  settled_beside : (n w : ℕ) (e : Event) (p : Option Packet) (o : Outcome) → IsNoArrival e → Beside all (if accepted o then settled_by e n w q else q) (if node_of e == n then line_by w e p o ls else ls)
  settled_beside n w (Install m v) p o away = same_beside (accepted o) (m == n)
  settled_beside n w (Arrive m k marks) p o away = absurd away
  settled_beside n w (Serve m u v x) p o away = served_beside v x (accepted o) (m == n) (u == w)
  settled_beside n w (Restart m) p o away = restarted_beside (accepted o) (m == n)

-- a worker of the cluster has a queue
has_queue : (all : List Record) (k : Cluster) (past : List LogEntry) (s : LogEntry) (qs : List (List Record)) → CanFollow all k past s qs → (n w : ℕ) → n < k.nodes → w < k.workers → HasQueue qs n w
has_queue all k past s qs f n w there here = (
  let a : w < 16 = omega (arith, f.workers) in a,
  let b : n * 16 + w < length qs = omega (arith, f.workers, f.room) in b,
)

pub follow_arrived : (all : List Record) (k : Cluster) (past : List LogEntry) (s : LogEntry) (r : Record) (qs qs' : List (List Record)) → CanFollow all k past s qs → ComesAs all r s.event → Moves qs qs' (arrived s r) → Mirrors all k (s ∷ past) qs'
follow_arrived all k past s r qs qs' f comes moves n w there here =
    ap (map (λ x. Some x)) (moves.each n w (has_queue all k past s qs f n w there here))
    ∙ arrived_beside all (queue_at qs n w) (lines_at past n w) (f.mirrors n w there here) n w r s.event s.packet s.outcome (f.orderly.sound past f.judged.1 n w there here) comes
    ∙ ap (λ (l : List Line). map (λ i. slice_get all i) (queue_by l)) (sym (lines_more s past n w))

pub follow_settled : (all : List Record) (k : Cluster) (past : List LogEntry) (s : LogEntry) (qs qs' : List (List Record)) → CanFollow all k past s qs → IsNoArrival s.event → Moves qs qs' (settled s) → Mirrors all k (s ∷ past) qs'
follow_settled all k past s qs qs' f away moves n w there here =
    ap (map (λ x. Some x)) (moves.each n w (has_queue all k past s qs f n w there here))
    ∙ settled_beside all (queue_at qs n w) (lines_at past n w) (f.mirrors n w there here) n w s.event s.packet s.outcome away
    ∙ ap (λ (l : List Line). map (λ i. slice_get all i) (queue_by l)) (sym (lines_more s past n w))

-- what is first in a queue is the record of the packet that waits first
first_beside : (all q : List Record) (ls : List Line) (i : Item) → next_item ls ≡ Some i → Beside all q ls → slice_get (map (λ (r : Record). Some r) q) 0 ≡ Some (slice_get all i.packet)
first_beside all q ls i next h =
    ap (λ (l : List (Option Record)). slice_get l 0) h
    ∙ ap (λ (l : List Item). slice_get (map (λ (j : ℕ). slice_get all j) (map (λ (j : Item). j.packet) l)) 0) (drop_at (placed ls) (taken_count ls) i next).0

-- a first record, and what it is
abbrev pub IsFirst : Option Record → Option Record → Type 0
IsFirst first o = (r : Record) × (first ≡ Some r) × (o ≡ Some r)

record_first : (q : List Record) (o : Option Record) → slice_get (map (λ (r : Record). Some r) q) 0 ≡ Some o → IsFirst (slice_get q 0) o
record_first [] o h = absurd (cc)
record_first (r ∷ q) o h = (r, refl, cc)

pub first_sent : (all : List Record) (k : Cluster) (past : List LogEntry) (s : LogEntry) (qs : List (List Record)) → CanFollow all k past s qs → (n w i : ℕ) (x : Flow) (b : Backend) (v : ℕ) → s.outcome ≡ Forward n w i x b v → IsFirst (taken_out s qs) (slice_get all i)
first_sent all k past s qs f n w i x b v e =
    let t : TakesFirst k past s.event n w i = f.orderly.first past s.event s.packet n w i x b v (sym f.judged.0 ∙ e) in
    let out : taken_out s qs ≡ slice_get (queue_at qs n w) 0 = ap (λ (o : Outcome). if accepted o then taken_by s.event qs else None) e ∙ ap (λ (a : Event). taken_by a qs) t.event in
    let first : IsFirst (slice_get (queue_at qs n w) 0) (slice_get all t.item.packet) = record_first (queue_at qs n w) (slice_get all t.item.packet) (first_beside all (queue_at qs n w) (lines_at past n w) t.item t.first (f.mirrors n w t.node t.worker)) in
    (first.0, out ∙ first.1, ap (slice_get all) (sym t.packet) ∙ first.2)

frame_first : {F : Type 0} (of : F → Record) (result : Option F) (o : Option Record) (out : Option Record) → option_map of result ≡ out → IsFirst out o → IsSomeAnd result (λ frame. o ≡ Some (of frame))
frame_first of None o out e h = absurd (let a : None ≡ Some h.0 = e ∙ h.1 in cc)
frame_first of (Some frame) o out e h = h.2 ∙ sym (e ∙ h.1)

pub follow_sent : {F : Type 0} (of : F → Record) (all : List Record) (k : Cluster) (past : List LogEntry) (s : LogEntry) (qs : List (List Record)) (result : Option F) → CanFollow all k past s qs → option_map of result ≡ taken_out s qs → (n w i : ℕ) (x : Flow) (b : Backend) (v : ℕ) → s.outcome ≡ Forward n w i x b v → IsSomeAnd result (λ frame. slice_get all i ≡ Some (of frame))
follow_sent of all k past s qs result f taken n w i x b v e = frame_first of result (slice_get all i) (taken_out s qs) taken (first_sent all k past s qs f n w i x b v e)

-- an event that is accepted
pub moves_accepted : (s : LogEntry) (qs qs' : List (List Record)) → accepted s.outcome ≡ true → Moves qs qs' (settled_by s.event) → Moves qs qs' (settled s)
moves_accepted s qs qs' e m = record {
  count = m.count;
  each = λ n w h. m.each n w h ∙ ap (λ (b : Bool). if b then settled_by s.event n w (queue_at qs n w) else queue_at qs n w) (sym e);
}

pub taken_accepted : (s : LogEntry) (qs : List (List Record)) (o : Option Record) → accepted s.outcome ≡ true → o ≡ taken_by s.event qs → o ≡ taken_out s qs
taken_accepted s qs o e h = h ∙ ap (λ (b : Bool). if b then taken_by s.event qs else None) (sym e)
