-- A worker's queue and forwarder stand for its lines.
use Rattle.std.proofs.Common.{◌≡◌, ℕ, ◌+◌, ◌≤◌, Bool, true, false, List, [], ◌∷◌, ◌++◌, length, drop, zero, suc, Option, Some, None, refl, sym, ap, ◌∙◌, subst, arith, max, length-append}
use Rattle.std.specs.Prelude.{slice_get, ◌||◌, nat_lt, if◌then◌else◌}
use Rattle.std.proofs.lemmas.Bool.{ltb-false, or_parts}
use Rattle.five_tuple.specs.declared.Flow.{Flow}
use Rattle.forwarder.specs.Forwarding.{Forwarding}
use Rattle.selection.specs.Candidates.{Candidates}
use Rattle.forwarder.specs.Serving.{Pick, Serving, Reply, told_in, forwarding_of}
use Rattle.forwarder.proofs.History.{told-table, history-step, history-none}
use Rattle.cluster_node.specs.declared.serving.Item.{Item}
use Rattle.cluster_node.specs.declared.serving.Taken.{Taken}
use Rattle.cluster_node.specs.declared.serving.Taken.TheVariants.{Idle, Behind, Done}
use Rattle.cluster_node.specs.WorkerView.{WorkerView}
use Rattle.cluster_node.specs.Book.{Line, put, placed, taken_count, next_item, serving_under, serving_at, servings, greatest_used, told_next, taken_of, taken, lines_after, worker_of, Stands, WorkerStep, step_told, step_by, step_of}
use Rattle.cluster_node.specs.Record.{fresh}
use Rattle.cluster_node.specs.Rules.{Rules}

none≢some : {i : Item} → ◌≡◌ {A = Option Item} None (Some i) → ⊥
none≢some e = cc

some_injective : {i j : Item} → ◌≡◌ {A = Option Item} (Some i) (Some j) → i ≡ j
some_injective e = cc

pub drop_push : (n : ℕ) (xs : List Item) (i : Item) → n ≤ length xs → drop n (xs ++ i ∷ []) ≡ drop n xs ++ i ∷ []
drop_push zero xs i h = refl
drop_push (suc n) [] i h = absurd (omega arith)
drop_push (suc n) (x ∷ xs) i h = drop_push n xs i (omega arith)

-- the packet at a place, and the packets from there on
pub drop_at : (xs : List Item) (n : ℕ) (i : Item) → slice_get xs n ≡ Some i → (drop n xs ≡ i ∷ drop (n + 1) xs) × (n + 1 ≤ length xs)
drop_at [] n i h = absurd (none≢some h)
drop_at (x ∷ xs) zero i h = (ap (λ (y : Item). y ∷ xs) (some_injective h), omega arith)
drop_at (x ∷ xs) (suc n) i h =
    let r : (drop n xs ≡ i ∷ drop (n + 1) xs) × (n + 1 ≤ length xs) = drop_at xs n i h in
    let e : suc n + 1 ≡ suc (n + 1) = omega arith in
    (subst (λ (m : ℕ). drop n xs ≡ i ∷ drop m (x ∷ xs)) (sym e) r.0, omega arith)

pub drop_past : (xs : List Item) (n : ℕ) → slice_get xs n ≡ None → drop n xs ≡ []
drop_past [] zero h = refl
drop_past [] (suc n) h = refl
drop_past (x ∷ xs) zero h = absurd (none≢some (sym h))
drop_past (x ∷ xs) (suc n) h = drop_past xs n h

-- a worker that is new
pub stands_new : (rules : Rules) → Stands rules [] (fresh rules.capacity rules.idle)
stands_new rules = record {
  sound = omega arith;
  is = ap (λ (f : Forwarding). let w : WorkerView = record { queue = []; used = 0; forwarding = f } in w) (history-none rules.pick rules.capacity rules.idle);
}

-- a packet at the end
pub stands_put : (rules : Rules) (ls : List Line) (w : WorkerView) (i : Item) → Stands rules ls w → Stands rules (put i ∷ ls) (record { queue = w.queue ++ i ∷ []; used = w.used; forwarding = w.forwarding })
stands_put rules ls w i s = record {
  sound = omega (arith, s.sound, length-append (placed ls) (i ∷ []));
  is = ap (λ (v : WorkerView). let u : WorkerView = record { queue = v.queue ++ i ∷ []; used = v.used; forwarding = v.forwarding } in u) s.is
      ∙ ap (λ (q : List Item). let u : WorkerView = record { queue = q; used = greatest_used ls; forwarding = forwarding_of rules.pick rules.capacity rules.idle (servings rules ls) } in u) (sym (drop_push (taken_count ls) (placed ls) i s.sound));
}

abbrev pub Goes : Rules → List Line → ℕ → Bool → Taken → WorkerStep → Type 0
Goes rules ls v r t step = (step.taken ≡ t) × Stands rules (lines_after t ls v r) step.after

module _ (rules : Rules) (ls : List Line) (v : ℕ) (r : Bool) (sound : taken_count ls ≤ length (placed ls)) where
  as_was : Stands rules ls (worker_of rules ls)
  as_was = record { sound = sound; is = refl }

  done : (i : Item) → next_item ls ≡ Some i → (drop (taken_count ls) (placed ls) ≡ i ∷ drop (taken_count ls + 1) (placed ls)) × (taken_count ls + 1 ≤ length (placed ls)) → greatest_used ls ≤ v → Goes rules ls v r (Done i (told_next rules ls i v r).choice) (step_told (worker_of rules ls) i (drop (taken_count ls + 1) (placed ls)) v (told_in rules.pick (forwarding_of rules.pick rules.capacity rules.idle (servings rules ls)) (serving_under (rules.ups v) v i r)))
  done i h d le = (
    ap (λ (t : Reply). Done i t.choice) (told-table rules.pick rules.capacity rules.idle (servings rules ls) (serving_under (rules.ups v) v i r)),
    record {
      sound = omega (arith, d.1);
      is = ap (λ (f : Forwarding). let u : WorkerView = record { queue = drop (taken_count ls + 1) (placed ls); used = v; forwarding = f } in u) (sym (history-step rules.pick rules.capacity rules.idle (servings rules ls) (serving_under (rules.ups v) v i r)))
          ∙ ap (λ (o : Option Item). let u : WorkerView = record { queue = drop (taken_count ls + 1) (placed ls); used = v; forwarding = forwarding_of rules.pick rules.capacity rules.idle (serving_at rules o v r (servings rules ls)) } in u) (sym h)
          ∙ ap (λ (n : ℕ). let u : WorkerView = record { queue = drop (taken_count ls + 1) (placed ls); used = n; forwarding = forwarding_of rules.pick rules.capacity rules.idle (serving_at rules (next_item ls) v r (servings rules ls)) } in u) (let e : v ≡ max v (greatest_used ls) = omega arith in e);
    },
  )

  tested : (i : Item) (b : Bool) → (b ≡ false → greatest_used ls ≤ v) → next_item ls ≡ Some i → (drop (taken_count ls) (placed ls) ≡ i ∷ drop (taken_count ls + 1) (placed ls)) × (taken_count ls + 1 ≤ length (placed ls)) → Goes rules ls v r (if b then Behind else Done i (told_next rules ls i v r).choice) (if b then record { taken = Behind; after = worker_of rules ls } else step_told (worker_of rules ls) i (drop (taken_count ls + 1) (placed ls)) v (told_in rules.pick (forwarding_of rules.pick rules.capacity rules.idle (servings rules ls)) (serving_under (rules.ups v) v i r)))
  tested i true le h d = (refl, as_was)
  tested i false le h d = done i h d (le refl)

  goes : (o : Option Item) → next_item ls ≡ o → Goes rules ls v r (taken_of rules ls o v r) (step_by rules.pick (rules.ups v) (worker_of rules ls) (drop (taken_count ls) (placed ls)) v r)
  goes None h = subst (λ (q : List Item). Goes rules ls v r Idle (step_by rules.pick (rules.ups v) (worker_of rules ls) q v r)) (sym (drop_past (placed ls) (taken_count ls) h)) (refl, as_was)
  goes (Some i) h =
      let d : (drop (taken_count ls) (placed ls) ≡ i ∷ drop (taken_count ls + 1) (placed ls)) × (taken_count ls + 1 ≤ length (placed ls)) = drop_at (placed ls) (taken_count ls) i h in
      subst (λ (q : List Item). Goes rules ls v r (taken_of rules ls (Some i) v r) (step_by rules.pick (rules.ups v) (worker_of rules ls) q v r)) (sym d.0)
      (tested i (nat_lt v i.floor || nat_lt v (greatest_used ls)) (λ e. ltb-false _ _ (or_parts _ _ e).1) h d)

-- a step asks for the candidates of the next packet's flow alone
step_alike : (pick : Pick) (here there : Flow → Option Candidates) → ((x : Flow) → here x ≡ there x) → (w : WorkerView) (q : List Item) (v : ℕ) (r : Bool) → step_by pick there w q v r ≡ step_by pick here w q v r
step_alike pick here there alike w [] v r = refl
step_alike pick here there alike w (i ∷ rest) v r =
    ap (λ (o : Option Candidates). let s : Serving = record { flow = i.flow; at = i.at; version = v; ups = o; refused = r } in let t : WorkerStep = (if nat_lt v i.floor || nat_lt v w.used then record { taken = Behind; after = w } else step_told w i rest v (told_in pick w.forwarding s)) in t) (sym (alike i.flow))

-- one turn of a worker is what its lines say
pub stands_taken : (rules : Rules) (ls : List Line) (w : WorkerView) (pick : Pick) (here : Flow → Option Candidates) (v : ℕ) (r : Bool) → pick ≡ rules.pick → ((x : Flow) → here x ≡ rules.ups v x) → Stands rules ls w → Goes rules ls v r (taken rules ls v r) (step_of pick here w v r)
stands_taken rules ls w pick here v r same alike s =
    subst (λ (p : Pick). Goes rules ls v r (taken rules ls v r) (step_of p here w v r)) (sym same)
    (subst (λ (t : WorkerStep). Goes rules ls v r (taken rules ls v r) t) (step_alike rules.pick here (rules.ups v) alike w w.queue v r)
    (subst (λ (u : WorkerView). Goes rules ls v r (taken rules ls v r) (step_of rules.pick (rules.ups v) u v r)) (sym s.is) (goes rules ls v r s.sound (next_item ls) refl)))
