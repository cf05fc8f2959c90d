-- A node stands for its record, action by action.
use Rattle.std.proofs.Common.{◌≡◌, ℕ, ◌+◌, ◌-◌, ◌<◌, ◌≤◌, Bool, true, false, List, [], ◌∷◌, ◌++◌, length, drop, zero, suc, Option, Some, None, refl, sym, ap, ◌∙◌, subst, arith, ◌⊎◌, inl, inr, replicate, Result, Ok, Err, length-append, ◌%◌, ◌^◌, map}
use Rattle.std.specs.Prelude.{slice_get, slice_set, ◌==◌, nat_lt, if◌then◌else◌, ◌||◌}
use Rattle.std.specs.List.{list_any}
use Rattle.std.specs.Prelude.{IfOk, OnOk}
use Rattle.std.specs.declared.alloc.AllocError.{AllocError}
use Rattle.std.proofs.lemmas.Bool.{eqb-true, lt-ltb, le-ltb, true≢false, eq-eqb, ne_eqb}
use Rattle.five_tuple.specs.declared.Flow.{Flow}
use Rattle.forwarder.specs.declared.Choice.{Choice}
use Rattle.forwarder.specs.declared.Choice.TheVariants as choices
use Rattle.selection.specs.Candidates.{Candidates}
use Rattle.forwarder.specs.Serving.{Pick, Reply, told_in, ups_in}
use Rattle.selection.specs.Readied.{Readied}
use Rattle.cluster_node.specs.declared.serving.Item.{Item}
use Rattle.cluster_node.specs.declared.serving.Taken.{Taken}
use Rattle.cluster_node.specs.declared.serving.Taken.TheVariants as takings
use Rattle.cluster_node.specs.WorkerView.{WorkerView}
use Rattle.cluster_node.specs.Book.{Line, put, took, placed, taken_count, next_item, taken, lines_after, serving_under, Stands, WorkerStep, step_of, step_by, step_told}
use Rattle.cluster_node.proofs.Books.{Goes, stands_taken, stands_put, stands_new, drop_at, drop_past}
use Rattle.cluster_node.specs.NodeView.{NodeView}
use Rattle.cluster_node.specs.declared.packets.Packet.{Packet}
use Rattle.cluster_node.specs.declared.packets.Packet.TheVariants.{Good, Bad}
use Rattle.cluster_node.specs.declared.events.Event.{Event}
use Rattle.cluster_node.specs.declared.events.Event.TheVariants.{Install, Arrive, Serve, Restart}
use Rattle.cluster_node.specs.declared.outcomes.Outcome.{Outcome}
use Rattle.cluster_node.specs.declared.outcomes.Outcome.TheVariants.{Installed, Placed, Forward, Dropped, Restarted, Refused}
use Rattle.cluster_node.specs.declared.outcomes.Reason.TheVariants.{NoWorker, UnknownVersion, NotNewer, Idle}
use Rattle.cluster_node.specs.declared.outcomes.Cause.TheVariants.{NoVersion}
use Rattle.steering.specs.Steering.{home_of, refuses, place_for, cursor_after}
use Rattle.steering.specs.declared.Placed.{Placed as Placing}
use Rattle.steering.specs.declared.Placed.TheVariants as placings
use Rattle.cluster_node.proofs.Below.{place_below, home_below}
use Rattle.cluster_node.specs.Rules.{Rules}
use Rattle.cluster_node.specs.declared.events.LogEntry.{LogEntry}
use Rattle.cluster_node.specs.Record.{accepted, newest_of, installed_of, refusals_of, refused_home, placed_count, served_count, placed_by, more_placed, lines_of, of_taken, of_choice, by_queue, serve_verdict, prepared_at, IsPrepared, ArePrepared, install_verdict, arrive_verdict, steered, node_verdict, node_say, fresh, cleared, waits, IsKnown, NodeStands, NodeGoes}
use Rattle.cluster_node.specs.PrivateSteps.{NodeStep, OneStep, one_prepared, one_step, serve_at, serve_step, install_step, arrive_on, arrive_step, place_step, put_at, refuse, restarted}
use Rattle.std.proofs.Math.Nat.{mod-add-mod}

-- a list with one element set
pub get_set : (ws : List WorkerView) (w j : ℕ) (u x : WorkerView) → slice_get (slice_set ws w u) j ≡ Some x → (((j ≡ w) × (u ≡ x)) ⊎ ((j ≡ w → ⊥) × (slice_get ws j ≡ Some x)))
get_set [] w j u x h = absurd (cc)
get_set (y ∷ ws) zero zero u x h = inl (refl, (cc))
get_set (y ∷ ws) zero (suc j) u x h = inr ((λ e. absurd (omega arith)), h)
get_set (y ∷ ws) (suc w) zero u x h = inr ((λ e. absurd (omega arith)), h)
get_set (y ∷ ws) (suc w) (suc j) u x h = elim (get_set ws w j u x h) [ inl p ↦ inl (ap suc p.0, p.1) | inr p ↦ inr ((λ e. p.0 (omega arith)), p.1) ]

pub length_set : (ws : List WorkerView) (w : ℕ) (u : WorkerView) → length (slice_set ws w u) ≡ length ws
length_set [] w u = refl
length_set (y ∷ ws) zero u = refl
length_set (y ∷ ws) (suc w) u = ap suc (length_set ws w u)

pub get_below : (ws : List WorkerView) (w : ℕ) (u : WorkerView) → slice_get ws w ≡ Some u → w < length ws
get_below [] w u h = absurd (cc)
get_below (y ∷ ws) zero u h = omega arith
get_below (y ∷ ws) (suc w) u h = omega (arith, get_below ws w u h)

pub get_past : (ws : List WorkerView) (w : ℕ) → slice_get ws w ≡ None → length ws ≤ w
get_past [] w h = omega arith
get_past (y ∷ ws) zero h = absurd (cc)
get_past (y ∷ ws) (suc w) h = omega (arith, get_past ws w h)

-- the lines after what came of a turn
accepted_lines : (n w : ℕ) (t : Taken) (ls : List Line) (v : ℕ) (r : Bool) → lines_after t ls v r ≡ (if accepted (of_taken n w t) then took v r ∷ ls else ls)
accepted_lines n w takings.Idle ls v r = refl
accepted_lines n w takings.Behind ls v r = refl
accepted_lines n w (takings.Done i c) ls v r = chosen c
  where
    chosen : (c : Choice) → lines_after (takings.Done i c) ls v r ≡ (if accepted (of_choice n w i c) then took v r ∷ ls else ls)
    chosen (choices.Forward b o) = refl
    chosen choices.NoService = refl
    chosen choices.NoBackend = refl

abbrev pub OneGoes : Rules → List LogEntry → ℕ → ℕ → Bool → Outcome → OneStep → Type 0
OneGoes rules past w v r o s = (s.outcome ≡ o) × Stands rules (if accepted s.outcome then took v r ∷ lines_of w past else lines_of w past) s.after

abbrev pub of_step : ℕ → ℕ → WorkerStep → OneStep
of_step n w t = record { outcome = of_taken n w t.taken; after = t.after }

-- one turn of a worker, as an outcome
one_turn : (rules : Rules) (past : List LogEntry) (n w v : ℕ) (r : Bool) (t : WorkerStep) → Goes rules (lines_of w past) v r (taken rules (lines_of w past) v r) t → OneGoes rules past w v r (of_taken n w (taken rules (lines_of w past) v r)) (of_step n w t)
one_turn rules past n w v r t g = (
  ap (λ (x : Taken). of_taken n w x) g.0,
  subst (λ (l : List Line). Stands rules l t.after) (ap (λ (x : Taken). lines_after x (lines_of w past) v r) (sym g.0) ∙ accepted_lines n w t.taken (lines_of w past) v r) g.1,
)

module _ {S : Type 0} (pick_of : S → ℕ → Pick) (rules : Rules) (ps : List (Readied S)) (past : List LogEntry) (n w v : ℕ) (r : Bool) (u : WorkerView) (st : Stands rules (lines_of w past) u) where
  one_done : IsPrepared pick_of rules ps v → OneGoes rules past w v r (of_taken n w (taken rules (lines_of w past) v r)) (one_prepared pick_of n w u (prepared_at v ps) r)
  one_done pr =
      subst (λ (o : Option (Readied S)). OneGoes rules past w v r (of_taken n w (taken rules (lines_of w past) v r)) (one_prepared pick_of n w u o r)) (sym pr.found)
      (subst (λ (k : ℕ). OneGoes rules past w v r (of_taken n w (taken rules (lines_of w past) v r)) (of_step n w (step_of (pick_of pr.version.scheme pr.version.size) (λ x. ups_in pr.version x) u k r))) (sym pr.number)
      (one_turn rules past n w v r (step_of (pick_of pr.version.scheme pr.version.size) (λ x. ups_in pr.version x) u v r)
      (stands_taken rules (lines_of w past) u (pick_of pr.version.scheme pr.version.size) (λ x. ups_in pr.version x) v r pr.pick pr.ups st)))

  one_known : ArePrepared pick_of rules ps (installed_of past) → (b : Bool) → list_any (λ j. j == v) (installed_of past) ≡ b → OneGoes rules past w v r (if b then of_taken n w (taken rules (lines_of w past) v r) else Refused UnknownVersion) (if b then one_prepared pick_of n w u (prepared_at v ps) r else record { outcome = Refused UnknownVersion; after = u })
  one_known all true e = one_done (all v e)
  one_known all false e = (refl, st)

-- the queue is empty where no packet is next, and only there
empty_queue : (rules : Rules) (ls : List Line) (u : WorkerView) → Stands rules ls u → next_item ls ≡ None → (length u.queue == 0) ≡ false → ⊥
empty_queue rules ls u st h e =
    let q : u.queue ≡ [] = ap (λ (x : WorkerView). x.queue) st.is ∙ drop_past (placed ls) (taken_count ls) h in
    true≢false (ap (λ (l : List Item). length l == 0) (sym q) ∙ e)

full_queue : (rules : Rules) (ls : List Line) (u : WorkerView) (i : Item) → Stands rules ls u → next_item ls ≡ Some i → (length u.queue == 0) ≡ true → ⊥
full_queue rules ls u i st h e =
    let q : u.queue ≡ i ∷ drop (taken_count ls + 1) (placed ls) = ap (λ (x : WorkerView). x.queue) st.is ∙ (drop_at (placed ls) (taken_count ls) i h).0 in
    let z : length u.queue ≡ 0 = eqb-true _ _ e in
    let k : length u.queue ≡ suc (length (drop (taken_count ls + 1) (placed ls))) = ap length q in
    absurd (omega arith)

one_waiting : {S : Type 0} (pick_of : S → ℕ → Pick) (rules : Rules) (ps : List (Readied S)) (past : List LogEntry) (n w v : ℕ) (r : Bool) (u : WorkerView) → ArePrepared pick_of rules ps (installed_of past) → Stands rules (lines_of w past) u → (o : Option Item) → next_item (lines_of w past) ≡ o → (b : Bool) → (length u.queue == 0) ≡ b → OneGoes rules past w v r (by_queue rules (installed_of past) (lines_of w past) o n w v r) (if b then record { outcome = Refused Idle; after = u } else if list_any (λ j. j == v) (installed_of past) then one_prepared pick_of n w u (prepared_at v ps) r else record { outcome = Refused UnknownVersion; after = u })
one_waiting pick_of rules ps past n w v r u all st None h true e = (refl, st)
one_waiting pick_of rules ps past n w v r u all st (Some i) h false e = one_known pick_of rules ps past n w v r u st all (list_any (λ j. j == v) (installed_of past)) refl
one_waiting pick_of rules ps past n w v r u all st None h false e = absurd (empty_queue rules (lines_of w past) u st h e)
one_waiting pick_of rules ps past n w v r u all st (Some i) h true e = absurd (full_queue rules (lines_of w past) u i st h e)

pub one_goes : {S : Type 0} (pick_of : S → ℕ → Pick) (rules : Rules) (ps : List (Readied S)) (past : List LogEntry) (n w v : ℕ) (r : Bool) (u : WorkerView) → ArePrepared pick_of rules ps (installed_of past) → Stands rules (lines_of w past) u → OneGoes rules past w v r (by_queue rules (installed_of past) (lines_of w past) (next_item (lines_of w past)) n w v r) (one_step pick_of ps (installed_of past) n w u v r)
one_goes pick_of rules ps past n w v r u all st = one_waiting pick_of rules ps past n w v r u all st (next_item (lines_of w past)) refl (length u.queue == 0) refl

same_if : (b : Bool) (ls : List Line) → (if b then ls else ls) ≡ ls
same_if true ls = refl
same_if false ls = refl

-- how many packets wait, where one worker was set
waits_set : (ws : List WorkerView) (w : ℕ) (u y : WorkerView) → slice_get ws w ≡ Some u → waits (slice_set ws w y) + length u.queue ≡ waits ws + length y.queue
waits_set [] w u y h = absurd (cc)
waits_set (v ∷ ws) zero u y h = let e : v ≡ u = cc in let f : length v.queue ≡ length u.queue = ap (λ (x : WorkerView). length x.queue) e in omega arith
waits_set (v ∷ ws) (suc w) u y h = let i : waits (slice_set ws w y) + length u.queue ≡ waits ws + length y.queue = waits_set ws w u y h in omega arith

-- a serving that is accepted takes one packet out
fewer : Bool → ℕ → ℕ
fewer b k = if b then k + 1 else k

pub choice_accepted : (n w : ℕ) (i : Item) (c : Choice) → accepted (of_choice n w i c) ≡ true
choice_accepted n w i (choices.Forward b o) = refl
choice_accepted n w i choices.NoService = refl
choice_accepted n w i choices.NoBackend = refl

abbrev pub Shrinks : ℕ → OneStep → Type 0
Shrinks q s = q ≡ (if accepted s.outcome then length s.after.queue + 1 else length s.after.queue)

shrink_queue : (pick : Pick) (here : Flow → Option Candidates) (n w : ℕ) (u : WorkerView) (v : ℕ) (r : Bool) (q : List Item) → u.queue ≡ q → Shrinks (length q) (of_step n w (step_by pick here u q v r))
shrink_queue pick here n w u v r [] e = ap length (sym e)
shrink_queue pick here n w u v r (i ∷ rest) e = go (nat_lt v i.floor || nat_lt v u.used)
  where
    go : (b : Bool) → let s : WorkerStep = (if b then record { taken = takings.Behind; after = u } else step_told u i rest v (told_in pick u.forwarding (serving_under here v i r))) in Shrinks (length (i ∷ rest)) (of_step n w s)
    go true = ap length (sym e)
    go false =
        let t : Reply = told_in pick u.forwarding (serving_under here v i r) in
        let f : length (i ∷ rest) ≡ length rest + 1 = omega arith in
        f ∙ ap (λ (b : Bool). if b then length rest + 1 else length rest) (sym (choice_accepted n w i t.choice))

shrink_prepared : {S : Type 0} (pick_of : S → ℕ → Pick) (n w : ℕ) (u : WorkerView) (q : Option (Readied S)) (r : Bool) → Shrinks (length u.queue) (one_prepared pick_of n w u q r)
shrink_prepared pick_of n w u None r = refl
shrink_prepared pick_of n w u (Some p) r = shrink_queue (pick_of p.scheme p.size) (λ x. ups_in p x) n w u p.number r u.queue refl

shrinks : {S : Type 0} (pick_of : S → ℕ → Pick) (ps : List (Readied S)) (installed : List ℕ) (n w : ℕ) (u : WorkerView) (v : ℕ) (r : Bool) → Shrinks (length u.queue) (one_step pick_of ps installed n w u v r)
shrinks pick_of ps installed n w u v r = go (length u.queue == 0) (list_any (λ j. j == v) installed)
  where
    go : (b d : Bool) → Shrinks (length u.queue) (if b then record { outcome = Refused Idle; after = u } else if d then one_prepared pick_of n w u (prepared_at v ps) r else record { outcome = Refused UnknownVersion; after = u })
    go true d = refl
    go false true = shrink_prepared pick_of n w u (prepared_at v ps) r
    go false false = refl

-- the packets that wait after a serving
served_waits : (b : Bool) (now was q a s p : ℕ) → now + q ≡ was + a → q ≡ (if b then a + 1 else a) → was + s ≡ p → now + (if b then s + 1 else s) ≡ p
served_waits true now was q a s p e f g = omega arith
served_waits false now was q a s p e f g = omega arith

abbrev pub StepGoes : Rules → List LogEntry → Event → Option Packet → Outcome → NodeStep → Type 0
StepGoes rules past a x o s = (s.outcome ≡ o) × NodeStands rules (record { event = a; packet = x; outcome = s.outcome } ∷ past) s.after

-- a refused serving leaves the record's lines
stands_refused : (rules : Rules) (past : List LogEntry) (m : NodeView) (n w v : ℕ) (r : Bool) (x : Option Packet) → NodeStands rules past m → NodeStands rules (record { event = Serve n w v r; packet = x; outcome = Refused NoWorker } ∷ past) m
stands_refused rules past m n w v r x st = record {
  some = st.some;
  newest = st.newest;
  installed = st.installed;
  cursor = st.cursor;
  count = st.count;
  waiting = st.waiting;
  each = λ j u h. subst (λ (l : List Line). Stands rules l u) (sym (same_if (w == j) (lines_of j past))) (st.each j u h);
}

module _ {S : Type 0} (pick_of : S → ℕ → Pick) (rules : Rules) (ps : List (Readied S)) (past : List LogEntry) (m : NodeView) (n w v : ℕ) (r : Bool) (x : Option Packet) (all : ArePrepared pick_of rules ps (installed_of past)) (st : NodeStands rules past m) where
  serve_set : (u : WorkerView) → slice_get m.workers w ≡ Some u → StepGoes rules past (Serve n w v r) x (serve_verdict rules past n w v r) (serve_at pick_of ps m n w v r (Some u))
  serve_set u h =
      let one : OneStep = one_step pick_of ps m.installed n w u v r in
      let g : OneGoes rules past w v r (by_queue rules (installed_of past) (lines_of w past) (next_item (lines_of w past)) n w v r) (one_step pick_of ps m.installed n w u v r) =
      subst (λ (vs : List ℕ). OneGoes rules past w v r (by_queue rules (installed_of past) (lines_of w past) (next_item (lines_of w past)) n w v r) (one_step pick_of ps vs n w u v r)) (sym st.installed) (one_goes pick_of rules ps past n w v r u all (st.each w u h)) in (
        g.0 ∙ ap (λ (b : Bool). if b then by_queue rules (installed_of past) (lines_of w past) (next_item (lines_of w past)) n w v r else Refused NoWorker) (sym (lt-ltb w rules.workers (subst (λ (k : ℕ). w < k) st.count (get_below m.workers w u h)))),
        record {
          some = st.some;
          newest = st.newest;
          installed = st.installed;
          cursor = st.cursor;
          count = length_set m.workers w (one_step pick_of ps m.installed n w u v r).after ∙ st.count;
          waiting = served_waits (accepted (one_step pick_of ps m.installed n w u v r).outcome) (waits (slice_set m.workers w (one_step pick_of ps m.installed n w u v r).after)) (waits m.workers) (length u.queue) (length (one_step pick_of ps m.installed n w u v r).after.queue) (served_count past) (placed_count past)
              (waits_set m.workers w u (one_step pick_of ps m.installed n w u v r).after h) (shrinks pick_of ps m.installed n w u v r) st.waiting;
          each = λ j y k. elim (get_set m.workers w j (one_step pick_of ps m.installed n w u v r).after y k) [
            | inl p ↦ subst (λ (i : ℕ). Stands rules (if w == i then (if accepted (one_step pick_of ps m.installed n w u v r).outcome then took v r ∷ lines_of i past else lines_of i past) else lines_of i past) y) (sym p.0)
                (subst (λ (b : Bool). Stands rules (if b then (if accepted (one_step pick_of ps m.installed n w u v r).outcome then took v r ∷ lines_of w past else lines_of w past) else lines_of w past) y) (sym (eq-eqb w w refl))
                (subst (λ (z : WorkerView). Stands rules (if accepted (one_step pick_of ps m.installed n w u v r).outcome then took v r ∷ lines_of w past else lines_of w past) z) p.1 g.1))
            | inr p ↦ subst (λ (b : Bool). Stands rules (if b then (if accepted (one_step pick_of ps m.installed n w u v r).outcome then took v r ∷ lines_of j past else lines_of j past) else lines_of j past) y) (sym (ne_eqb w j (λ e. p.0 (sym e)))) (st.each j y p.1)
          ];
        },
      )

  served_at : (o : Option WorkerView) → slice_get m.workers w ≡ o → StepGoes rules past (Serve n w v r) x (serve_verdict rules past n w v r) (serve_at pick_of ps m n w v r o)
  served_at None h = (
    ap (λ (b : Bool). if b then by_queue rules (installed_of past) (lines_of w past) (next_item (lines_of w past)) n w v r else Refused NoWorker) (sym (le-ltb w rules.workers (subst (λ (k : ℕ). k ≤ w) st.count (get_past m.workers w h)))),
    stands_refused rules past m n w v r x st,
  )
  served_at (Some u) h = serve_set u h

  pub serve_goes : StepGoes rules past (Serve n w v r) x (serve_verdict rules past n w v r) (serve_step pick_of ps m n w v r)
  serve_goes = served_at (slice_get m.workers w) refl

-- an installation
pub install_goes : (rules : Rules) (past : List LogEntry) (m : NodeView) (n v : ℕ) (x : Option Packet) (known : Bool) → NodeStands rules past m → StepGoes rules past (Install n v) x (install_verdict known (newest_of past) v) (install_step known m v)
install_goes rules past m n v x known st = at known
  where
    newer : (b : Bool) → StepGoes rules past (Install n v) x (if b then Installed else Refused NotNewer) (if b then record { outcome = Installed; after = record { newest = v; installed = v ∷ m.installed; cursor = m.cursor; workers = m.workers } } else refuse (Refused NotNewer) m)
    newer true = (refl, record { some = st.some; newest = refl; installed = ap (λ (vs : List ℕ). v ∷ vs) st.installed; cursor = st.cursor; count = st.count; waiting = st.waiting; each = st.each })
    newer false = (refl, record { some = st.some; newest = st.newest; installed = st.installed; cursor = st.cursor; count = st.count; waiting = st.waiting; each = st.each })

    at : (b : Bool) → StepGoes rules past (Install n v) x (install_verdict b (newest_of past) v) (install_step b m v)
    at false = (refl, record { some = st.some; newest = st.newest; installed = st.installed; cursor = st.cursor; count = st.count; waiting = st.waiting; each = st.each })
    at true = subst (λ (k : ℕ). StepGoes rules past (Install n v) x (if nat_lt k v then Installed else Refused NotNewer) (install_step true m v)) st.newest (newer (nat_lt m.newest v))

-- the other workers' lines, and the one that a packet is placed on
abbrev pub with_item : ℕ → ℕ → Item → List Line → List Line
with_item w j i ls = if w == j then put i ∷ ls else ls

placed_each : (rules : Rules) (past : List LogEntry) (m : NodeView) (w : ℕ) (i : Item) → NodeStands rules past m → (u : WorkerView) → slice_get m.workers w ≡ Some u → (j : ℕ) (y : WorkerView) → slice_get (slice_set m.workers w (record { queue = u.queue ++ i ∷ []; used = u.used; forwarding = u.forwarding })) j ≡ Some y → Stands rules (with_item w j i (lines_of j past)) y
placed_each rules past m w i st u h j y k = elim (get_set m.workers w j (record { queue = u.queue ++ i ∷ []; used = u.used; forwarding = u.forwarding }) y k) [
  | inl p ↦ subst (λ (q : ℕ). Stands rules (if w == q then put i ∷ lines_of q past else lines_of q past) y) (sym p.0)
      (subst (λ (b : Bool). Stands rules (if b then put i ∷ lines_of w past else lines_of w past) y) (sym (eq-eqb w w refl))
      (subst (λ (z : WorkerView). Stands rules (put i ∷ lines_of w past) z) p.1 (stands_put rules (lines_of w past) u i (st.each w u h))))
  | inr p ↦ subst (λ (b : Bool). Stands rules (if b then put i ∷ lines_of j past else lines_of j past) y) (sym (ne_eqb w j (λ e. p.0 (sym e)))) (st.each j y p.1)
]

cursor_step : (b : Bool) (workers c : ℕ) → cursor_after b workers (c % workers) ≡ (if b then c + 1 else c) % workers
cursor_step true workers c = mod-add-mod c workers 1
cursor_step false workers c = refl

-- a node, its newest version and cursor named
abbrev pub view_of : NodeView → ℕ → ℕ → NodeView
view_of m newest cursor = record { newest = newest; installed = m.installed; cursor = cursor; workers = m.workers }

module _ (rules : Rules) (past : List LogEntry) (m : NodeView) (n k : ℕ) (marks : List Bool) (x : Flow) (l t : ℕ) (st : NodeStands rules past m) where
  abbrev pub Home : ℕ
  Home = home_of rules.plain rules.workers x

  abbrev pub View : NodeView
  View = view_of m (newest_of past) (refusals_of rules past % rules.workers)

  abbrev pub Turned : ℕ
  Turned = cursor_after (refuses marks Home) rules.workers (refusals_of rules past % rules.workers)

  turned : (newest_of past == 0) ≡ false → Turned ≡ (refused_home rules (newest_of past) marks (Some (Good x l t)) (refusals_of rules past)) % rules.workers
  turned h = cursor_step (refuses marks Home) rules.workers (refusals_of rules past)
      ∙ ap (λ (b : Bool). (if b then refusals_of rules past else if refuses marks Home then refusals_of rules past + 1 else refusals_of rules past) % rules.workers) (sym h)

  placed_on : (newest_of past == 0) ≡ false → (w : ℕ) → w < rules.workers → (o : Option WorkerView) → slice_get m.workers w ≡ o → StepGoes rules past (Arrive n k marks) (Some (Good x l t)) (Placed w (newest_of past))
      (let s : NodeStep = record { outcome = Placed w (newest_of past); after = record { newest = newest_of past; installed = m.installed; cursor = Turned; workers = put_at o m.workers w (record { packet = k; flow = x; at = t; floor = newest_of past }) } } in s)
  placed_on h w lt None e = absurd (let f : length m.workers ≤ w = get_past m.workers w e in let g : length m.workers ≡ rules.workers = st.count in omega arith)
  placed_on h w lt (Some u) e = (
    refl,
    record {
      some = st.some;
      newest = refl;
      installed = st.installed;
      cursor = turned h;
      count = length_set m.workers w _ ∙ st.count;
      waiting =
          (let i : Item = record { packet = k; flow = x; at = t; floor = newest_of past } in
          let a : waits (slice_set m.workers w (record { queue = u.queue ++ i ∷ []; used = u.used; forwarding = u.forwarding })) + length u.queue ≡ waits m.workers + length (u.queue ++ i ∷ []) = waits_set m.workers w u (record { queue = u.queue ++ i ∷ []; used = u.used; forwarding = u.forwarding }) e in
          let b : length (u.queue ++ i ∷ []) ≡ length u.queue + 1 = length-append u.queue (i ∷ []) in
          let c : waits m.workers + served_count past ≡ placed_count past = st.waiting in
          let d : waits (slice_set m.workers w (record { queue = u.queue ++ i ∷ []; used = u.used; forwarding = u.forwarding })) + served_count past ≡ placed_count past + 1 = omega arith in d);
      each = placed_each rules past m w (record { packet = k; flow = x; at = t; floor = newest_of past }) st u e;
    },
  )

  placed_for : (newest_of past == 0) ≡ false → (o : Placing) → place_for marks rules.workers Home (refusals_of rules past % rules.workers) ≡ o → StepGoes rules past (Arrive n k marks) (Some (Good x l t)) (steered (newest_of past) k o) (place_step View k x t Turned o)
  placed_for h placings.RingsFull e = (refl, record { some = st.some; newest = refl; installed = st.installed; cursor = turned h; count = st.count; waiting = st.waiting; each = st.each })
  placed_for h (placings.Worker w) e = placed_on h w (place_below marks rules.workers Home (refusals_of rules past % rules.workers) w st.some (home_below rules.plain rules.workers x st.some) e) (slice_get m.workers w) refl

  good_at : (b : Bool) → (newest_of past == 0) ≡ b → StepGoes rules past (Arrive n k marks) (Some (Good x l t))
      (if b then Dropped k NoVersion else steered (newest_of past) k (place_for marks rules.workers Home (refusals_of rules past % rules.workers)))
      (if b then refuse (Dropped k NoVersion) View else place_step View k x t Turned (place_for marks rules.workers Home (refusals_of rules past % rules.workers)))
  good_at true h = (
    refl,
    record {
      some = st.some;
      newest = refl;
      installed = st.installed;
      cursor = ap (λ (b : Bool). (if b then refusals_of rules past else if refuses marks Home then refusals_of rules past + 1 else refusals_of rules past) % rules.workers) (sym h);
      count = st.count;
      waiting = st.waiting;
      each = st.each;
    },
  )
  good_at false h = placed_for h (place_for marks rules.workers Home (refusals_of rules past % rules.workers)) refl

  pub good_goes : StepGoes rules past (Arrive n k marks) (Some (Good x l t)) (arrive_verdict rules (newest_of past) (refusals_of rules past % rules.workers) k marks (Some (Good x l t))) (arrive_on rules.plain (length m.workers) m k marks x t)
  good_goes =
      subst (λ (workers : ℕ). StepGoes rules past (Arrive n k marks) (Some (Good x l t)) (arrive_verdict rules (newest_of past) (refusals_of rules past % rules.workers) k marks (Some (Good x l t))) (arrive_on rules.plain workers m k marks x t)) (sym st.count)
      (subst (λ (c : ℕ). StepGoes rules past (Arrive n k marks) (Some (Good x l t)) (arrive_verdict rules (newest_of past) (refusals_of rules past % rules.workers) k marks (Some (Good x l t))) (arrive_on rules.plain rules.workers (view_of m m.newest c) k marks x t)) (sym st.cursor)
      (subst (λ (v : ℕ). StepGoes rules past (Arrive n k marks) (Some (Good x l t)) (arrive_verdict rules (newest_of past) (refusals_of rules past % rules.workers) k marks (Some (Good x l t))) (arrive_on rules.plain rules.workers (view_of m v (refusals_of rules past % rules.workers)) k marks x t)) (sym st.newest)
      (good_at (newest_of past == 0) refl)))

-- an arrival
pub arrive_goes : (rules : Rules) (past : List LogEntry) (m : NodeView) (n k : ℕ) (marks : List Bool) (x : Option Packet) → NodeStands rules past m → StepGoes rules past (Arrive n k marks) x (arrive_verdict rules (newest_of past) (refusals_of rules past % rules.workers) k marks x) (arrive_step rules.plain m k marks x)
arrive_goes rules past m n k marks None st = (refl, record { some = st.some; newest = st.newest; installed = st.installed; cursor = st.cursor; count = st.count; waiting = st.waiting; each = st.each })
arrive_goes rules past m n k marks (Some (Bad c)) st = (refl, record { some = st.some; newest = st.newest; installed = st.installed; cursor = st.cursor; count = st.count; waiting = st.waiting; each = st.each })
arrive_goes rules past m n k marks (Some (Good x l t)) st = good_goes rules past m n k marks x l t st

-- the packets placed in a life are no more than the events
placed_le : (past : List LogEntry) → placed_count past ≤ length past
placed_le [] = omega arith
placed_le (s ∷ past) = go (placed_count past) (length past) (placed_le past) s.event s.outcome
  where
    by_outcome : (c l : ℕ) → c ≤ l → (o : Outcome) → more_placed o c ≤ suc l
    by_outcome c l h (Placed w f) = omega arith
    by_outcome c l h Installed = omega arith
    by_outcome c l h (Forward n w k x b v) = omega arith
    by_outcome c l h (Dropped k e) = omega arith
    by_outcome c l h (Restarted k) = omega arith
    by_outcome c l h (Refused r) = omega arith

    either : (c l : ℕ) → c ≤ l → (b : Bool) → (if b then 0 else c) ≤ suc l
    either c l h true = omega arith
    either c l h false = omega arith

    go : (c l : ℕ) → c ≤ l → (e : Event) (o : Outcome) → placed_by e o c ≤ suc l
    go c l h (Install n v) o = omega arith
    go c l h (Arrive n k marks) o = by_outcome c l h o
    go c l h (Serve n w v r) o = omega arith
    go c l h (Restart n) o = either c l h (accepted o)

cleared_get : (ws : List WorkerView) (w : ℕ) (y : WorkerView) → slice_get (map cleared ws) w ≡ Some y → (u : WorkerView) × (slice_get ws w ≡ Some u) × (y ≡ cleared u)
cleared_get [] w y h = absurd (cc)
cleared_get (u ∷ ws) zero y h = (u, refl, (cc))
cleared_get (u ∷ ws) (suc w) y h = cleared_get ws w y h

cleared_waits : (ws : List WorkerView) → waits (map cleared ws) ≡ 0
cleared_waits [] = refl
cleared_waits (u ∷ ws) = ap (λ (k : ℕ). 0 + k) (cleared_waits ws)

cleared_length : (ws : List WorkerView) → length (map cleared ws) ≡ length ws
cleared_length [] = refl
cleared_length (u ∷ ws) = ap suc (cleared_length ws)

-- a restart
restart_goes : (rules : Rules) (past : List LogEntry) (m : NodeView) (n lost : ℕ) (x : Option Packet) → length past < 2 ^ 64 → NodeStands rules past m → lost ≡ waits m.workers % 2 ^ 64 → NodeGoes rules past (Restart n) x (Restarted lost) (restarted m)
restart_goes rules past m n lost x few st e =
    let a : waits m.workers + served_count past ≡ placed_count past = st.waiting in
    let b : placed_count past ≤ length past = placed_le past in
    let c : lost ≡ placed_count past - served_count past = omega (arith, e) in (
      ap Restarted c,
      record {
        some = st.some;
        newest = st.newest;
        installed = st.installed;
        cursor = (let s : 0 < rules.workers = st.some in let z : 0 ≡ 0 % rules.workers = omega arith in z);
        count = cleared_length m.workers ∙ st.count;
        waiting = ap (λ (k : ℕ). k + 0) (cleared_waits m.workers);
        each = λ w y h.
            (let t : (u : WorkerView) × (slice_get m.workers w ≡ Some u) × (y ≡ cleared u) = cleared_get m.workers w y h in
            let s : Stands rules (lines_of w past) t.0 = st.each w t.0 t.1 in
            subst (λ (z : WorkerView). Stands rules [] z) (sym (t.2 ∙ ap cleared s.is)) (stands_new rules));
      },
    )

-- the same, with the outcome in place of the step's
pub as_said : (rules : Rules) (past : List LogEntry) (e : Event) (x : Option Packet) (o : Outcome) (m : NodeView) (s : NodeStep) → o ≡ s.outcome → m ≡ s.after → StepGoes rules past e x (node_verdict rules past e x) s → NodeGoes rules past e x o m
as_said rules past a x o m s e f g = (
  e ∙ g.0,
  subst (λ (z : NodeView). NodeStands rules (node_say rules past a x ∷ past) z) (sym f) (subst (λ (q : Outcome). NodeStands rules (record { event = a; packet = x; outcome = q } ∷ past) s.after) g.0 g.1),
)

result_said : (rules : Rules) (past : List LogEntry) (a b : Event) (x : Option Packet) (r : Result Outcome AllocError) (m : NodeView) (s : NodeStep) → a ≡ b → IfOk r (λ o. o ≡ s.outcome) → OnOk r (m ≡ s.after) → StepGoes rules past b x (node_verdict rules past b x) s → IfOk r (λ o. NodeGoes rules past a x o m)
result_said rules past a b x (Ok o) m s e h k g = subst (λ (c : Event). NodeGoes rules past c x o m) (sym e) (as_said rules past b x o m s h k g)
result_said rules past a b x (Err d) m s e h k g = tt

pub arrive_said : (rules : Rules) (past : List LogEntry) (m after : NodeView) (e : Event) (n k : ℕ) (marks : List Bool) (x : Option Packet) (plain : List ℕ → ℕ) (r : Result Outcome AllocError) → rules.plain ≡ plain → NodeStands rules past m → e ≡ Arrive n k marks → IfOk r (λ o. o ≡ (arrive_step plain m k marks x).outcome) → OnOk r (after ≡ (arrive_step plain m k marks x).after) → IfOk r (λ o. NodeGoes rules past e x o after)
arrive_said rules past m after e n k marks x plain r f st d h j = result_said rules past e (Arrive n k marks) x r after (arrive_step plain m k marks x) d h j
    (subst (λ (q : List ℕ → ℕ). StepGoes rules past (Arrive n k marks) x (arrive_verdict rules (newest_of past) (refusals_of rules past % rules.workers) k marks x) (arrive_step q m k marks x)) f (arrive_goes rules past m n k marks x st))

pub install_said : (rules : Rules) (past : List LogEntry) (m after : NodeView) (e : Event) (n v : ℕ) (x : Option Packet) (known : Bool) (r : Result Outcome AllocError) → IsKnown rules e known → NodeStands rules past m → e ≡ Install n v → IfOk r (λ o. o ≡ (install_step known m v).outcome) → OnOk r (after ≡ (install_step known m v).after) → IfOk r (λ o. NodeGoes rules past e x o after)
install_said rules past m after e n v x known r k st d h j =
    let same : rules.known v ≡ known = subst (λ (a : Event). IsKnown rules a known) d k in
    result_said rules past e (Install n v) x r after (install_step known m v) d h j
    (subst (λ (b : Bool). StepGoes rules past (Install n v) x (install_verdict (rules.known v) (newest_of past) v) (install_step b m v)) same (install_goes rules past m n v x (rules.known v) st))

pub serve_said : {S : Type 0} (pick_of : S → ℕ → Pick) (rules : Rules) (ps : List (Readied S)) (past : List LogEntry) (m after : NodeView) (e : Event) (n w v : ℕ) (f : Bool) (x : Option Packet) (r : Result Outcome AllocError) → ArePrepared pick_of rules ps (installed_of past) → NodeStands rules past m → e ≡ Serve n w v f → IfOk r (λ o. o ≡ (serve_step pick_of ps m n w v f).outcome) → OnOk r (after ≡ (serve_step pick_of ps m n w v f).after) → IfOk r (λ o. NodeGoes rules past e x o after)
serve_said pick_of rules ps past m after e n w v f x r all st d h j = result_said rules past e (Serve n w v f) x r after (serve_step pick_of ps m n w v f) d h j (serve_goes pick_of rules ps past m n w v f x all st)

pub restart_said : (rules : Rules) (past : List LogEntry) (m after : NodeView) (e : Event) (n lost : ℕ) (x : Option Packet) → length past < 2 ^ 64 → NodeStands rules past m → e ≡ Restart n → lost ≡ waits m.workers % 2 ^ 64 → after ≡ restarted m → NodeGoes rules past e x (Restarted lost) after
restart_said rules past m after e n lost x few st d h j =
    subst (λ (c : Event). NodeGoes rules past c x (Restarted lost) after) (sym d) (subst (λ (z : NodeView). NodeGoes rules past (Restart n) x (Restarted lost) z) (sym j) (restart_goes rules past m n lost x few st h))

get_replicate : (n : ℕ) (f : WorkerView) (k : ℕ) (u : WorkerView) → slice_get (replicate n f) k ≡ Some u → u ≡ f
get_replicate zero f k u h = absurd (cc)
get_replicate (suc n) f zero u h = cc
get_replicate (suc n) f (suc k) u h = get_replicate n f k u h

length_replicate : (n : ℕ) (f : WorkerView) → length (replicate n f) ≡ n
length_replicate zero f = refl
length_replicate (suc n) f = ap suc (length_replicate n f)

pub fresh_waits : (n capacity : ℕ) (idle : Option ℕ) → waits (replicate n (fresh capacity idle)) ≡ 0
fresh_waits zero capacity idle = refl
fresh_waits (suc n) capacity idle = ap (λ (k : ℕ). 0 + k) (fresh_waits n capacity idle)

-- a new node stands for the empty record
pub stands_none : (rules : Rules) → 0 < rules.workers → NodeStands rules [] (record { newest = 0; installed = []; cursor = 0; workers = replicate rules.workers (fresh rules.capacity rules.idle) })
stands_none rules some = record {
  some = some;
  newest = refl;
  installed = refl;
  cursor = (let z : 0 ≡ 0 % rules.workers = omega arith in z);
  count = length_replicate rules.workers (fresh rules.capacity rules.idle);
  waiting = ap (λ (k : ℕ). k + 0) (fresh_waits rules.workers rules.capacity rules.idle);
  each = λ w u h. subst (λ (z : WorkerView). Stands rules [] z) (sym (get_replicate rules.workers (fresh rules.capacity rules.idle) w u h)) (stands_new rules);
}
