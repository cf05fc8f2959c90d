-- In every judged record what left the queues is no more than what came into them.
use Rattle.std.proofs.Common.{◌≡◌, ℕ, ◌+◌, ◌-◌, ◌<◌, ◌≤◌, Bool, true, false, List, [], ◌∷◌, length, zero, suc, Option, Some, None, refl, sym, ap, ◌∙◌, subst, arith, length-append}
use Rattle.std.specs.Prelude.{◌==◌, nat_lt, slice_get, if◌then◌else◌}
use Rattle.std.proofs.lemmas.Bool.{false≢true, eqb-true, eq-eqb, ne_eqb, ltb-true, ltb-false, lt-ltb, le-ltb}
use Rattle.five_tuple.specs.declared.Flow.{Flow}
use Rattle.cluster_node.specs.Book.{Line, put, took, placed, taken_count, next_item}
use Rattle.cluster_node.specs.declared.packets.Packet.{Packet}
use Rattle.cluster_node.specs.declared.packets.Packet.TheVariants.{Good, Bad}
use Rattle.cluster_node.specs.declared.events.Event.{Event}
use Rattle.cluster_node.specs.declared.events.Event.TheVariants.{Install, Arrive, Serve, Restart}
use Rattle.cluster_node.specs.declared.events.LogEntry.{LogEntry}
use Rattle.cluster_node.specs.declared.outcomes.Outcome.{Outcome}
use Rattle.cluster_node.specs.declared.outcomes.Outcome.TheVariants.{Installed, Placed, Forward, Dropped, Restarted, Refused}
use Rattle.cluster_node.specs.declared.outcomes.Reason.TheVariants.{NoNode, NoWorker}
use Rattle.cluster_node.specs.Rules.{Rules}
use Rattle.cluster_node.specs.Record.{accepted, placed_line, arrived_line, line_by, lines_of, more_placed, placed_by, placed_count, served_by, served_count, by_queue, node_verdict, serve_verdict, installed_of}
use Rattle.cluster_node.specs.Records.{Judged, WasRead, node_of, of_node}
use Rattle.cluster_core.specs.Runs.{verdict, verdicts, say, packet_of}
use Rattle.cluster_core.specs.Laws.{record_after}
use Rattle.cluster_core.specs.Totals.{came, went, came_of, went_of, came_all, went_all}
use Rattle.cluster_core.specs.Histories.{AllRead, RecordsAreBalanced, ListsAreBalanced}
use Rattle.cluster_core.proofs.Balance.{Moves, moves}
use Rattle.cluster_core.proofs.Nodes.{named_read}
use Rattle.cluster_core.proofs.Order.{sound}

-- sums over the first numbers
abbrev pub sum_below : ℕ → (ℕ → ℕ) → ℕ
sum_below zero f = 0
sum_below (suc n) f = f n + sum_below n f

sum_same : (n : ℕ) (f g : ℕ → ℕ) → ((k : ℕ) → k < n → f k ≡ g k) → sum_below n f ≡ sum_below n g
sum_same zero f g h = refl
sum_same (suc n) f g h =
    let a : f n ≡ g n = h n (omega arith) in
    let b : sum_below n f ≡ sum_below n g = sum_same n f g (λ k lt. h k (omega arith)) in
    omega arith

sum_le : (n : ℕ) (f g : ℕ → ℕ) → ((k : ℕ) → f k ≤ g k) → sum_below n f ≤ sum_below n g
sum_le zero f g h = omega arith
sum_le (suc n) f g h =
    let a : f n ≤ g n = h n in
    let b : sum_below n f ≤ sum_below n g = sum_le n f g h in
    omega arith

sum_none : (n : ℕ) → sum_below n (λ k. 0) ≡ 0
sum_none zero = refl
sum_none (suc n) = let h : sum_below n (λ k. 0) ≡ 0 = sum_none n in omega arith

-- where one number's part changes
sum_change : (n k : ℕ) (f g : ℕ → ℕ) → k < n → ((j : ℕ) → (k ≡ j → ⊥) → f j ≡ g j) → sum_below n g + f k ≡ sum_below n f + g k
sum_change zero k f g lt h = absurd (omega arith)
sum_change (suc n) k f g lt h = go (k == n) refl (λ l. sum_change n k f g l h)
  where
    go : (b : Bool) → (k == n) ≡ b → (k < n → sum_below n g + f k ≡ sum_below n f + g k) → (g n + sum_below n g) + f k ≡ (f n + sum_below n f) + g k
    go true e i =
        let d : k ≡ n = eqb-true k n e in
        let r : sum_below n f ≡ sum_below n g = sum_same n f g (λ j l. h j (λ q. absurd (omega arith))) in
        let a : f k ≡ f n = ap f d in
        let b : g k ≡ g n = ap g d in
        omega arith
    go false e i =
        let d : k ≡ n → ⊥ = λ q. false≢true (sym e ∙ eq-eqb k n q) in
        let a : f n ≡ g n = h n d in
        let r : sum_below n g + f k ≡ sum_below n f + g k = i (omega arith) in
        omega arith

-- where one number's part may grow by one
sum_bump_out : (n u : ℕ) (f g : ℕ → ℕ) → n ≤ u → ((k : ℕ) → g k ≡ (if u == k then f k + 1 else f k)) → sum_below n g ≡ sum_below n f
sum_bump_out n u f g le h = sum_same n g f (λ k lt. h k ∙ ap (λ (b : Bool). if b then f k + 1 else f k) (ne_eqb u k (λ e. absurd (omega arith))))

sum_bump : (n u : ℕ) (f g : ℕ → ℕ) → ((k : ℕ) → g k ≡ (if u == k then f k + 1 else f k)) → sum_below n g ≤ sum_below n f + 1
sum_bump zero u f g h = omega arith
sum_bump (suc n) u f g h = go (u == n) refl (h n) (sum_bump n u f g h)
  where
    go : (b : Bool) → (u == n) ≡ b → g n ≡ (if b then f n + 1 else f n) → sum_below n g ≤ sum_below n f + 1 → g n + sum_below n g ≤ (f n + sum_below n f) + 1
    go true e a i =
        let d : u ≡ n = eqb-true u n e in
        let r : sum_below n g ≡ sum_below n f = sum_bump_out n u f g (omega arith) h in
        omega arith
    go false e a i = omega arith

-- an accepted serving is one of the first workers
abbrev pub ServesBelow : ℕ → Event → Outcome → Type 0
ServesBelow workers (Install n v) o = Unit {0}
ServesBelow workers (Arrive n k marks) o = Unit {0}
ServesBelow workers (Serve n w v r) o = accepted o ≡ true → w < workers
ServesBelow workers (Restart n) o = Unit {0}

abbrev pub AllServeBelow : ℕ → List LogEntry → Type 0
AllServeBelow workers [] = Unit {0}
AllServeBelow workers (s ∷ past) = ServesBelow workers s.event s.outcome × AllServeBelow workers past

worker_below : (rules : Rules) (past : List LogEntry) (n w v : ℕ) (r : Bool) (b : Bool) → nat_lt w rules.workers ≡ b → accepted (if b then by_queue rules (installed_of past) (lines_of w past) (next_item (lines_of w past)) n w v r else Refused NoWorker) ≡ true → w < rules.workers
worker_below rules past n w v r true e h = ltb-true w rules.workers e
worker_below rules past n w v r false e h = absurd (false≢true h)

node_below : (rules : Rules) (past : List LogEntry) (n w v : ℕ) (r : Bool) (b : Bool) → accepted (if b then serve_verdict rules past n w v r else Refused NoNode) ≡ true → w < rules.workers
node_below rules past n w v r true h = worker_below rules past n w v r (nat_lt w rules.workers) refl h
node_below rules past n w v r false h = absurd (false≢true h)

verdict_below : (rules : Rules) (past : List LogEntry) (e : Event) (x : Option Packet) → ServesBelow rules.workers e (verdict rules past e x)
verdict_below rules past (Install n v) x = tt
verdict_below rules past (Arrive n k marks) x = tt
verdict_below rules past (Serve n w v r) x = λ h. node_below rules (of_node n past) n w v r (nat_lt n rules.nodes) h
verdict_below rules past (Restart n) x = tt

all_below : (rules : Rules) (past : List LogEntry) → Judged (verdict rules) past → (n : ℕ) → AllServeBelow rules.workers (of_node n past)
all_below rules [] j n = tt
all_below rules (s ∷ past) j n = go (node_of s.event == n) (all_below rules past j.1 n)
  where
    go : (b : Bool) → AllServeBelow rules.workers (of_node n past) → AllServeBelow rules.workers (if b then s ∷ of_node n past else of_node n past)
    go true h = (subst (λ (o : Outcome). ServesBelow rules.workers s.event o) (sym j.0) (verdict_below rules past s.event s.packet), h)
    go false h = h

-- how the lines of a worker grow
placed_taken : (w k : ℕ) (x : Flow) (t : ℕ) (o : Outcome) (ls : List Line) → taken_count (placed_line w k x t o ls) ≡ taken_count ls
placed_taken w k x t (Placed u f) ls = go (u == w)
  where
    go : (b : Bool) → taken_count (if b then put (record { packet = k; flow = x; at = t; floor = f }) ∷ ls else ls) ≡ taken_count ls
    go true = refl
    go false = refl
placed_taken w k x t Installed ls = refl
placed_taken w k x t (Forward n u j y b o) ls = refl
placed_taken w k x t (Dropped j c) ls = refl
placed_taken w k x t (Restarted l) ls = refl
placed_taken w k x t (Refused r) ls = refl

arrived_taken : (w k : ℕ) (p : Option Packet) (o : Outcome) (ls : List Line) → taken_count (arrived_line w k p o ls) ≡ taken_count ls
arrived_taken w k None o ls = refl
arrived_taken w k (Some (Bad c)) o ls = refl
arrived_taken w k (Some (Good x l t)) o ls = placed_taken w k x t o ls

-- as many servings in the lines of all workers as the node's record counts
served_step : (workers : ℕ) (e : Event) (x : Option Packet) (o : Outcome) (ls : ℕ → List Line) → ServesBelow workers e o → served_by e o (sum_below workers (λ w. taken_count (ls w))) ≡ sum_below workers (λ w. taken_count (line_by w e x o (ls w)))
served_step workers (Install n v) x o ls h = refl
served_step workers (Arrive n k marks) x o ls h = sum_same workers (λ w. taken_count (ls w)) (λ w. taken_count (arrived_line w k x o (ls w))) (λ w lt. sym (arrived_taken w k x o (ls w)))
served_step workers (Serve n u v r) x o ls h = go (accepted o) h
  where
    line : Bool → ℕ → List Line
    line b w = if u == w then (if b then took v r ∷ ls w else ls w) else ls w

    same : (w : ℕ) (b : Bool) → (if b then ls w else ls w) ≡ ls w
    same w true = refl
    same w false = refl

    other : (b : Bool) (w : ℕ) → (u ≡ w → ⊥) → taken_count (ls w) ≡ taken_count (if u == w then (if b then took v r ∷ ls w else ls w) else ls w)
    other b w d = ap (λ (c : Bool). taken_count (if c then (if b then took v r ∷ ls w else ls w) else ls w)) (sym (ne_eqb u w d))

    own : taken_count (if u == u then took v r ∷ ls u else ls u) ≡ taken_count (ls u) + 1
    own = ap (λ (c : Bool). taken_count (if c then took v r ∷ ls u else ls u)) (eq-eqb u u refl)

    go : (b : Bool) → (b ≡ true → u < workers) → (if b then sum_below workers (λ w. taken_count (ls w)) + 1 else sum_below workers (λ w. taken_count (ls w))) ≡ sum_below workers (λ w. taken_count (if u == w then (if b then took v r ∷ ls w else ls w) else ls w))
    go true k =
        let c : sum_below workers (λ w. taken_count (if u == w then took v r ∷ ls w else ls w)) + taken_count (ls u) ≡ sum_below workers (λ w. taken_count (ls w)) + taken_count (if u == u then took v r ∷ ls u else ls u) = sum_change workers u (λ w. taken_count (ls w)) (λ w. taken_count (if u == w then took v r ∷ ls w else ls w)) (k refl) (λ w d. other true w d) in
        let d : taken_count (if u == u then took v r ∷ ls u else ls u) ≡ taken_count (ls u) + 1 = own in
        omega arith
    go false k = sum_same workers (λ w. taken_count (ls w)) (λ w. taken_count (if u == w then ls w else ls w)) (λ w lt. ap taken_count (sym (same w (u == w))))
served_step workers (Restart n) x o ls h = go (accepted o)
  where
    go : (b : Bool) → (if b then 0 else sum_below workers (λ w. taken_count (ls w))) ≡ sum_below workers (λ w. taken_count (if b then [] else ls w))
    go true = sym (sum_none workers)
    go false = refl

served_sum : (workers : ℕ) (had : List LogEntry) → AllServeBelow workers had → served_count had ≡ sum_below workers (λ w. taken_count (lines_of w had))
served_sum workers [] h = sym (sum_none workers)
served_sum workers (s ∷ had) h = ap (λ (n : ℕ). served_by s.event s.outcome n) (served_sum workers had h.1) ∙ served_step workers s.event s.packet s.outcome (λ w. lines_of w had) h.0

-- no more packets in the lines of all workers than the node's record counts
put_length : (ls : List Line) (w k : ℕ) (x : Flow) (t u f : ℕ) (b : Bool) → length (placed (if b then put (record { packet = k; flow = x; at = t; floor = f }) ∷ ls else ls)) ≡ (if b then length (placed ls) + 1 else length (placed ls))
put_length ls w k x t u f true = length-append (placed ls) (record { packet = k; flow = x; at = t; floor = f } ∷ [])
put_length ls w k x t u f false = refl

placed_more : (workers k c : ℕ) (x : Flow) (t : ℕ) (o : Outcome) (ls : ℕ → List Line) → sum_below workers (λ w. length (placed (ls w))) ≤ c → sum_below workers (λ w. length (placed (placed_line w k x t o (ls w)))) ≤ more_placed o c
placed_more workers k c x t (Placed u f) ls h =
    let b : sum_below workers (λ w. length (placed (if u == w then put (record { packet = k; flow = x; at = t; floor = f }) ∷ ls w else ls w))) ≤ sum_below workers (λ w. length (placed (ls w))) + 1 = sum_bump workers u (λ w. length (placed (ls w))) (λ w. length (placed (if u == w then put (record { packet = k; flow = x; at = t; floor = f }) ∷ ls w else ls w))) (λ w. put_length (ls w) w k x t u f (u == w)) in
    omega arith
placed_more workers k c x t Installed ls h = h
placed_more workers k c x t (Forward n u j y b o) ls h = h
placed_more workers k c x t (Dropped j e) ls h = h
placed_more workers k c x t (Restarted l) ls h = h
placed_more workers k c x t (Refused r) ls h = h

more_or_same : (o : Outcome) (c : ℕ) → c ≤ more_placed o c
more_or_same Installed c = omega arith
more_or_same (Placed w f) c = omega arith
more_or_same (Forward n u j y b o) c = omega arith
more_or_same (Dropped j e) c = omega arith
more_or_same (Restarted l) c = omega arith
more_or_same (Refused r) c = omega arith

arrived_more : (workers k c : ℕ) (p : Option Packet) (o : Outcome) (ls : ℕ → List Line) → sum_below workers (λ w. length (placed (ls w))) ≤ c → sum_below workers (λ w. length (placed (arrived_line w k p o (ls w)))) ≤ more_placed o c
arrived_more workers k c None o ls h = let m : c ≤ more_placed o c = more_or_same o c in omega arith
arrived_more workers k c (Some (Bad e)) o ls h = let m : c ≤ more_placed o c = more_or_same o c in omega arith
arrived_more workers k c (Some (Good x l t)) o ls h = placed_more workers k c x t o ls h

placed_step : (workers c : ℕ) (e : Event) (x : Option Packet) (o : Outcome) (ls : ℕ → List Line) → sum_below workers (λ w. length (placed (ls w))) ≤ c → sum_below workers (λ w. length (placed (line_by w e x o (ls w)))) ≤ placed_by e o c
placed_step workers c (Install n v) x o ls h = h
placed_step workers c (Arrive n k marks) x o ls h = arrived_more workers k c x o ls h
placed_step workers c (Serve n u v r) x o ls h = subst (λ (m : ℕ). m ≤ c) (sum_same workers (λ w. length (placed (ls w))) (λ w. length (placed (if u == w then (if accepted o then took v r ∷ ls w else ls w) else ls w))) (λ w lt. sym (same w (u == w) (accepted o)))) h
  where
    same : (w : ℕ) (a b : Bool) → length (placed (if a then (if b then took v r ∷ ls w else ls w) else ls w)) ≡ length (placed (ls w))
    same w true true = refl
    same w true false = refl
    same w false b = refl
placed_step workers c (Restart n) x o ls h = go (accepted o)
  where
    go : (b : Bool) → sum_below workers (λ w. length (placed (if b then [] else ls w))) ≤ (if b then 0 else c)
    go true = let e : sum_below workers (λ w. 0) ≡ 0 = sum_none workers in omega arith
    go false = h

placed_sum : (workers : ℕ) (had : List LogEntry) → sum_below workers (λ w. length (placed (lines_of w had))) ≤ placed_count had
placed_sum workers [] = let e : sum_below workers (λ w. 0) ≡ 0 = sum_none workers in omega arith
placed_sum workers (s ∷ had) = placed_step workers (placed_count had) s.event s.packet s.outcome (λ w. lines_of w had) (placed_sum workers had)

-- a node serves no more than was placed on it
node_sound : (rules : Rules) (past : List LogEntry) → Judged (verdict rules) past → (n : ℕ) → served_count (of_node n past) ≤ placed_count (of_node n past)
node_sound rules past j n =
    let a : served_count (of_node n past) ≡ sum_below rules.workers (λ w. taken_count (lines_of w (of_node n past))) = served_sum rules.workers (of_node n past) (all_below rules past j n) in
    let b : sum_below rules.workers (λ w. taken_count (lines_of w (of_node n past))) ≤ sum_below rules.workers (λ w. length (placed (lines_of w (of_node n past)))) = sum_le rules.workers (λ w. taken_count (lines_of w (of_node n past))) (λ w. length (placed (lines_of w (of_node n past)))) (λ w. sound rules past j n w) in
    let c : sum_below rules.workers (λ w. length (placed (lines_of w (of_node n past)))) ≤ placed_count (of_node n past) = placed_sum rules.workers (of_node n past) in
    omega arith

-- how many packets wait on a node
abbrev pub left_on : List LogEntry → ℕ → ℕ
left_on past n = placed_count (of_node n past) - served_count (of_node n past)

module _ (rules : Rules) (past : List LogEntry) (s : LogEntry) (j : Judged (verdict rules) (s ∷ past)) (read : WasRead s.packet) where
  abbrev pub M : ℕ
  M = node_of s.event

  same_node : of_node M (s ∷ past) ≡ s ∷ of_node M past
  same_node = ap (λ (b : Bool). if b then s ∷ of_node M past else of_node M past) (eq-eqb M M refl)

  others : (n : ℕ) → (M ≡ n → ⊥) → left_on past n ≡ left_on (s ∷ past) n
  others n d = ap (λ (h : List LogEntry). placed_count h - served_count h) (sym (ap (λ (b : Bool). if b then s ∷ of_node n past else of_node n past) (ne_eqb M n d)))

  -- an event of a node that is there
  step_there : M < rules.nodes → sum_below rules.nodes (left_on (s ∷ past)) + went s.outcome ≡ sum_below rules.nodes (left_on past) + came s.outcome
  step_there lt =
      let v : s.outcome ≡ node_verdict rules (of_node M past) s.event s.packet = j.0 ∙ ap (λ (b : Bool). if b then node_verdict rules (of_node M past) s.event s.packet else Refused NoNode) (lt-ltb M rules.nodes lt) in
      let fit : served_count (of_node M past) ≤ placed_count (of_node M past) = node_sound rules past j.1 M in
      let fits : served_count (of_node M (s ∷ past)) ≤ placed_count (of_node M (s ∷ past)) = node_sound rules (s ∷ past) j M in
      let sc : served_count (of_node M (s ∷ past)) ≡ served_by s.event (node_verdict rules (of_node M past) s.event s.packet) (served_count (of_node M past)) = ap served_count same_node ∙ ap (λ (o : Outcome). served_by s.event o (served_count (of_node M past))) v in
      let pc : placed_count (of_node M (s ∷ past)) ≡ placed_by s.event (node_verdict rules (of_node M past) s.event s.packet) (placed_count (of_node M past)) = ap placed_count same_node ∙ ap (λ (o : Outcome). placed_by s.event o (placed_count (of_node M past))) v in
      let m : Moves (left_on past M) (left_on (s ∷ past) M) (node_verdict rules (of_node M past) s.event s.packet) = moves rules (of_node M past) s.event s.packet (left_on past M) (left_on (s ∷ past) M) read (omega arith) (omega arith) in
      let c : sum_below rules.nodes (left_on (s ∷ past)) + left_on past M ≡ sum_below rules.nodes (left_on past) + left_on (s ∷ past) M = sum_change rules.nodes M (left_on past) (left_on (s ∷ past)) lt others in
      let wv : went s.outcome ≡ went (node_verdict rules (of_node M past) s.event s.packet) = ap went v in
      let cv : came s.outcome ≡ came (node_verdict rules (of_node M past) s.event s.packet) = ap came v in
      omega arith

  -- an event of no node
  step_nowhere : rules.nodes ≤ M → sum_below rules.nodes (left_on (s ∷ past)) + went s.outcome ≡ sum_below rules.nodes (left_on past) + came s.outcome
  step_nowhere le =
      let v : s.outcome ≡ Refused NoNode = j.0 ∙ ap (λ (b : Bool). if b then node_verdict rules (of_node M past) s.event s.packet else Refused NoNode) (le-ltb M rules.nodes le) in
      let r : sum_below rules.nodes (left_on past) ≡ sum_below rules.nodes (left_on (s ∷ past)) = sum_same rules.nodes (left_on past) (left_on (s ∷ past)) (λ n lt. others n (λ e. absurd (omega arith))) in
      let wv : went s.outcome ≡ 0 = ap went v in
      let cv : came s.outcome ≡ 0 = ap came v in
      omega arith

  step_left : sum_below rules.nodes (left_on (s ∷ past)) + went s.outcome ≡ sum_below rules.nodes (left_on past) + came s.outcome
  step_left = go (nat_lt M rules.nodes) refl
    where
      go : (b : Bool) → nat_lt M rules.nodes ≡ b → sum_below rules.nodes (left_on (s ∷ past)) + went s.outcome ≡ sum_below rules.nodes (left_on past) + came s.outcome
      go true e = step_there (ltb-true M rules.nodes e)
      go false e = step_nowhere (ltb-false M rules.nodes e)

all_left : (rules : Rules) (past : List LogEntry) → Judged (verdict rules) past → AllRead past → sum_below rules.nodes (left_on past) + went_of past ≡ came_of past
all_left rules [] j read = let e : sum_below rules.nodes (λ n. 0) ≡ 0 = sum_none rules.nodes in omega arith
all_left rules (s ∷ past) j read =
    let h : sum_below rules.nodes (left_on past) + went_of past ≡ came_of past = all_left rules past j.1 read.1 in
    let k : sum_below rules.nodes (left_on (s ∷ past)) + went s.outcome ≡ sum_below rules.nodes (left_on past) + came s.outcome = step_left rules past s j read.0 in
    omega arith

pub records_balance : RecordsAreBalanced
records_balance rules past j read = let h : sum_below rules.nodes (left_on past) + went_of past ≡ came_of past = all_left rules past j read in omega arith

-- the record of a list of events
came_after : (rules : Rules) (past : List LogEntry) (packets : List Packet) (es : List Event) → came_of (record_after rules past packets es) ≡ came_of past + came_all (verdicts rules past packets es)
came_after rules past packets [] = omega arith
came_after rules past packets (e ∷ es) = let h : came_of (record_after rules (say rules past e (packet_of packets e) ∷ past) packets es) ≡ came_of (say rules past e (packet_of packets e) ∷ past) + came_all (verdicts rules (say rules past e (packet_of packets e) ∷ past) packets es) = came_after rules (say rules past e (packet_of packets e) ∷ past) packets es in omega arith

went_after : (rules : Rules) (past : List LogEntry) (packets : List Packet) (es : List Event) → went_of (record_after rules past packets es) ≡ went_of past + went_all (verdicts rules past packets es)
went_after rules past packets [] = omega arith
went_after rules past packets (e ∷ es) = let h : went_of (record_after rules (say rules past e (packet_of packets e) ∷ past) packets es) ≡ went_of (say rules past e (packet_of packets e) ∷ past) + went_all (verdicts rules (say rules past e (packet_of packets e) ∷ past) packets es) = went_after rules (say rules past e (packet_of packets e) ∷ past) packets es in omega arith

judged_after : (rules : Rules) (past : List LogEntry) (packets : List Packet) (es : List Event) → Judged (verdict rules) past → Judged (verdict rules) (record_after rules past packets es)
judged_after rules past packets [] j = j
judged_after rules past packets (e ∷ es) j = judged_after rules (say rules past e (packet_of packets e) ∷ past) packets es (refl, j)

read_after : (rules : Rules) (past : List LogEntry) (packets : List Packet) (es : List Event) → ((k : ℕ) (p : Packet) → slice_get packets k ≡ Some p → WasRead (Some p)) → AllRead past → AllRead (record_after rules past packets es)
read_after rules past packets [] h r = r
read_after rules past packets (e ∷ es) h r = read_after rules (say rules past e (packet_of packets e) ∷ past) packets es h (named_read packets e h, r)

pub lists_balance : ListsAreBalanced
lists_balance rules packets es read =
    let b : went_of (record_after rules [] packets es) ≤ came_of (record_after rules [] packets es) = records_balance rules (record_after rules [] packets es) (judged_after rules [] packets es tt) (read_after rules [] packets es read tt) in
    let c : came_of (record_after rules [] packets es) ≡ came_of [] + came_all (verdicts rules [] packets es) = came_after rules [] packets es in
    let w : went_of (record_after rules [] packets es) ≡ went_of [] + went_all (verdicts rules [] packets es) = went_after rules [] packets es in
    omega arith
