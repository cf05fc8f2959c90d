-- A run stands for its record, node by node.
use Rattle.std.proofs.Common.{◌≡◌, ℕ, ◌+◌, ◌<◌, ◌≤◌, ◌^◌, Bool, true, false, List, [], ◌∷◌, ◌++◌, length, drop, get_or, zero, suc, Option, Some, None, refl, sym, ap, ◌∙◌, subst, arith, ◌⊎◌, inl, inr, replicate, append_assoc}
use Rattle.std.proofs.Common.{Result, Ok, Err}
use Rattle.std.specs.Prelude.{IfOk, slice_get, slice_set, ◌==◌, if◌then◌else◌}
use Rattle.std.proofs.lemmas.Bool.{lt-ltb, le-ltb, eq-eqb, ne_eqb}
use Rattle.cluster_node.specs.NodeView.{NodeView}
use Rattle.cluster_node.specs.declared.packets.Packet.{Packet}
use Rattle.cluster_node.specs.declared.events.Event.{Event}
use Rattle.cluster_node.specs.declared.events.Event.TheVariants.{Install, Arrive, Serve, Restart}
use Rattle.cluster_node.specs.declared.outcomes.Outcome.{Outcome}
use Rattle.cluster_node.specs.declared.outcomes.Outcome.TheVariants.{Refused}
use Rattle.cluster_node.specs.declared.outcomes.Reason.TheVariants.{NoNode}
use Rattle.cluster_node.specs.Rules.{Rules}
use Rattle.cluster_node.specs.declared.events.LogEntry.{LogEntry}
use Rattle.cluster_node.specs.Record.{node_verdict, node_say, fresh, NodeStands, NodeGoes, ArePrepared, installed_of, newest_of}
use Rattle.cluster_node.proofs.Records.{stands_none, fresh_waits}
use Rattle.cluster_node.specs.Record.{waits}
use Rattle.cluster_core.specs.Totals.{came, went, came_of, went_of, came_all, went_all}
use Rattle.cluster_node.specs.Records.{WasRead, node_of, of_node}
use Rattle.cluster_core.proofs.Balance.{Moves, moves, waits_all_set, came_more, went_more}
use Rattle.cluster_core.specs.RunView.{RunView}
use Rattle.forwarder.specs.Serving.{Pick}
use Rattle.selection.specs.Readied.{Readied}
use Rattle.cluster_core.proofs.Preparing.{MorePrepared, still_prepared, none_installed}
use Rattle.std.proofs.lemmas.Bool.{false≢true}
use Rattle.cluster_core.specs.Runs.{waiting_in, verdict, packet_of, say, verdicts, RunStands, RunGoes, newest_at}

get_set : (ws : List NodeView) (w j : ℕ) (u x : NodeView) → slice_get (slice_set ws w u) j ≡ Some x → (((j ≡ w) × (u ≡ x)) ⊎ ((j ≡ w → ⊥) × (slice_get ws j ≡ Some x)))
get_set [] w j u x h = absurd (cc)
get_set (y ∷ ws) zero zero u x h = inl (refl, (cc))
get_set (y ∷ ws) zero (suc j) u x h = inr ((λ e. absurd (omega arith)), h)
get_set (y ∷ ws) (suc w) zero u x h = inr ((λ e. absurd (omega arith)), h)
get_set (y ∷ ws) (suc w) (suc j) u x h = elim (get_set ws w j u x h) [ inl p ↦ inl (ap suc p.0, p.1) | inr p ↦ inr ((λ e. p.0 (omega arith)), p.1) ]

length_set : (ws : List NodeView) (w : ℕ) (u : NodeView) → length (slice_set ws w u) ≡ length ws
length_set [] w u = refl
length_set (y ∷ ws) zero u = refl
length_set (y ∷ ws) (suc w) u = ap suc (length_set ws w u)

pub get_below : (ws : List NodeView) (w : ℕ) (u : NodeView) → slice_get ws w ≡ Some u → w < length ws
get_below [] w u h = absurd (cc)
get_below (y ∷ ws) zero u h = omega arith
get_below (y ∷ ws) (suc w) u h = omega (arith, get_below ws w u h)

pub get_of_or : (us : List NodeView) (k : ℕ) (d : NodeView) → k < length us → slice_get us k ≡ Some (get_or us k d)
get_of_or [] k d h = absurd (omega arith)
get_of_or (u ∷ us) zero d h = refl
get_of_or (u ∷ us) (suc k) d h = get_of_or us k d (omega arith)

of_node_le : (n : ℕ) (past : List LogEntry) → length (of_node n past) ≤ length past
of_node_le n [] = omega arith
of_node_le n (s ∷ past) = go (node_of s.event == n) (of_node_le n past)
  where
    go : (b : Bool) → length (of_node n past) ≤ length past → length (if b then s ∷ of_node n past else of_node n past) ≤ suc (length past)
    go true h = omega arith
    go false h = omega arith

-- an event of a node that is there
pub step_goes : {S : Type 0} (pick_of : S → ℕ → Pick) (rules : Rules) (past : List LogEntry) (run : RunView S) (e : Event) (x : Option Packet) (o : Outcome) (m after : NodeView) (versions : List (Readied S)) → WasRead x → RunStands pick_of rules past run → MorePrepared pick_of rules (newest_of (of_node (node_of e) past)) run.versions versions e → slice_get run.nodes (node_of e) ≡ Some m → NodeGoes rules (of_node (node_of e) past) e x o after → RunGoes pick_of rules past e x o (record { failed = run.failed; nodes = slice_set run.nodes (node_of e) after; versions = versions })
step_goes pick_of rules past run e x o m after versions read st more h g =
    let v : verdict rules past e x ≡ node_verdict rules (of_node (node_of e) past) e x =
    ap (λ (b : Bool). if b then node_verdict rules (of_node (node_of e) past) e x else Refused NoNode)
    (lt-ltb (node_of e) rules.nodes (subst (λ (k : ℕ). node_of e < k) st.count (get_below run.nodes (node_of e) m h))) in (
      g.0 ∙ sym v,
      record {
        working = st.working;
        count = length_set run.nodes (node_of e) after ∙ st.count;
        good = more.good;
        prepared = λ n. still_prepared pick_of rules past run.versions versions e x more st.prepared n;
        balance =
            (let b : NodeStands rules (of_node (node_of e) past) m = st.each (node_of e) m h in
            let d : Moves (waits m.workers) (waits after.workers) (node_verdict rules (of_node (node_of e) past) e x) = moves rules (of_node (node_of e) past) e x (waits m.workers) (waits after.workers) read b.waiting g.1.waiting in
            let i : went (verdict rules past e x) ≡ went (node_verdict rules (of_node (node_of e) past) e x) = ap went v in
            let j : came (verdict rules past e x) ≡ came (node_verdict rules (of_node (node_of e) past) e x) = ap came v in
            let k : waiting_in (slice_set run.nodes (node_of e) after) + waits m.workers ≡ waiting_in run.nodes + waits after.workers = waits_all_set run.nodes (node_of e) m after h in
            let l : waiting_in run.nodes + went_of past ≡ came_of past = st.balance in
            let z : waiting_in (slice_set run.nodes (node_of e) after) + (went (verdict rules past e x) + went_of past) ≡ came (verdict rules past e x) + came_of past = omega arith in z);
        each = λ j y k. elim (get_set run.nodes (node_of e) j after y k) [
          | inl p ↦ subst (λ (i : ℕ). NodeStands rules (if node_of e == i then say rules past e x ∷ of_node i past else of_node i past) y) (sym p.0)
              (subst (λ (b : Bool). NodeStands rules (if b then say rules past e x ∷ of_node (node_of e) past else of_node (node_of e) past) y) (sym (eq-eqb (node_of e) (node_of e) refl))
              (subst (λ (q : Outcome). NodeStands rules (record { event = e; packet = x; outcome = q } ∷ of_node (node_of e) past) y) (sym v)
              (subst (λ (z : NodeView). NodeStands rules (node_say rules (of_node (node_of e) past) e x ∷ of_node (node_of e) past) z) p.1 g.1)))
          | inr p ↦ subst (λ (b : Bool). NodeStands rules (if b then say rules past e x ∷ of_node j past else of_node j past) y) (sym (ne_eqb (node_of e) j (λ d. p.0 (sym d)))) (st.each j y p.1)
        ];
      },
    )

-- an event of no node
pub no_node : {S : Type 0} (pick_of : S → ℕ → Pick) (rules : Rules) (past : List LogEntry) (run : RunView S) (e : Event) (x : Option Packet) → length run.nodes ≤ node_of e → RunStands pick_of rules past run → RunGoes pick_of rules past e x (Refused NoNode) run
no_node pick_of rules past run e x le st =
    let v : Refused NoNode ≡ verdict rules past e x = ap (λ (b : Bool). if b then node_verdict rules (of_node (node_of e) past) e x else Refused NoNode)
    (sym (le-ltb (node_of e) rules.nodes (subst (λ (k : ℕ). k ≤ node_of e) st.count le))) in (
      v,
      record {
        working = st.working;
        count = st.count;
        good = st.good;
        prepared = λ n. none_installed pick_of rules past run.versions e x (sym v) st.prepared n;
        balance =
            (let i : 0 ≡ went (verdict rules past e x) = ap went v in
            let j : 0 ≡ came (verdict rules past e x) = ap came v in
            let l : waiting_in run.nodes + went_of past ≡ came_of past = st.balance in
            let z : waiting_in run.nodes + (went (verdict rules past e x) + went_of past) ≡ came (verdict rules past e x) + came_of past = omega arith in z);
        each = λ j y h. subst (λ (b : Bool). NodeStands rules (if b then say rules past e x ∷ of_node j past else of_node j past) y)
            (sym (ne_eqb (node_of e) j (λ d. let a : j < length run.nodes = get_below run.nodes j y h in absurd (omega arith)))) (st.each j y h);
      },
    )

-- one step of the code
pub step_said : {S : Type 0} (pick_of : S → ℕ → Pick) (rules : Rules) (past : List LogEntry) (run : RunView S) (e : Event) (x : Option Packet) (o : Outcome) (at newest : ℕ) (one after : NodeView) (versions : List (Readied S)) → WasRead x → length past < 2 ^ 64 → at ≡ node_of e → at < length run.nodes → one ≡ get_or run.nodes at one → newest ≡ newest_at (slice_get run.nodes (node_of e)) → RunStands pick_of rules past run → MorePrepared pick_of rules newest run.versions versions e
    → ((had : List LogEntry) → ArePrepared pick_of rules versions (installed_of had) → length had < 2 ^ 64 → NodeStands rules had one → NodeGoes rules had e x o after) → RunGoes pick_of rules past e x o (record { failed = run.failed; nodes = slice_set run.nodes at after; versions = versions })
step_said pick_of rules past run e x o at newest one after versions read few d lt is new st more g =
    subst (λ (k : ℕ). RunGoes pick_of rules past e x o (record { failed = run.failed; nodes = slice_set run.nodes k after; versions = versions })) (sym d)
    (let h : slice_get run.nodes (node_of e) ≡ Some one = subst (λ (k : ℕ). slice_get run.nodes k ≡ Some one) d (get_of_or run.nodes at one lt ∙ ap (λ (m : NodeView). Some m) (sym is)) in
    let same : newest ≡ newest_of (of_node (node_of e) past) = new ∙ ap newest_at h ∙ (st.each (node_of e) one h).newest in
    step_goes pick_of rules past run e x o one after versions read st (subst (λ (k : ℕ). MorePrepared pick_of rules k run.versions versions e) same more) h (g (of_node (node_of e) past) (λ v i. more.kept v (st.prepared (node_of e) v i)) (let a : length (of_node (node_of e) past) ≤ length past = of_node_le (node_of e) past in omega arith) (st.each (node_of e) one h)))

-- the same of a result
pub result_said : {S E : Type 0} (pick_of : S → ℕ → Pick) (rules : Rules) (past : List LogEntry) (run : RunView S) (e : Event) (x : Option Packet) (r : Result Outcome E) (at newest : ℕ) (one after : NodeView) (versions : List (Readied S)) → WasRead x → length past < 2 ^ 64 → at ≡ node_of e → at < length run.nodes → one ≡ get_or run.nodes at one → newest ≡ newest_at (slice_get run.nodes (node_of e)) → RunStands pick_of rules past run → MorePrepared pick_of rules newest run.versions versions e
    → ((had : List LogEntry) → ArePrepared pick_of rules versions (installed_of had) → length had < 2 ^ 64 → NodeStands rules had one → IfOk r (λ o. NodeGoes rules had e x o after)) → IfOk r (λ o. RunGoes pick_of rules past e x o (record { failed = run.failed; nodes = slice_set run.nodes at after; versions = versions }))
result_said pick_of rules past run e x (Ok o) at newest one after versions read few d lt is new st more g = step_said pick_of rules past run e x o at newest one after versions read few d lt is new st more g
result_said pick_of rules past run e x (Err f) at newest one after versions read few d lt is new st more g = tt

pub if_ok_map : {A E : Type 0} {P Q : A → Type 0} (r : Result A E) → ((a : A) → P a → Q a) → IfOk r P → IfOk r Q
if_ok_map (Ok a) f h = f a h
if_ok_map (Err e) f h = tt

get_replicate : (n : ℕ) (f : NodeView) (k : ℕ) (u : NodeView) → slice_get (replicate n f) k ≡ Some u → u ≡ f
get_replicate zero f k u h = absurd (cc)
get_replicate (suc n) f zero u h = cc
get_replicate (suc n) f (suc k) u h = get_replicate n f k u h

length_replicate : (n : ℕ) (f : NodeView) → length (replicate n f) ≡ n
length_replicate zero f = refl
length_replicate (suc n) f = ap suc (length_replicate n f)

-- a new run stands for the empty record
fresh_all : (n : ℕ) (m : NodeView) → waits m.workers ≡ 0 → waiting_in (replicate n m) ≡ 0
fresh_all zero m h = refl
fresh_all (suc n) m h = let i : waiting_in (replicate n m) ≡ 0 = fresh_all n m h in omega arith

pub run_none : {S : Type 0} (pick_of : S → ℕ → Pick) (rules : Rules) → 0 < rules.workers → RunStands {S = S} pick_of rules [] (record { failed = false; nodes = replicate rules.nodes (record { newest = 0; installed = []; cursor = 0; workers = replicate rules.workers (fresh rules.capacity rules.idle) }); versions = [] })
run_none pick_of rules some = record {
  working = refl;
  count = length_replicate rules.nodes _;
  good = λ v h. absurd (false≢true h);
  prepared = λ n v h. absurd (false≢true h);
  balance = ap (λ (k : ℕ). k + 0) (fresh_all rules.nodes (record { newest = 0; installed = []; cursor = 0; workers = replicate rules.workers (fresh rules.capacity rules.idle) }) (fresh_waits rules.workers rules.capacity rules.idle));
  each = λ n m h. subst (λ (z : NodeView). NodeStands rules [] z) (sym (get_replicate rules.nodes _ n m h)) (stands_none rules some);
}

-- one more event
pub said_more : (rules : Rules) (past : List LogEntry) (packets : List Packet) (rest events : List Event) (e : Event) (outs news total : List Outcome) (o : Outcome) → events ≡ e ∷ rest → o ≡ verdict rules past e (packet_of packets e) → news ≡ outs ++ o ∷ [] → outs ++ verdicts rules past packets events ≡ total → news ++ verdicts rules (say rules past e (packet_of packets e) ∷ past) packets rest ≡ total
said_more rules past packets rest events e outs news total o d f k h =
    ap (λ (l : List Outcome). l ++ verdicts rules (say rules past e (packet_of packets e) ∷ past) packets rest) k
    ∙ append_assoc outs (o ∷ []) (verdicts rules (say rules past e (packet_of packets e) ∷ past) packets rest)
    ∙ ap (λ (q : Outcome). outs ++ (q ∷ verdicts rules (say rules past e (packet_of packets e) ∷ past) packets rest)) f
    ∙ ap (λ (l : List Event). outs ++ verdicts rules past packets l) (sym d)
    ∙ h

drop_get : (xs : List Event) (i : ℕ) (d : Event) → i < length xs → drop i xs ≡ get_or xs i d ∷ drop (i + 1) xs
drop_get [] i d h = absurd (omega arith)
drop_get (x ∷ xs) zero d h = refl
drop_get (x ∷ xs) (suc i) d h =
    let e : suc i + 1 ≡ suc (i + 1) = omega arith in
    subst (λ (m : ℕ). drop i xs ≡ get_or xs i d ∷ drop m (x ∷ xs)) (sym e) (drop_get xs i d (omega arith))

-- what the loop keeps
abbrev pub KeptSoFar : {S : Type 0} → (S → ℕ → Pick) → Rules → List Packet → List Event → ℕ → List Outcome → RunView S → Type 0
KeptSoFar pick_of rules packets events i outs run = (past : List LogEntry) × (length past ≡ i) × RunStands pick_of rules past run × (came_all outs ≡ came_of past) × (went_all outs ≡ went_of past) × (outs ++ verdicts rules past packets (drop i events) ≡ verdicts rules [] packets events)

pub kept_first : {S : Type 0} (pick_of : S → ℕ → Pick) (rules : Rules) (packets : List Packet) (events : List Event) (outs : List Outcome) (run : RunView S) → outs ≡ [] → RunStands pick_of rules [] run → KeptSoFar pick_of rules packets events 0 outs run
kept_first pick_of rules packets events outs run o st = ([], refl, st, ap came_all o, ap went_all o, ap (λ (l : List Outcome). l ++ verdicts rules [] packets events) o)

pub kept_more : {S : Type 0} (pick_of : S → ℕ → Pick) (rules : Rules) (packets : List Packet) (events : List Event) (i : ℕ) (outs news : List Outcome) (run after : RunView S) (d : Event) (x : Option Packet) (o : Outcome) → i < length events → length events < 2 ^ 64 → x ≡ packet_of packets (get_or events i d) → news ≡ outs ++ o ∷ []
    → ((past : List LogEntry) → length past < 2 ^ 64 → RunStands pick_of rules past run → RunGoes pick_of rules past (get_or events i d) x o after) → KeptSoFar pick_of rules packets events i outs run → KeptSoFar pick_of rules packets events (i + 1) news after
kept_more pick_of rules packets events i outs news run after d x o lt few at push g k =
    let n : length k.0 ≡ i = k.1 in
    let s : RunGoes pick_of rules k.0 (get_or events i d) x o after = g k.0 (omega arith) k.2 in
    let t : RunGoes pick_of rules k.0 (get_or events i d) (packet_of packets (get_or events i d)) o after = subst (λ (y : Option Packet). RunGoes pick_of rules k.0 (get_or events i d) y o after) at s in (
      say rules k.0 (get_or events i d) (packet_of packets (get_or events i d)) ∷ k.0,
      (let z : suc (length k.0) ≡ i + 1 = omega arith in z),
      t.1,
      (ap came_all push ∙ came_more outs o ∙ ap (λ (n : ℕ). came o + n) k.3 ∙ ap (λ (q : Outcome). came q + came_of k.0) t.0),
      (ap went_all push ∙ went_more outs o ∙ ap (λ (n : ℕ). went o + n) k.4 ∙ ap (λ (q : Outcome). went q + went_of k.0) t.0),
      said_more rules k.0 packets (drop (i + 1) events) (drop i events) (get_or events i d) outs news (verdicts rules [] packets events) o (drop_get events i d lt) t.0 push k.5,
    )

-- what went out is no more than what came in
pub kept_balance : {S : Type 0} (pick_of : S → ℕ → Pick) (rules : Rules) (packets : List Packet) (events : List Event) (i : ℕ) (outs : List Outcome) (run : RunView S) → KeptSoFar pick_of rules packets events i outs run → went_all outs ≤ came_all outs
kept_balance pick_of rules packets events i outs run k = let a : waiting_in run.nodes + went_of k.0 ≡ came_of k.0 = k.2.balance in let b : came_all outs ≡ came_of k.0 = k.3 in let c : went_all outs ≡ went_of k.0 = k.4 in omega arith

-- the outcomes are those of all events, where no event is left
pub kept_whole : {S : Type 0} (pick_of : S → ℕ → Pick) (rules : Rules) (packets : List Packet) (events : List Event) (i : ℕ) (outs : List Outcome) (run : RunView S) → length events ≤ i → KeptSoFar pick_of rules packets events i outs run → outs ≡ verdicts rules [] packets events
kept_whole pick_of rules packets events i outs run le k = append_none outs ∙ ap (λ (l : List Event). outs ++ verdicts rules k.0 packets l) (sym (drop_past events i le)) ∙ k.5
  where
    append_none : (os : List Outcome) → os ≡ os ++ []
    append_none [] = refl
    append_none (o ∷ os) = ap (λ (l : List Outcome). o ∷ l) (append_none os)

    drop_past : (es : List Event) (n : ℕ) → length es ≤ n → drop n es ≡ []
    drop_past [] zero h = refl
    drop_past [] (suc n) h = refl
    drop_past (e ∷ es) zero h = absurd (omega arith)
    drop_past (e ∷ es) (suc n) h = drop_past es n (omega arith)

-- the packets that a run is handed were read
pub named_read : (packets : List Packet) (e : Event) → ((k : ℕ) (p : Packet) → slice_get packets k ≡ Some p → WasRead (Some p)) → WasRead (packet_of packets e)
named_read packets (Install n v) h = tt
named_read packets (Arrive n k marks) h = go (slice_get packets k) refl
  where
    go : (o : Option Packet) → slice_get packets k ≡ o → WasRead o
    go None e = tt
    go (Some p) e = h k p e
named_read packets (Serve n w v r) h = tt
named_read packets (Restart n) h = tt

-- the packet that an event names was read, where all packets were
pub was_read : (packets : List Packet) → ((k : ℕ) (p : Packet) → slice_get packets k ≡ Some p → WasRead (Some p)) → (e : Event) (x : Option Packet) → x ≡ packet_of packets e → WasRead x
was_read packets all e x is = subst (λ (o : Option Packet). WasRead o) (sym is) (of_event e)
  where
    here : (k : ℕ) (o : Option Packet) → slice_get packets k ≡ o → WasRead o
    here k None h = tt
    here k (Some p) h = all k p h

    of_event : (e : Event) → WasRead (packet_of packets e)
    of_event (Install n v) = tt
    of_event (Arrive n k marks) = here k (slice_get packets k) refl
    of_event (Serve n w v r) = tt
    of_event (Restart n) = tt
