-- What came to a node's queues in its run is what went out of them.
use Rattle.std.proofs.Common.{◌≡◌, ℕ, ◌+◌, ◌-◌, ◌<◌, length, ◌≤◌, ◌%◌, Bool, true, false, List, [], ◌∷◌, ◌++◌, Option, Some, None, refl, sym, ap, ◌∙◌, subst, arith}
use Rattle.std.specs.Prelude.{◌==◌, nat_lt, if◌then◌else◌, sum}
use Rattle.std.proofs.lemmas.Bool.{eq-eqb, lt-ltb}
use Rattle.steering.specs.declared.Placed.{Placed as Placing}
use Rattle.steering.specs.declared.Placed.TheVariants as placings
use Rattle.steering.specs.Steering.{home_of, place_for}
use Rattle.cluster_node.specs.declared.packets.Packet.{Packet}
use Rattle.cluster_node.specs.declared.packets.Packet.TheVariants.{Good, Bad}
use Rattle.cluster_node.specs.declared.events.Event.{Event}
use Rattle.cluster_node.specs.declared.events.Event.TheVariants.{Install, Arrive, Serve, Restart}
use Rattle.cluster_node.specs.declared.events.LogEntry.{LogEntry}
use Rattle.cluster_node.specs.declared.outcomes.Outcome.{Outcome}
use Rattle.cluster_node.specs.declared.outcomes.Outcome.TheVariants.{Installed, Placed, Forward, Dropped, Restarted, Refused}
use Rattle.cluster_node.specs.declared.outcomes.Reason.TheVariants.{NoNode, NotNewer}
use Rattle.cluster_node.specs.declared.outcomes.Cause.TheVariants.{NoVersion, RingsFull}
use Rattle.cluster_node.specs.Rules.{Rules}
use Rattle.cluster_node.specs.Record.{accepted, install_verdict, arrive_verdict, steered, serve_verdict, node_verdict, newest_of, refusals_of, more_placed, placed_count, served_count}
use Rattle.cluster_node.specs.Records.{Judged, WasRead, node_of, of_node}
use Rattle.cluster_core.specs.Runs.{verdict, verdicts, say, packet_of}
use Rattle.cluster_core.specs.Histories.{AllRead}
use Rattle.cluster_core.specs.OutcomeCounts.{is_arrival, is_forward, how_many, drop_counts}
use Rattle.cluster_core.specs.Totals.{came, went, came_all, went_all, came_of, went_of}
use Rattle.cluster_core.proofs.Balanced.{records_balance}
use Rattle.cluster_core.proofs.Nodes.{named_read}
use Rattle.cluster_core.proofs.Bumps.{lawful}
use Rattle.thread_records.specs.Histories.{said_on, record_of, AreOf, NoneWaits}
use Rattle.thread_records.specs.declared.command.Command.{Command}
use Rattle.thread_records.specs.declared.nodes.NodeRecord.{NodeRecord}
use Rattle.thread_records.specs.Runs.{IsRunOf, AreRuns}
use Rattle.thread_records.specs.Joins.{all_outcomes}
use Rattle.thread_roles.specs.Counts.{AreRead}
use Rattle.cluster_core.proofs.Balance.{reading_not_serving, TakesOne, serve_one}

-- what comes is placed, and an arrival takes nothing out
more_is : (o : Outcome) (p : ℕ) → more_placed o p ≡ p + came o
more_is Installed p = omega arith
more_is (Placed w f) p = omega arith
more_is (Forward n w k x b v) p = omega arith
more_is (Dropped k c) p = omega arith
more_is (Restarted l) p = omega arith
more_is (Refused r) p = omega arith

steered_none : (newest k : ℕ) (o : Placing) → went (steered newest k o) ≡ 0
steered_none newest k placings.RingsFull = refl
steered_none newest k (placings.Worker w) = refl

if_none : (b : Bool) (o q : Outcome) → went o ≡ 0 → went q ≡ 0 → went (if b then o else q) ≡ 0
if_none true o q h k = h
if_none false o q h k = k

arrive_none : (rules : Rules) (newest cursor k : ℕ) (marks : List Bool) (x : Option Packet) → WasRead x → went (arrive_verdict rules newest cursor k marks x) ≡ 0
arrive_none rules newest cursor k marks None r = refl
arrive_none rules newest cursor k marks (Some (Bad c)) r = reading_not_serving k c r
arrive_none rules newest cursor k marks (Some (Good x l t)) r = if_none (newest == 0) (Dropped k NoVersion) (steered newest k (place_for marks rules.workers (home_of rules.plain rules.workers x) cursor)) refl (steered_none newest k (place_for marks rules.workers (home_of rules.plain rules.workers x) cursor))

install_none : (known : Bool) (newest v : ℕ) → (went (install_verdict known newest v) ≡ 0) × (came (install_verdict known newest v) ≡ 0)
install_none false newest v = (refl, refl)
install_none true newest v = go (nat_lt newest v)
  where
    go : (b : Bool) → (went (if b then Installed else Refused NotNewer) ≡ 0) × (came (if b then Installed else Refused NotNewer) ≡ 0)
    go true = (refl, refl)
    go false = (refl, refl)

-- what came to a node's queues beside what was served in this life is what was placed in it beside what went out
abbrev Even : List LogEntry → Type 0
Even past = came_of past + served_count past ≡ placed_count past + went_of past

even_serve : (o : Outcome) (c s p w : ℕ) → TakesOne o → c + s ≡ p + w → (came o + c) + (if accepted o then s + 1 else s) ≡ p + (went o + w)
even_serve o c s p w t h = go (accepted o) t.0 t.1
  where
    go : (b : Bool) → went o ≡ (if b then 1 else 0) → came o ≡ 0 → (came o + c) + (if b then s + 1 else s) ≡ p + (went o + w)
    go true f z = omega arith
    go false f z = omega arith

even_step : (rules : Rules) (had : List LogEntry) (e : Event) (x : Option Packet) → WasRead x → served_count had ≤ placed_count had → Even had → Even (record { event = e; packet = x; outcome = node_verdict rules had e x } ∷ had)
even_step rules had (Install n v) x r le h = let z = install_none (rules.known v) (newest_of had) v in let a = z.0 in let b = z.1 in omega arith
even_step rules had (Arrive n k marks) x r le h =
    let a = arrive_none rules (newest_of had) (refusals_of rules had % rules.workers) k marks x r in
    let b = more_is (arrive_verdict rules (newest_of had) (refusals_of rules had % rules.workers) k marks x) (placed_count had) in
    omega arith
even_step rules had (Serve n w v f) x r le h = even_serve (serve_verdict rules had n w v f) (came_of had) (served_count had) (placed_count had) (went_of had) (serve_one rules had n w v f) h
even_step rules had (Restart n) x r le h = omega arith

-- the record of one node's events
pub record Lone (rules : Rules) (n : ℕ) (past : List LogEntry) : Type 0 where
  pub own : of_node n past ≡ past
  pub judged : Judged (verdict rules) past
  pub read : AllRead past
  pub even : Even past

lone_say : (rules : Rules) (n : ℕ) (past : List LogEntry) (e : Event) (x : Option Packet) → n < rules.nodes → node_of e ≡ n → WasRead x → Lone rules n past → Lone rules n (say rules past e x ∷ past)
lone_say rules n past e x lt is r l =
    let there : verdict rules past e x ≡ node_verdict rules past e x =
    ap (λ (b : Bool). if b then node_verdict rules (of_node (node_of e) past) e x else Refused NoNode) (lt-ltb (node_of e) rules.nodes (subst (λ (m : ℕ). m < rules.nodes) (sym is) lt))
    ∙ ap (λ (m : ℕ). node_verdict rules (of_node m past) e x) is ∙ ap (λ (p : List LogEntry). node_verdict rules p e x) l.own in
    let went_le : went_of past ≤ came_of past = records_balance rules past l.judged l.read in
    let le : served_count past ≤ placed_count past = omega (arith, went_le, l.even) in
    record {
      own = ap (λ (b : Bool). if b then say rules past e x ∷ of_node n past else of_node n past) (eq-eqb (node_of e) n is) ∙ ap (λ (p : List LogEntry). say rules past e x ∷ p) l.own;
      judged = (refl, l.judged);
      read = (r, l.read);
      even = subst (λ (o : Outcome). Even (record { event = e; packet = x; outcome = o } ∷ past)) (sym there) (even_step rules past e x r le l.even);
    }

lone_on : (rules : Rules) (packets : List Packet) (n : ℕ) → n < rules.nodes → AreRead packets → (past : List LogEntry) (es : List Event) → AreOf n es → Lone rules n past → Lone rules n (said_on rules past packets es)
lone_on rules packets n lt read past [] own l = l
lone_on rules packets n lt read past (e ∷ es) own l = lone_on rules packets n lt read (say rules past e (packet_of packets e) ∷ past) es own.1 (lone_say rules n past e (packet_of packets e) lt own.0 (named_read packets e read) l)

came_on : (rules : Rules) (past : List LogEntry) (packets : List Packet) (es : List Event) → came_of (said_on rules past packets es) ≡ came_of past + came_all (verdicts rules past packets es)
came_on rules past packets [] = omega arith
came_on rules past packets (e ∷ es) = let h : came_of (said_on rules (say rules past e (packet_of packets e) ∷ past) packets es) ≡ came_of (say rules past e (packet_of packets e) ∷ past) + came_all (verdicts rules (say rules past e (packet_of packets e) ∷ past) packets es) = came_on rules (say rules past e (packet_of packets e) ∷ past) packets es in omega arith

went_on : (rules : Rules) (past : List LogEntry) (packets : List Packet) (es : List Event) → went_of (said_on rules past packets es) ≡ went_of past + went_all (verdicts rules past packets es)
went_on rules past packets [] = omega arith
went_on rules past packets (e ∷ es) = let h : went_of (said_on rules (say rules past e (packet_of packets e) ∷ past) packets es) ≡ went_of (say rules past e (packet_of packets e) ∷ past) + went_all (verdicts rules (say rules past e (packet_of packets e) ∷ past) packets es) = went_on rules (say rules past e (packet_of packets e) ∷ past) packets es in omega arith

-- all that came to a node's queues went out of them
pub settled : (rules : Rules) (packets : List Packet) (n ring : ℕ) (cs : List Command) (r : NodeRecord) → n < rules.nodes → AreRead packets → IsRunOf rules packets n ring cs r → went_all r.outcomes.items ≡ came_all r.outcomes.items
settled rules packets n ring cs r lt read run =
    let es : List Event = r.events.items in
    let l : Lone rules n (record_of rules packets es) = lone_on rules packets n lt read [] es run.own (record { own = refl; judged = tt; read = tt; even = refl }) in
    let drained : served_count (record_of rules packets es) ≡ placed_count (record_of rules packets es) = subst (λ (p : List LogEntry). NoneWaits p) l.own run.drained in
    let c : came_of (record_of rules packets es) ≡ came_of [] + came_all (verdicts rules [] packets es) = came_on rules [] packets es in
    let w : went_of (record_of rules packets es) ≡ went_of [] + went_all (verdicts rules [] packets es) = went_on rules [] packets es in
    let even : Even (record_of rules packets es) = l.even in
    let a : came_all r.outcomes.items ≡ came_all (verdicts rules [] packets es) = ap came_all run.told in
    let b : went_all r.outcomes.items ≡ went_all (verdicts rules [] packets es) = ap went_all run.told in
    omega arith

came_append : (os ps : List Outcome) → came_all (os ++ ps) ≡ came_all os + came_all ps
came_append [] ps = omega arith
came_append (o ∷ os) ps = let h : came_all (os ++ ps) ≡ came_all os + came_all ps = came_append os ps in omega arith

went_append : (os ps : List Outcome) → went_all (os ++ ps) ≡ went_all os + went_all ps
went_append [] ps = omega arith
went_append (o ∷ os) ps = let h : went_all (os ++ ps) ≡ went_all os + went_all ps = went_append os ps in omega arith

-- the same of all nodes
pub all_settled : (rules : Rules) (packets : List Packet) (ring k : ℕ) (cs : List (List Command)) (rs : List NodeRecord) → k + length cs ≤ rules.nodes → AreRead packets → AreRuns rules packets ring k cs rs → went_all (all_outcomes rs) ≡ came_all (all_outcomes rs)
all_settled rules packets ring k [] [] le read runs = refl
all_settled rules packets ring k [] (r ∷ rs) le read runs = absurd runs
all_settled rules packets ring k (c ∷ cs) [] le read runs = absurd runs
all_settled rules packets ring k (c ∷ cs) (r ∷ rs) le read runs =
    let one = settled rules packets k ring c r (omega (arith, le)) read runs.0 in
    let rest = all_settled rules packets ring (k + 1) cs rs (omega (arith, le)) read runs.1 in
    let a = came_append r.outcomes.items (all_outcomes rs) in
    let b = went_append r.outcomes.items (all_outcomes rs) in
    omega (arith, one, rest, a, b)

-- counts that add up, and are those of outcomes of which nothing waits
pub none_wait : (os : List Outcome) (t f w : ℕ) (ds : List ℕ) → went_all os ≡ came_all os → t ≡ how_many (λ o. is_arrival o) os → f ≡ how_many (λ o. is_forward o) os → ds ≡ drop_counts os → t ≡ f + sum ds + w → w ≡ 0
none_wait os t f w ds h a b d up = let e = lawful os t f 0 ds a b d (omega (arith, h)) in omega (arith, e, up)
