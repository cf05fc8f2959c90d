-- How a run record by record reaches its next record.
use Rattle.std.proofs.Common.{◌≡◌, take, ℕ, zero, suc, ◌+◌, ◌-◌, ◌*◌, ◌≤◌, ◌<◌, Bool, true, false, List, [], ◌∷◌, ◌++◌, length, reverse, map, Option, Some, None, is_some, refl, sym, ap, ◌∙◌, subst, arith, append_assoc, append-nil, length-append, slice_get, get_or, drop, drop-cons, add-one}
use Rattle.std.proofs.Math.Seq.{drop-nil}
use Rattle.std.proofs.lemmas.Bool.{cond-true, cond-false}
use Rattle.std.proofs.lemmas.List.{map-append}
use Rattle.std.proofs.lemmas.Option.{slice_get-map}
use Rattle.std.specs.Prelude.{if◌then◌else◌, option_map, ◌≢◌}
use Rattle.ip_headers.specs.declared.Link.{Link}
use Rattle.pcap_file.specs.declared.format.Head.{Head}
use Rattle.pcap_file.specs.declared.format.InputEnd.{InputEnd}
use Rattle.pcap_file.specs.Device.{Tape, CallsAtMost}
use Rattle.pcap_file.specs.Format.{Record}
use Rattle.pcap_file.specs.Text.{Passed, calls_for}
use Rattle.spreader.specs.Choices.{Choice}
use Rattle.event_trace.specs.declared.steps.ScenarioStep.{ScenarioStep}
use Rattle.event_trace.specs.declared.steps.ScenarioStep.TheVariants as steps
use Rattle.timed_steps.specs.declared.TimedStep.{TimedStep}
use Rattle.timed_steps.specs.Timed.{is_before, count_until, reads, counted_from}
use Rattle.cluster_node.specs.declared.packets.Packet.{Packet}
use Rattle.cluster_node.specs.declared.events.LogEntry.{LogEntry}
use Rattle.cluster_node.specs.Records.{Judged}
use Rattle.waiting_frames.specs.Mirrors.{Mirrors}
use Rattle.cluster_core.specs.Cluster.{Cluster, Orderly}
use Rattle.event_trace.specs.Trace.{Trace, Playing}
use Rattle.event_trace.specs.Steps.{World, world_of, run, deliver, repeat, after, names_records, start}
use Rattle.event_trace.specs.Room.{Counted}
use Rattle.event_trace.proofs.Moves.{Keeps, deliver_hands, handed_next}
use Rattle.event_trace.proofs.Bounds.{apart_keeps, run_none}
use Rattle.event_trace.proofs.Coming.{take_one, take_ended, take_zero, lose_one, lose_ended, lose_zero, run_cons, again_is}
use Rattle.simulation.specs.declared.fault.SimulationFault.{SimulationFault}
use Rattle.simulation.specs.declared.fault.SimulationFault.TheVariants.{Write, Memory}
use Rattle.simulation.specs.Plans.{Planned}
use Rattle.simulation.specs.PrivateSteps.{by_count, take_of, lose_of, again_of, until_of}
use Rattle.simulation.specs.Sent.{time_of, packet_in, packets_of, sent, Wrote, WroteUntil}
use Rattle.simulation.specs.Simulated.{trace_of, traffic_of, sendings, IsOfRun}
use Rattle.simulation.specs.Intake.{Taking, listed, first_time, comes_early, BeginsWith, CanCome, IsNext, StandsStill, Looked, HasSeen, Seen, ReadOn, ReadStops, Stands}
use Rattle.simulation.specs.PrivateKeeping.{times_named, to_keep, KeepsNamed}
use Rattle.simulation.specs.PrivateGoing.{counted_here, Left, Shortened}
use Rattle.simulation.specs.PrivateStages.{Sound, Going, Reached, IsOver, one_of_until, still_to_take, still_until}
use Rattle.simulation.specs.declared.keeping.KeptRecords.{KeptRecords}
use Rattle.simulation.specs.declared.staging.Stage.{Stage}
use Rattle.simulation.proofs.Named.{names_none}
use Rattle.simulation.proofs.Going.{shortened}
use Rattle.simulation.proofs.Intakes.{all_handed, ahead_comes, none_comes, next_comes, stands, stops_run}
use Rattle.simulation.proofs.Sends.{unfailed_same, wrote_none, first_none, first_all, until_all}

pub packets_push : (link : Link) (check : Bool) (seen more : List Record) (r : Record) → packets_of link check (seen ++ r ∷ more) ≡ packets_of link check seen ++ packet_in link check r ∷ packets_of link check more
packets_push link check seen more r = map-append (packet_in link check) seen (r ∷ more)

packets_count : (link : Link) (check : Bool) (seen : List Record) → length (packets_of link check seen) ≡ length seen
packets_count link check [] = refl
packets_count link check (r ∷ rs) = ap suc (packets_count link check rs)

pub seen_same : (t u : Taking) (text left : Tape) (seen : List Record) → StandsStill t u → Seen text seen left t → Seen text seen left u
seen_same t u text left seen i s =
    let read : seen ++ listed t.ahead ≡ seen ++ listed u.ahead = ap (λ (o : Option Record). seen ++ listed o) (sym i.3) in
    record {
      has = subst (λ (x : Head). HasSeen x u.ended text.bytes (seen ++ listed u.ahead) left.bytes) (sym i.2)
          (subst (λ (x : Option InputEnd). HasSeen t.head x text.bytes (seen ++ listed u.ahead) left.bytes) (sym i.1)
          (subst (λ (l : List Record). HasSeen t.head t.ended text.bytes l left.bytes) read s.has));
      count = i.0 ∙ s.count;
      quiet = λ some. i.3 ∙ s.quiet (ap is_some (sym i.1) ∙ some);
      first = i.4 ∙ s.first ∙ ap first_time read;
      unfailed = s.unfailed;
      calls = λ none. subst (λ (l : List Record). CallsAtMost (calls_for l) text left) read (s.calls (sym i.1 ∙ none));
    }

-- what can come there can come here
can_same : (t u : Taking) (more : List Record) → u.ended ≡ t.ended → u.ahead ≡ t.ahead → CanCome u more → CanCome t more
can_same t u more e a c = record { ended = λ some. c.ended (ap is_some e ∙ some); ahead = subst (λ (o : Option Record). BeginsWith o more) a c.ahead }

pub pushed : (seen more : List Record) (r : Record) → seen ++ r ∷ more ≡ (seen ++ r ∷ []) ++ more
pushed seen more r = sym (append_assoc seen (r ∷ []) more)

pub count_pushed : (seen : List Record) (r : Record) → length (seen ++ r ∷ []) ≡ length seen + 1
count_pushed seen r = length-append seen (r ∷ [])

-- the times of the records that come behind those
next_times : (seen more : List Record) (n : ℕ) → n ≡ length seen → drop n (map time_of (seen ++ more)) ≡ map time_of more
next_times [] more n e = ap (λ (m : ℕ). drop m (map time_of more)) e
next_times (x ∷ seen) more n e = ap (λ (m : ℕ). drop m (map time_of (x ∷ seen ++ more))) e ∙ next_times seen more (length seen) refl

drop_next : (k n : ℕ) (l : List ℕ) → drop k (drop (suc n) l) ≡ drop (suc k) (drop n l)
drop_next k n [] = drop-nil k ∙ sym (ap (λ (l : List ℕ). drop (suc k) l) (drop-nil n))
drop_next k zero (x ∷ l) = refl
drop_next k (suc n) (x ∷ l) = drop_next k n l

-- one step on, one fewer is to be left out
moved_on : (k a b : ℕ) (l : List ℕ) → b ≡ a + 1 → drop k (drop b l) ≡ drop (k + 1) (drop a l)
moved_on k a b l e = ap (λ (n : ℕ). drop k (drop n l)) (e ∙ add-one a) ∙ drop_next k a l ∙ ap (λ (n : ℕ). drop n (drop a l)) (sym (add-one k))

-- a record is taken, and one fewer is left to be taken
pub took : (cluster : Cluster) (choice : Choice) (plan : Planned) (link : Link) (seen more : List Record) (r : Record) (k : ℕ) (ss : List TimedStep) (c d : Trace) → c.read ≡ length seen
    → d ≡ deliver (world_of cluster choice (packets_of link plan.check (seen ++ r ∷ more))) c.read (packet_in link plan.check r) (record c { read = c.read + 1 })
    → Left cluster choice plan link (seen ++ r ∷ more) (take_of (k + 1) ∷ ss) c → Left cluster choice plan link (seen ++ r ∷ more) (take_of k ∷ ss) d
took cluster choice plan link seen more r k ss c d e f l =
    let all = seen ++ r ∷ more in
    let w = world_of cluster choice (packets_of link plan.check all) in
    let g : Trace = deliver w c.read (packet_in link plan.check r) (record c { read = c.read + 1 }) in
    let rest : List ScenarioStep = counted_from (first_time all) (drop (k + 1) (drop c.read (map time_of all))) ss in
    ap (λ (x : Trace). run w (counted_here all (take_of k ∷ ss) x) x) f
    ∙ ap (λ (t : List ℕ). run w (steps.Take k ∷ counted_from (first_time all) t ss) g) (moved_on k c.read g.read (map time_of all) (deliver_hands w c.read (packet_in link plan.check r) (record c { read = c.read + 1 })).read)
    ∙ sym (take_one cluster choice (packets_of link plan.check seen) (packets_of link plan.check more) (packet_in link plan.check r) k rest c (e ∙ sym (packets_count link plan.check seen)) w
    (ap (λ (l : List Packet). world_of cluster choice l) (packets_push link plan.check seen more r)))
    ∙ ap (λ (m : ℕ). run w (steps.Take m ∷ rest) c) (omega arith)
    ∙ l

-- a record is lost, and one fewer is left to be lost
pub lost : (cluster : Cluster) (choice : Choice) (plan : Planned) (link : Link) (seen more : List Record) (r : Record) (k : ℕ) (ss : List TimedStep) (c d : Trace) → c.read ≡ length seen
    → d ≡ record c { read = c.read + 1; lost = c.lost + 1 }
    → Left cluster choice plan link (seen ++ r ∷ more) (lose_of (k + 1) ∷ ss) c → Left cluster choice plan link (seen ++ r ∷ more) (lose_of k ∷ ss) d
lost cluster choice plan link seen more r k ss c d e f l =
    let all = seen ++ r ∷ more in
    let w = world_of cluster choice (packets_of link plan.check all) in
    let g : Trace = record c { read = c.read + 1; lost = c.lost + 1 } in
    let rest : List ScenarioStep = counted_from (first_time all) (drop (k + 1) (drop c.read (map time_of all))) ss in
    ap (λ (x : Trace). run w (counted_here all (lose_of k ∷ ss) x) x) f
    ∙ ap (λ (t : List ℕ). run w (steps.Lose k ∷ counted_from (first_time all) t ss) g) (moved_on k c.read g.read (map time_of all) refl)
    ∙ sym (lose_one cluster choice (packets_of link plan.check seen) (packets_of link plan.check more) (packet_in link plan.check r) k rest c (e ∙ sym (packets_count link plan.check seen)) w
    (ap (λ (l : List Packet). world_of cluster choice l) (packets_push link plan.check seen more r)))
    ∙ ap (λ (m : ℕ). run w (steps.Lose m ∷ rest) c) (omega arith)
    ∙ l

-- where no record comes, as many as one likes are left out
none_left : (seen : List Record) (n k : ℕ) → n ≡ length seen → drop n (map time_of (seen ++ [])) ≡ drop k (drop n (map time_of (seen ++ [])))
none_left seen n k e =
    let none : drop n (map time_of (seen ++ [])) ≡ [] = next_times seen [] n e in
    none ∙ sym (drop-nil k) ∙ sym (ap (λ (l : List ℕ). drop k l) none)

-- where the input has ended nothing is left to be taken, or lost
pub took_all : (cluster : Cluster) (choice : Choice) (plan : Planned) (link : Link) (seen : List Record) (k : ℕ) (ss : List TimedStep) (c : Trace) → c.read ≡ length seen
    → Left cluster choice plan link (seen ++ []) (take_of k ∷ ss) c → Left cluster choice plan link (seen ++ []) ss c
took_all cluster choice plan link seen k ss c e l =
    let all = seen ++ [] in
    let w = world_of cluster choice (packets_of link plan.check all) in
    let rest : List ScenarioStep = counted_from (first_time all) (drop k (drop c.read (map time_of all))) ss in
    ap (λ (t : List ℕ). run w (counted_from (first_time all) t ss) c) (none_left seen c.read k e)
    ∙ sym (take_ended cluster choice (packets_of link plan.check seen) k rest c (e ∙ sym (packets_count link plan.check seen)) w (ap (λ (l : List Packet). world_of cluster choice l) (map-append (packet_in link plan.check) seen []))) ∙ l

pub lost_all : (cluster : Cluster) (choice : Choice) (plan : Planned) (link : Link) (seen : List Record) (k : ℕ) (ss : List TimedStep) (c : Trace) → c.read ≡ length seen
    → Left cluster choice plan link (seen ++ []) (lose_of k ∷ ss) c → Left cluster choice plan link (seen ++ []) ss c
lost_all cluster choice plan link seen k ss c e l =
    let all = seen ++ [] in
    let w = world_of cluster choice (packets_of link plan.check all) in
    let rest : List ScenarioStep = counted_from (first_time all) (drop k (drop c.read (map time_of all))) ss in
    ap (λ (t : List ℕ). run w (counted_from (first_time all) t ss) c) (none_left seen c.read k e)
    ∙ sym (lose_ended cluster choice (packets_of link plan.check seen) k rest c (e ∙ sym (packets_count link plan.check seen)) w (ap (λ (l : List Packet). world_of cluster choice l) (map-append (packet_in link plan.check) seen []))) ∙ l

-- where a run that reached a record is refused memory there, the output is a beginning
pub short_of : {P : Type 0} (cluster : Cluster) (choice : Choice) (plan : Planned) (text begun : Tape) (ss : List TimedStep) (stage : Stage P) (left out : Tape) → Reached cluster choice plan text begun ss stage left out → Shortened cluster choice plan stage.intake.head text left begun out Memory
short_of cluster choice plan text begun ss stage left out r =
    let g = r.going (listed stage.intake.ahead) (ahead_comes stage.intake text left r.seen r.read) in
    shortened cluster choice plan stage.intake.head text left begun out Memory (r.seen ++ listed stage.intake.ahead) ss stage.play.trace (stands stage.intake text left r.seen r.read) g.left (first_all begun out _ g.sound.sent)

-- where reading on stops it
pub short_read : {P : Type 0} (cluster : Cluster) (choice : Choice) (plan : Planned) (text begun : Tape) (ss : List TimedStep) (stage : Stage P) (left left' out : Tape) (fault : SimulationFault) → (r : Reached cluster choice plan text begun ss stage left out) → fault ≢ Write → ReadStops stage.intake text r.seen left' fault
    → Shortened cluster choice plan stage.intake.head text left' begun out fault
short_read cluster choice plan text begun ss stage left left' out fault r n o =
    let g : Going cluster choice plan stage.intake.head.link (r.seen ++ o.more) ss stage begun out = r.going o.more o.comes in
    shortened cluster choice plan stage.intake.head text left' begun out fault (r.seen ++ o.more) ss stage.play.trace o.stops g.left (until_all fault begun out _ n g.sound.sent)

-- a trace whose past is the same is as sound
pub sound_same : (cluster : Cluster) (plan : Planned) (link : Link) (all : List Record) (c d : Trace) (qs ps : List (List Record)) (begun out : Tape) → d.past ≡ c.past → ps ≡ qs → Sound cluster plan link all c qs begun out → Sound cluster plan link all d ps begun out
sound_same cluster plan link all c d qs ps begun out e f s = record {
  workers = s.workers;
  room = omega (arith, s.room, ap length f);
  orderly = s.orderly;
  judged = subst (λ (l : List LogEntry). Judged cluster.judge l) (sym e) s.judged;
  mirrors = subst (λ (l : List LogEntry). Mirrors all cluster l ps) (sym e) (subst (λ (q : List (List Record)). Mirrors all cluster c.past q) (sym f) s.mirrors);
  sent = subst (λ (l : List LogEntry). Wrote begun out (sent (traffic_of plan link all) (reverse l))) (sym e) s.sent;
}

-- no record came: the input has ended, and the step is over
pub reached_end : {P : Type 0} (cluster : Cluster) (choice : Choice) (plan : Planned) (text begun : Tape) (step : TimedStep) (ss : List TimedStep) (old new : Stage P) (left left' out : Tape) → (r : Reached cluster choice plan text begun (step ∷ ss) old left out)
    → Seen text r.seen left' new.intake × (is_some new.intake.ended ≡ true) → old.intake.ahead ≡ None → new.play.trace ≡ old.play.trace → new.relay ≡ old.relay → KeepsNamed r.seen ss new.kept → new.intake.head ≡ old.intake.head
    → ((link : Link) → Left cluster choice plan link (r.seen ++ []) (step ∷ ss) old.play.trace → Left cluster choice plan link (r.seen ++ []) ss old.play.trace)
    → Reached cluster choice plan text begun ss new left' out
reached_end cluster choice plan text begun step ss old new left left' out r s a p q k h turn = record {
  seen = r.seen;
  read = s.0;
  place = ap (λ (c : Trace). c.read) p ∙ r.place;
  kept = k;
  going = λ more cond.
      let g : Going cluster choice plan old.intake.head.link (r.seen ++ []) (step ∷ ss) old begun out = r.going [] (none_comes old.intake a) in
      subst (λ (l : List Record). Going cluster choice plan new.intake.head.link (r.seen ++ l) ss new begun out) (sym (cond.ended s.1))
      (subst (λ (x : Head). Going cluster choice plan x.link (r.seen ++ []) ss new begun out) (sym h) (record {
        left = subst (λ (c : Trace). Left cluster choice plan old.intake.head.link (r.seen ++ []) ss c) (sym p) (turn old.intake.head.link g.left);
        sound = sound_same cluster plan old.intake.head.link (r.seen ++ []) old.play.trace new.play.trace old.relay.waiting new.relay.waiting begun out (ap (λ (c : Trace). c.past) p) (ap (λ x. x.waiting) q) g.sound;
      }));
}

pub same_trace : {P : Type 0} {a b : Playing P} → a ≡ b → a.trace ≡ b.trace
same_trace e = ap (λ x. x.trace) e

-- what is fixed for a move over a further record
pub record OneMore {P : Type 0} (text : Tape) (seen : List Record) (r : Record) (old new : Stage P) (left' : Tape) : Type 0 where
  pub read : Seen text (seen ++ r ∷ []) left' new.intake
  pub going : old.intake.ended ≡ None
  pub next : IsNext old.intake.ahead r
  pub clear : new.intake.ahead ≡ None
  pub head : new.intake.head ≡ old.intake.head

-- a further record: what is left, and how sound it is, with that record and more behind it
pub reached_more : {P : Type 0} (cluster : Cluster) (choice : Choice) (plan : Planned) (text begun : Tape) (ss ts : List TimedStep) (old new : Stage P) (left left' out out' : Tape) (x : Record) → (r : Reached cluster choice plan text begun ss old left out)
    → OneMore text r.seen x old new left' → new.play.trace.read ≡ old.play.trace.read + 1 → KeepsNamed (r.seen ++ x ∷ []) ts new.kept
    → ((more : List Record) → Left cluster choice plan old.intake.head.link (r.seen ++ x ∷ more) ss old.play.trace → Left cluster choice plan old.intake.head.link (r.seen ++ x ∷ more) ts new.play.trace)
    → ((more : List Record) → Sound cluster plan old.intake.head.link (r.seen ++ x ∷ more) old.play.trace old.relay.waiting begun out → Sound cluster plan old.intake.head.link (r.seen ++ x ∷ more) new.play.trace new.relay.waiting begun out')
    → Reached cluster choice plan text begun ts new left' out'
reached_more cluster choice plan text begun ss ts old new left left' out out' x r m n k turn sound = record {
  seen = r.seen ++ x ∷ [];
  read = m.read;
  place = omega (arith, n, r.place, count_pushed r.seen x);
  kept = k;
  going = λ more cond.
      let g : Going cluster choice plan old.intake.head.link (r.seen ++ x ∷ more) ss old begun out = r.going (x ∷ more) (next_comes old.intake x more m.going m.next) in
      subst (λ (h : Head). Going cluster choice plan h.link ((r.seen ++ x ∷ []) ++ more) ts new begun out') (sym m.head)
      (subst (λ (l : List Record). Going cluster choice plan old.intake.head.link l ts new begun out') (pushed r.seen more x) (record {
        left = turn more g.left;
        sound = sound more g.sound;
      }));
}

-- a further record was read, and the move over it stopped
pub short_more : {P : Type 0} (cluster : Cluster) (choice : Choice) (plan : Planned) (text begun : Tape) (ss ts : List TimedStep) (old mid : Stage P) (left left' out out' : Tape) (x : Record) (d : Trace) (fault : SimulationFault) → (r : Reached cluster choice plan text begun ss old left out)
    → OneMore text r.seen x old mid left' → IsOfRun fault
    → (Left cluster choice plan old.intake.head.link (r.seen ++ x ∷ []) ss old.play.trace → Left cluster choice plan old.intake.head.link (r.seen ++ x ∷ []) ts d)
    → (Sound cluster plan old.intake.head.link (r.seen ++ x ∷ []) old.play.trace old.relay.waiting begun out → WroteUntil fault begun out' (sent (traffic_of plan old.intake.head.link (r.seen ++ x ∷ [])) (reverse d.past)))
    → Shortened cluster choice plan old.intake.head text left' begun out' fault
short_more cluster choice plan text begun ss ts old mid left left' out out' x d fault r m named turn cut =
    let g : Going cluster choice plan old.intake.head.link (r.seen ++ x ∷ []) ss old begun out = r.going (x ∷ []) (next_comes old.intake x [] m.going m.next) in
    shortened cluster choice plan old.intake.head text left' begun out' fault (r.seen ++ x ∷ []) ts d
    (stops_run old.intake.head text left' (r.seen ++ x ∷ []) fault named (subst (λ (h : Head). Stands h text left' (r.seen ++ x ∷ [])) m.head (subst (λ (l : List Record). Stands mid.intake.head text left' l) (ap (λ (o : Option Record). (r.seen ++ x ∷ []) ++ listed o) m.clear ∙ append-nil (r.seen ++ x ∷ [])) (stands mid.intake text left' (r.seen ++ x ∷ []) m.read)))) (turn g.left) (cut g.sound)

-- the counts after a record was taken
pub counted_taken : (given n : ℕ) (w : World) (p : Packet) (c s d : Trace) (place : ℕ) → s ≡ record c { read = c.read + 1 } → d ≡ deliver w place p s → Counted given n c → Counted (given + 1) n d
counted_taken given n w p c s d place e f h =
    let m = handed_next w p c s d place e f in
    record { read = omega (arith, m.0, h.read); nth = omega (arith, m.0, m.1, h.nth); unrouted = omega (arith, m.0, m.2, h.unrouted); lost = omega (arith, m.0, m.3, h.lost); skipped = omega (arith, m.4, h.skipped) }

pub delivered_same : (w : World) (check : Bool) (x : Record) (h i : Head) (m n : ℕ) (s t : Trace) → h ≡ i → m ≡ n → s ≡ t → deliver w m (packet_in h.link check x) s ≡ deliver w n (packet_in i.link check x) t
delivered_same w check x h i m n s t e f k =
    ap (λ (y : Head). deliver w m (packet_in y.link check x) s) e ∙ ap (λ (j : ℕ). deliver w j (packet_in i.link check x) s) f ∙ ap (λ (y : Trace). deliver w n (packet_in i.link check x) y) k

-- a step that has nothing left to do is over
pub reached_turn : {P : Type 0} (cluster : Cluster) (choice : Choice) (plan : Planned) (text begun : Tape) (step : TimedStep) (ss : List TimedStep) (stage : Stage P) (left out : Tape) → Reached cluster choice plan text begun (step ∷ ss) stage left out
    → ((k : KeptRecords) (seen : List Record) → KeepsNamed seen (step ∷ ss) k → KeepsNamed seen ss k) → ((link : Link) (all : List Record) → Left cluster choice plan link all (step ∷ ss) stage.play.trace → Left cluster choice plan link all ss stage.play.trace) → Reached cluster choice plan text begun ss stage left out
reached_turn cluster choice plan text begun step ss stage left out r keeps turn = record {
  seen = r.seen;
  read = r.read;
  place = r.place;
  kept = keeps stage.kept r.seen r.kept;
  going = λ more cond.
      let g : Going cluster choice plan stage.intake.head.link (r.seen ++ more) (step ∷ ss) stage begun out = r.going more cond in
      record { left = turn stage.intake.head.link (r.seen ++ more) g.left; sound = g.sound };
}

pub no_more_taken : (cluster : Cluster) (choice : Choice) (plan : Planned) (k : ℕ) (ss : List TimedStep) (c : Trace) → k ≡ 0 → (link : Link) (all : List Record) → Left cluster choice plan link all (take_of k ∷ ss) c → Left cluster choice plan link all ss c
no_more_taken cluster choice plan k ss c e link all l =
    let w = world_of cluster choice (packets_of link plan.check all) in
    let left = drop c.read (map time_of all) in
    ap (λ (n : ℕ). run w (counted_from (first_time all) (drop n left) ss) c) (sym e) ∙ sym (take_zero w k (counted_from (first_time all) (drop k left) ss) c e) ∙ l

pub no_more_lost : (cluster : Cluster) (choice : Choice) (plan : Planned) (k : ℕ) (ss : List TimedStep) (c : Trace) → k ≡ 0 → (link : Link) (all : List Record) → Left cluster choice plan link all (lose_of k ∷ ss) c → Left cluster choice plan link all ss c
no_more_lost cluster choice plan k ss c e link all l =
    let w = world_of cluster choice (packets_of link plan.check all) in
    let left = drop c.read (map time_of all) in
    ap (λ (n : ℕ). run w (counted_from (first_time all) (drop n left) ss) c) (sym e) ∙ sym (lose_zero w k (counted_from (first_time all) (drop k left) ss) c e) ∙ l

-- one fewer is left
pub one_fewer : (count i : ℕ) → i < count → count - i ≡ (count - (i + 1)) + 1
one_fewer count i h = omega (arith, h)

-- the counts after a record was lost
pub counted_lost : (given n : ℕ) (c d : Trace) → d ≡ record c { read = c.read + 1; lost = c.lost + 1 } → Counted given n c → Counted (given + 1) n d
counted_lost given n c d e h = subst (λ (x : Trace). Counted (given + 1) n x) (sym e) (record { read = omega (arith, h.read); nth = omega (arith, h.nth); unrouted = omega (arith, h.unrouted); lost = omega (arith, h.lost); skipped = h.skipped })

taken_at : (n k : ℕ) (l : List Packet) → k < n → slice_get (take n l) k ≡ slice_get l k
taken_at zero k l h = absurd (omega (arith, h))
taken_at (suc n) k [] h = refl
taken_at (suc n) zero (p ∷ l) h = refl
taken_at (suc n) (suc k) (p ∷ l) h = taken_at n k l (omega (arith, h))

taken_past : (n k : ℕ) (l : List Packet) → n ≤ k → slice_get (take n l) k ≡ None
taken_past zero k l h = refl
taken_past (suc n) k [] h = refl
taken_past (suc n) zero (p ∷ l) h = absurd (omega (arith, h))
taken_past (suc n) (suc k) (p ∷ l) h = taken_past n k l (omega (arith, h))

-- what a repeat finds
pub is_there : (seen more : List Record) (place : ℕ) (r : Record) → Some r ≡ slice_get seen place → (place < length seen) × (slice_get (seen ++ more) place ≡ Some r)
is_there [] more place r e = let bad : Some r ≡ None = e in cc
is_there (x ∷ seen) more zero r e = (omega arith, sym e)
is_there (x ∷ seen) more (suc place) r e = let h = is_there seen more place r e in (omega (arith, h.0), h.1)

not_there : (seen : List Record) (place : ℕ) → None ≡ slice_get seen place → length seen ≤ place
not_there [] place e = omega arith
not_there (x ∷ seen) zero e = let bad : None ≡ Some x = e in cc
not_there (x ∷ seen) (suc place) e = omega (arith, not_there seen place e)

pub packet_there : (link : Link) (check : Bool) (all : List Record) (place read : ℕ) (o : Option Record) → place < read → slice_get all place ≡ o → slice_get (take read (packets_of link check all)) place ≡ option_map (packet_in link check) o
packet_there link check all place read o h e = taken_at read place (packets_of link check all) h ∙ slice_get-map (packet_in link check) all place ∙ ap (option_map (packet_in link check)) e

pub packet_none : (link : Link) (check : Bool) (seen more : List Record) (place read : ℕ) → read ≡ length seen → None ≡ slice_get seen place → slice_get (take read (packets_of link check (seen ++ more))) place ≡ None
packet_none link check seen more place read n e = taken_past read place (packets_of link check (seen ++ more)) (omega (arith, n, not_there seen place e))

repeat_reads : (w : World) (k : ℕ) (o : Option Packet) (c : Trace) → (repeat w k o c).read ≡ c.read
unfolding repeat
repeat_reads w k None c = refl
repeat_reads w k (Some p) c = (deliver_hands w k p c).read

-- a record was repeated, or skipped
pub repeated : (cluster : Cluster) (choice : Choice) (plan : Planned) (link : Link) (all : List Record) (place : ℕ) (ss : List TimedStep) (c d : Trace) (p : Option Packet) → slice_get (take c.read (packets_of link plan.check all)) place ≡ p
    → d ≡ repeat (world_of cluster choice (packets_of link plan.check all)) place p c → Left cluster choice plan link all (again_of place ∷ ss) c → Left cluster choice plan link all ss d
repeated cluster choice plan link all place ss c d p h e l =
    let w = world_of cluster choice (packets_of link plan.check all) in
    let is : after w (steps.Again place) c ≡ repeat w place p c = again_is w place c ∙ ap (λ (o : Option Packet). repeat w place o c) h in
    let rest : List ScenarioStep = counted_from (first_time all) (drop c.read (map time_of all)) ss in
    ap (λ (x : Trace). run w (counted_here all ss x) x) (e ∙ sym is)
    ∙ ap (λ (n : ℕ). run w (counted_from (first_time all) (drop n (map time_of all)) ss) (after w (steps.Again place) c)) (ap (λ (x : Trace). x.read) is ∙ repeat_reads w place p c)
    ∙ sym (run_cons w (steps.Again place) rest c) ∙ l

-- no further record was read
pub reached_same : {P : Type 0} (cluster : Cluster) (choice : Choice) (plan : Planned) (text begun : Tape) (ss ts : List TimedStep) (old new : Stage P) (left out out' : Tape) → (r : Reached cluster choice plan text begun ss old left out)
    → StandsStill old.intake new.intake → new.play.trace.read ≡ old.play.trace.read → KeepsNamed r.seen ts new.kept
    → ((more : List Record) → Left cluster choice plan old.intake.head.link (r.seen ++ more) ss old.play.trace → Left cluster choice plan old.intake.head.link (r.seen ++ more) ts new.play.trace)
    → ((more : List Record) → Sound cluster plan old.intake.head.link (r.seen ++ more) old.play.trace old.relay.waiting begun out → Sound cluster plan old.intake.head.link (r.seen ++ more) new.play.trace new.relay.waiting begun out')
    → Reached cluster choice plan text begun ts new left out'
reached_same cluster choice plan text begun ss ts old new left out out' r i n k turn sound = record {
  seen = r.seen;
  read = seen_same old.intake new.intake text left r.seen i r.read;
  place = n ∙ r.place;
  kept = k;
  going = λ more cond.
      let g : Going cluster choice plan old.intake.head.link (r.seen ++ more) ss old begun out = r.going more (can_same old.intake new.intake more i.1 i.3 cond) in
      subst (λ (h : Head). Going cluster choice plan h.link (r.seen ++ more) ts new begun out') (sym i.2) (record {
        left = turn more g.left;
        sound = sound more g.sound;
      });
}

-- what was read is a beginning of all that can come, and the move stopped
pub short_same : {P : Type 0} (cluster : Cluster) (choice : Choice) (plan : Planned) (text begun : Tape) (ss ts : List TimedStep) (old : Stage P) (left out out' : Tape) (d : Trace) (fault : SimulationFault) → (r : Reached cluster choice plan text begun ss old left out) → IsOfRun fault
    → (Left cluster choice plan old.intake.head.link (r.seen ++ listed old.intake.ahead) ss old.play.trace → Left cluster choice plan old.intake.head.link (r.seen ++ listed old.intake.ahead) ts d)
    → (Sound cluster plan old.intake.head.link (r.seen ++ listed old.intake.ahead) old.play.trace old.relay.waiting begun out → WroteUntil fault begun out' (sent (traffic_of plan old.intake.head.link (r.seen ++ listed old.intake.ahead)) (reverse d.past)))
    → Shortened cluster choice plan old.intake.head text left begun out' fault
short_same cluster choice plan text begun ss ts old left out out' d fault r named turn cut =
    let all = r.seen ++ listed old.intake.ahead in
    let g = r.going (listed old.intake.ahead) (ahead_comes old.intake text left r.seen r.read) in
    shortened cluster choice plan old.intake.head text left begun out' fault all ts d (stops_run old.intake.head text left all fault named (stands old.intake text left r.seen r.read)) (turn g.left) (cut g.sound)

-- the counts after a repeat
pub counted_again : (given n : ℕ) (w : World) (p : Packet) (c d : Trace) (place : ℕ) → d ≡ deliver w place p c → Counted given n c → Counted given (n + 1) d
counted_again given n w p c d place e h =
    let m = deliver_hands w place p c in
    subst (λ (x : Trace). Counted given (n + 1) x) (sym e) (record { read = omega (arith, m.read, h.read); nth = omega (arith, m.read, m.nth, h.nth); unrouted = omega (arith, m.read, m.unrouted, h.unrouted); lost = omega (arith, m.read, m.lost, h.lost); skipped = omega (arith, m.skipped, h.skipped) })

pub counted_skip : (given n : ℕ) (c d : Trace) → d ≡ record c { skipped = c.skipped + 1 } → Counted given n c → Counted given (n + 1) d
counted_skip given n c d e h = subst (λ (x : Trace). Counted given (n + 1) x) (sym e) (record { read = h.read; nth = omega (arith, h.nth); unrouted = omega (arith, h.unrouted); lost = h.lost; skipped = omega (arith, h.skipped) })

-- a step that names no record reads none
reads_none : (s : ScenarioStep) → names_records s ≡ false → reads s ≡ 0
reads_none (steps.Install n v) q = refl
reads_none (steps.Live ns) q = refl
reads_none (steps.Take k) q = let bad : true ≡ false = q in cc
reads_none (steps.Lose k) q = let bad : true ≡ false = q in cc
reads_none (steps.Again k) q = refl
reads_none (steps.Full n m) q = refl
reads_none (steps.Hold n) q = refl
reads_none (steps.Drain n) q = refl
reads_none (steps.Restart n) q = refl
reads_none (steps.Stop n) q = refl

-- it was done
pub stepped_left : (cluster : Cluster) (choice : Choice) (plan : Planned) (link : Link) (all : List Record) (s : ScenarioStep) (ss : List TimedStep) (c d : Trace) → names_records s ≡ false → d ≡ after (world_of cluster choice (packets_of link plan.check all)) s c
    → Left cluster choice plan link all (by_count s ∷ ss) c → Left cluster choice plan link all ss d
stepped_left cluster choice plan link all s ss c d q e l =
    let w = world_of cluster choice (packets_of link plan.check all) in
    let left = drop c.read (map time_of all) in
    ap (λ (x : Trace). run w (counted_here all ss x) x) e
    ∙ ap (λ (n : ℕ). run w (counted_from (first_time all) (drop n (map time_of all)) ss) (after w s c)) (apart_keeps w s c q).read
    ∙ ap (λ (n : ℕ). run w (counted_from (first_time all) (drop n left) ss) (after w s c)) (sym (reads_none s q))
    ∙ sym (run_cons w s (counted_from (first_time all) (drop (reads s) left) ss) c) ∙ l

is_apart : (s : ScenarioStep) → names_records s ≡ false → (k : ℕ) → s ≡ steps.Again k → ⊥
is_apart s h k e = let bad : true ≡ false = ap names_records (sym e) ∙ h in cc

pub kept_apart : (seen : List Record) (s : ScenarioStep) (ss : List TimedStep) (k : KeptRecords) → names_records s ≡ false → KeepsNamed seen (by_count s ∷ ss) k → KeepsNamed seen ss k
kept_apart seen s ss k q h place =
    h place ∙ ap (λ (b : Bool). to_keep (if b then suc (times_named place ss) else times_named place ss) (slice_get seen place)) (names_none place s (is_apart s q))

pub counted_apart : (given n : ℕ) (w : World) (s : ScenarioStep) (c d : Trace) → names_records s ≡ false → d ≡ after w s c → Counted given n c → Counted given (n + 1) d
counted_apart given n w s c d q e h =
    let k : Keeps c (after w s c) = apart_keeps w s c q in
    subst (λ (x : Trace). Counted given (n + 1) x) (sym e) (record { read = omega (arith, k.read, h.read); nth = omega (arith, k.nth, k.read, h.nth); unrouted = omega (arith, k.unrouted, k.read, h.unrouted); lost = omega (arith, k.lost, k.read, h.lost); skipped = omega (arith, k.skipped, h.skipped) })

pub read_apart : (w : World) (s : ScenarioStep) (c d : Trace) → names_records s ≡ false → d ≡ after w s c → d.read ≡ c.read
read_apart w s c d q e = ap (λ (x : Trace). x.read) e ∙ (apart_keeps w s c q).read

pub next_step : (ss : List TimedStep) (i : ℕ) (s : TimedStep) → i < length ss → s ≡ get_or ss i s → drop i ss ≡ s ∷ drop (i + 1) ss
next_step ss i s lt e = rw (add-one, drop-cons ss i s) (ap (λ (x : TimedStep). x ∷ drop (suc i) ss) (sym e))

pub passed_none : (head : Head) (text : Option (List ℕ)) → Passed head text [] text
passed_none head None = tt
passed_none head (Some t) = refl

begun_left : (cluster : Cluster) (choice : Choice) (plan : Planned) (link : Link) (all : List Record) (c : Trace) → c ≡ start (length plan.nodes) → Left cluster choice plan link all plan.steps c
unfolding trace_of
begun_left cluster choice plan link all c e = ap (λ (x : Trace). run (world_of cluster choice (packets_of link plan.check all)) (counted_here all plan.steps x) x) e

-- at the start everything is to be done
pub reached_start : {P : Type 0} (cluster : Cluster) (choice : Choice) (plan : Planned) (text out : Tape) (stage : Stage P) → cluster.workers ≤ 16 → cluster.nodes ≡ length plan.nodes → length stage.relay.waiting ≡ length plan.nodes * 16 → Orderly cluster
    → stage.play.trace ≡ start (length plan.nodes) → stage.intake.ended ≡ None → stage.intake.given ≡ 0 → stage.intake.ahead ≡ None → stage.intake.first ≡ 0 → KeepsNamed [] plan.steps stage.kept → ((all : List Record) (k : Cluster) → Mirrors all k [] stage.relay.waiting)
    → Reached cluster choice plan text out plan.steps stage text out
reached_start cluster choice plan text out stage few nodes room orderly play ended given clear first kept mirrors = record {
  seen = [];
  read = all_handed stage.intake text text [] clear given (subst (λ (o : Option InputEnd). HasSeen stage.intake.head o text.bytes [] text.bytes) (sym ended) (passed_none stage.intake.head text.bytes)) first (unfailed_same text)
      (λ _. (0, omega arith, omega arith));
  place = ap (λ (c : Trace). c.read) play;
  kept = kept;
  going = λ more cond. record {
    left = begun_left cluster choice plan stage.intake.head.link more stage.play.trace play;
    sound = record {
      workers = few;
      room = omega (arith, room, nodes);
      orderly = orderly;
      judged = subst (λ (l : List LogEntry). Judged cluster.judge l) (sym (ap (λ (c : Trace). c.past) play)) tt;
      mirrors = subst (λ (l : List LogEntry). Mirrors more cluster l stage.relay.waiting) (sym (ap (λ (c : Trace). c.past) play)) (mirrors more cluster);
      sent = subst (λ (l : List LogEntry). Wrote out out (sent (traffic_of plan stage.intake.head.link more) (reverse l))) (sym (ap (λ (c : Trace). c.past) play)) (wrote_none out);
    };
  };
}

-- the next record comes early enough: the step by time is that one record, and itself
early_left : (cluster : Cluster) (choice : Choice) (plan : Planned) (link : Link) (seen more rest : List Record) (x : Record) (end : ℕ) (ss : List TimedStep) (c : Trace) → c.read ≡ length seen → more ≡ x ∷ rest
    → is_before (first_time (seen ++ more)) end (time_of x) ≡ true
    → Left cluster choice plan link (seen ++ more) (until_of end ∷ ss) c → Left cluster choice plan link (seen ++ more) (take_of 1 ∷ until_of end ∷ ss) c
early_left cluster choice plan link seen more rest x end ss c e q b l =
    let all = seen ++ more in
    let w = world_of cluster choice (packets_of link plan.check all) in
    let first = first_time all in
    let is : w ≡ world_of cluster choice (packets_of link plan.check seen ++ packet_in link plan.check x ∷ packets_of link plan.check rest) =
    ap (λ (m : List Record). world_of cluster choice (packets_of link plan.check (seen ++ m))) q ∙ ap (λ (l : List Packet). world_of cluster choice l) (packets_push link plan.check seen rest x) in
    let here : drop c.read (map time_of all) ≡ time_of x ∷ map time_of rest = next_times seen more c.read e ∙ ap (map time_of) q in
    let n = count_until first end (map time_of rest) in
    let behind : List ScenarioStep = counted_from first (drop n (map time_of rest)) ss in
    let count : count_until first end (time_of x ∷ map time_of rest) ≡ suc n = cond-true (is_before first end (time_of x)) (suc n) 0 b in
    let at = e ∙ sym (packets_count link plan.check seen) in
    let d : Trace = deliver w c.read (packet_in link plan.check x) (record c { read = c.read + 1 }) in
    ap (λ (t : List ℕ). run w (counted_from first t (take_of 1 ∷ until_of end ∷ ss)) c) here
    ∙ take_one cluster choice (packets_of link plan.check seen) (packets_of link plan.check rest) (packet_in link plan.check x) 0 (steps.Take n ∷ behind) c at w is
    ∙ take_zero w 0 (steps.Take n ∷ behind) d refl
    ∙ sym (take_one cluster choice (packets_of link plan.check seen) (packets_of link plan.check rest) (packet_in link plan.check x) n behind c at w is)
    ∙ sym (ap (λ (m : ℕ). run w (steps.Take m ∷ counted_from first (drop m (time_of x ∷ map time_of rest)) ss) c) count)
    ∙ sym (ap (λ (t : List ℕ). run w (counted_from first t (until_of end ∷ ss)) c) here)
    ∙ l

-- none of the next records does: the step by time is over
late_left : (cluster : Cluster) (choice : Choice) (plan : Planned) (link : Link) (seen more : List Record) (end : ℕ) (ss : List TimedStep) (c : Trace) → c.read ≡ length seen
    → count_until (first_time (seen ++ more)) end (map time_of more) ≡ 0
    → Left cluster choice plan link (seen ++ more) (until_of end ∷ ss) c → Left cluster choice plan link (seen ++ more) ss c
late_left cluster choice plan link seen more end ss c e z l =
    let all = seen ++ more in
    let w = world_of cluster choice (packets_of link plan.check all) in
    let left = drop c.read (map time_of all) in
    let none : count_until (first_time all) end left ≡ 0 = ap (count_until (first_time all) end) (next_times seen more c.read e) ∙ z in
    sym (take_zero w 0 (counted_from (first_time all) left ss) c refl)
    ∙ ap (λ (m : ℕ). run w (steps.Take m ∷ counted_from (first_time all) (drop m left) ss) c) (sym none)
    ∙ l

-- the first record of all is known once one is ahead
first_same : (seen : List Record) (o : Option Record) (more : List Record) → BeginsWith o more → (o ≡ None → more ≡ []) → first_time (seen ++ more) ≡ first_time (seen ++ listed o)
first_same seen None more h none = ap (λ (m : List Record). first_time (seen ++ m)) (none refl)
first_same [] (Some x) more h none = ap first_time h.1
first_same (y ∷ seen) (Some x) more h none = refl

until_left : (cluster : Cluster) (choice : Choice) (plan : Planned) (link : Link) (seen more : List Record) (end : ℕ) (ss : List TimedStep) (c : Trace) (o : Option Record) (b : Bool) → c.read ≡ length seen → BeginsWith o more → (o ≡ None → more ≡ [])
    → b ≡ comes_early (first_time (seen ++ more)) end o → Left cluster choice plan link (seen ++ more) (until_of end ∷ ss) c → Left cluster choice plan link (seen ++ more) (one_of_until b end ss) c
until_left cluster choice plan link seen more end ss c None true e h none is l = let bad : true ≡ false = is in cc
until_left cluster choice plan link seen more end ss c None false e h none is l =
    late_left cluster choice plan link seen more end ss c e (ap (λ (m : List Record). count_until (first_time (seen ++ more)) end (map time_of m)) (none refl)) l
until_left cluster choice plan link seen more end ss c (Some x) true e h none is l = early_left cluster choice plan link seen more h.0 x end ss c e h.1 (sym is) l
until_left cluster choice plan link seen more end ss c (Some x) false e h none is l =
    let first = first_time (seen ++ more) in
    late_left cluster choice plan link seen more end ss c e
    (ap (λ (m : List Record). count_until first end (map time_of m)) h.1 ∙ cond-false (is_before first end (time_of x)) (suc (count_until first end (map time_of h.0))) 0 (sym is)) l

kept_until : (b : Bool) (end : ℕ) (ss : List TimedStep) (seen : List Record) (k : KeptRecords) → KeepsNamed seen (until_of end ∷ ss) k → KeepsNamed seen (one_of_until b end ss) k
kept_until true end ss seen k h = h
kept_until false end ss seen k h = h

-- a step by time, where its next record is known
pub reached_until : {P : Type 0} (cluster : Cluster) (choice : Choice) (plan : Planned) (text begun : Tape) (b : Bool) (end : ℕ) (ss : List TimedStep) (stage : Stage P) (left out : Tape) → Reached cluster choice plan text begun (until_of end ∷ ss) stage left out
    → b ≡ comes_early stage.intake.first end stage.intake.ahead → (stage.intake.ahead ≡ None → is_some stage.intake.ended ≡ true) → Reached cluster choice plan text begun (one_of_until b end ss) stage left out
reached_until cluster choice plan text begun b end ss stage left out r is ended = record {
  seen = r.seen;
  read = r.read;
  place = r.place;
  kept = kept_until b end ss r.seen stage.kept r.kept;
  going = λ more can.
      let o = stage.intake.ahead in
      let none : o ≡ None → more ≡ [] = λ n. can.ended (ended n) in
      let g : Going cluster choice plan stage.intake.head.link (r.seen ++ more) (until_of end ∷ ss) stage begun out = r.going more can in
      let first : stage.intake.first ≡ first_time (r.seen ++ more) = r.read.first ∙ sym (first_same r.seen o more can.ahead none) in
      record {
        left = until_left cluster choice plan stage.intake.head.link r.seen more end ss stage.play.trace o b r.place can.ahead none (is ∙ ap (λ (n : ℕ). comes_early n end o) first) g.left;
        sound = g.sound;
      };
}

-- the next record was looked for, and the run stands where it stood
pub reached_looked : {P : Type 0} (cluster : Cluster) (choice : Choice) (plan : Planned) (text begun : Tape) (ss : List TimedStep) (old new : Stage P) (left left' out : Tape) → (r : Reached cluster choice plan text begun ss old left out) → Seen text r.seen left' new.intake
    → Looked old.intake new.intake → new.intake.head ≡ old.intake.head → new.play ≡ old.play → new.relay ≡ old.relay → new.kept ≡ old.kept → Reached cluster choice plan text begun ss new left' out
reached_looked cluster choice plan text begun ss old new left left' out r s looked h p q k = record {
  seen = r.seen;
  read = s;
  place = ap (λ x. x.trace.read) p ∙ r.place;
  kept = subst (KeepsNamed r.seen ss) (sym k) r.kept;
  going = λ more can.
      let g : Going cluster choice plan old.intake.head.link (r.seen ++ more) ss old begun out = r.going more (looked.comes more can) in
      subst (λ (x : Head). Going cluster choice plan x.link (r.seen ++ more) ss new begun out) (sym h) (record {
        left = subst (λ (c : Trace). Left cluster choice plan old.intake.head.link (r.seen ++ more) ss c) (sym (same_trace p)) g.left;
        sound = sound_same cluster plan old.intake.head.link (r.seen ++ more) old.play.trace new.play.trace old.relay.waiting new.relay.waiting begun out (ap (λ x. x.trace.past) p) (ap (λ x. x.waiting) q) g.sound;
      });
}

-- a record that comes early enough is ahead
pub early_ahead : (first end : ℕ) (o : Option Record) → true ≡ comes_early first end o → is_some o ≡ true
early_ahead first end None e = let bad : true ≡ false = e in cc
early_ahead first end (Some r) e = refl

pub counted_same : (given given' n : ℕ) (c d : Trace) → given' ≡ given → d ≡ c → Counted given n c → Counted given' n d
counted_same given given' n c d e f h = subst (λ (m : ℕ). Counted m n d) (sym e) (subst (λ (x : Trace). Counted given n x) (sym f) h)

-- the record that was ahead was taken
pub took_until : {P : Type 0} (cluster : Cluster) (choice : Choice) (plan : Planned) (text begun : Tape) (more : Bool) (end : ℕ) (ss : List TimedStep) (stage : Stage P) (left out : Tape) (o : Option Record) → is_some o ≡ true → (more ≡ false → o ≡ None)
    → Reached cluster choice plan text begun (still_to_take more 0 (until_of end ∷ ss)) stage left out → Reached cluster choice plan text begun (still_until more end ss) stage left out
took_until cluster choice plan text begun true end ss stage left out o some none r =
    reached_turn cluster choice plan text begun (take_of 0) (until_of end ∷ ss) stage left out r (λ k seen h. h) (no_more_taken cluster choice plan 0 (until_of end ∷ ss) stage.play.trace refl)
took_until cluster choice plan text begun false end ss stage left out o some none r = let bad : false ≡ true = ap is_some (sym (none refl)) ∙ some in cc

-- at the end all is done
pub over_of : {P : Type 0} (cluster : Cluster) (choice : Choice) (plan : Planned) (text begun : Tape) (stage : Stage P) (left left' out : Tape) (ending : InputEnd) (new : Taking) → (r : Reached cluster choice plan text begun [] stage left out) → ReadOn text r.seen left' ending stage.intake new
    → IsOver cluster choice plan stage.intake.head text left' begun out stage.play.trace new.given ending
over_of cluster choice plan text begun stage left left' out ending new r o =
    let g : Going cluster choice plan stage.intake.head.link (r.seen ++ o.more) [] stage begun out = r.going o.more o.comes in
    let is : stage.play.trace ≡ trace_of cluster choice plan stage.intake.head.link (r.seen ++ o.more) = sym (run_none (world_of cluster choice (packets_of stage.intake.head.link plan.check (r.seen ++ o.more))) stage.play.trace) ∙ g.left in
    record {
      records = r.seen ++ o.more;
      told = o.told;
      unfailed = o.unfailed;
      trace_is = is;
      count = o.count;
      wrote = subst (λ (c : Trace). Wrote begun out (sent (traffic_of plan stage.intake.head.link (r.seen ++ o.more)) (reverse c.past))) is g.sound.sent;
    }

-- nothing was done yet
pub short_none : (cluster : Cluster) (choice : Choice) (plan : Planned) (head : Head) (text out : Tape) → Shortened cluster choice plan head text text out out Memory
short_none cluster choice plan head text out = record { records = []; stops = (None, passed_none head text.bytes, unfailed_same text); wrote = first_none out (sendings cluster choice plan head.link []) }
