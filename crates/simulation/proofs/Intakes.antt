-- One record more, or the ending.
use Rattle.std.proofs.Common.{true, false, is_some, ◌≡◌, ℕ, ◌+◌, List, [], ◌∷◌, ◌++◌, Option, Some, None, Err, refl, sym, ap, ◌∙◌, subst, arith, length, length-append, append-nil}
use Rattle.std.proofs.lemmas.Bool.{eq-eqb, ne_eqb, cond-true, cond-false}
use Rattle.std.specs.Prelude.{◌==◌, if◌then◌else◌}
use Rattle.pcap_file.specs.declared.format.Head.{Head}
use Rattle.pcap_file.specs.declared.format.InputEnd.{InputEnd}
use Rattle.pcap_file.specs.declared.format.Ending.TheVariants.{Failed}
use Rattle.pcap_file.specs.declared.format.PcapFault.{PcapFault}
use Rattle.pcap_file.specs.Device.{Tape, Unfailed, CallsAtMost}
use Rattle.pcap_file.specs.Format.{Record}
use Rattle.pcap_file.specs.Reading.{Gave}
use Rattle.pcap_file.specs.Text.{Passed, RefusedBehind, calls_for}
use Rattle.pcap_file.proofs.Records.{calls-next}
use Rattle.pcap_file.proofs.Texts.{passed-push, passed-stop, calls_for-push}
use Rattle.simulation.specs.declared.fault.SimulationFault.{SimulationFault}
use Rattle.simulation.specs.declared.fault.SimulationFault.TheVariants.{Capture, Write, Memory}
use Rattle.simulation.specs.Sent.{time_of}
use Rattle.simulation.specs.Intake.{Taking, listed, first_time, BeginsWith, CanCome, IsNext, HasSeen, Seen, ReadOrEnded, NextRefused, Looked, Stands, StopsAt, ReadStops}
use Rattle.simulation.specs.Simulated.{IsOfRun}
use Rattle.simulation.proofs.Sends.{unfailed_both}

pub no_end : (o : Option InputEnd) → o ≡ None → is_some o ≡ true → ⊥
no_end o e f = let bad : false ≡ true = ap is_some (sym e) ∙ f in cc

-- where none is ahead, what was handed out is all that was read
none_ahead : (t : Taking) (seen : List Record) → t.ahead ≡ None → seen ++ listed t.ahead ≡ seen
none_ahead t seen e = ap (λ (o : Option Record). seen ++ listed o) e ∙ append-nil seen

passed : (t : Taking) (text left : Tape) (seen : List Record) → t.ended ≡ None → t.ahead ≡ None → Seen text seen left t → Passed t.head text.bytes seen left.bytes
passed t text left seen e a s =
    subst (λ (l : List Record). Passed t.head text.bytes l left.bytes) (none_ahead t seen a)
    (subst (λ (o : Option InputEnd). HasSeen t.head o text.bytes (seen ++ listed t.ahead) left.bytes) e s.has)

calls_before : (t : Taking) (text left : Tape) (seen : List Record) → t.ended ≡ None → t.ahead ≡ None → Seen text seen left t → CallsAtMost (calls_for seen) text left
calls_before t text left seen e a s = subst (λ (l : List Record). CallsAtMost (calls_for l) text left) (none_ahead t seen a) (s.calls e)

-- the first record's time, with one record more
first_push : (seen : List Record) (r : Record) (given first new : ℕ) → given ≡ length seen → first ≡ first_time seen → new ≡ (if given == 0 then time_of r else first) → new ≡ first_time (seen ++ r ∷ [])
first_push [] r given first new e f g = g ∙ cond-true (given == 0) (time_of r) first (eq-eqb given 0 e)
first_push (x ∷ seen) r given first new e f g = g ∙ cond-false (given == 0) (time_of r) first (ne_eqb given 0 (λ z. absurd (omega (arith, e, z)))) ∙ f

-- one record was read behind these
pub record OneRead (t : Taking) (text left : Tape) (seen : List Record) (r : Record) (first : ℕ) : Type 0 where
  pub has : HasSeen t.head t.ended text.bytes (seen ++ r ∷ []) left.bytes
  pub time : first ≡ first_time (seen ++ r ∷ [])
  pub unfailed : Unfailed text left
  pub calls : t.ended ≡ None → CallsAtMost (calls_for (seen ++ r ∷ [])) text left

one_read : (t : Taking) (text left left' : Tape) (seen : List Record) (r : Record) (first : ℕ) → t.ended ≡ None → t.ahead ≡ None → first ≡ (if t.given == 0 then time_of r else t.first) → Seen text seen left t
    → ReadOrEnded t.head t.given left left' r None → OneRead t text left' seen r first
one_read t text left left' seen r first e a f s o = record {
  has = subst (λ (x : Option InputEnd). HasSeen t.head x text.bytes (seen ++ r ∷ []) left'.bytes) (sym e) (passed-push t.head t.given text.bytes left.bytes left'.bytes seen r s.count (passed t text left seen e a s) o.0);
  time = first_push seen r t.given t.first first s.count (s.first ∙ ap first_time (none_ahead t seen a)) f;
  unfailed = unfailed_both text left left' s.unfailed o.1;
  calls = λ _. subst (λ (m : ℕ). CallsAtMost m text left') (sym (calls_for-push seen r)) (calls-next (calls_for seen) (length r.bytes + 2016) text left left' (calls_before t text left seen e a s) o.2);
}

-- all that was read was handed out
pub all_handed : (t : Taking) (text left : Tape) (seen : List Record) → t.ahead ≡ None → t.given ≡ length seen → HasSeen t.head t.ended text.bytes seen left.bytes → t.first ≡ first_time seen → Unfailed text left → (t.ended ≡ None → CallsAtMost (calls_for seen) text left)
    → Seen text seen left t
all_handed t text left seen a n h f u k =
    let e : seen ≡ seen ++ listed t.ahead = sym (none_ahead t seen a) in
    record {
      has = subst (λ (l : List Record). HasSeen t.head t.ended text.bytes l left.bytes) e h;
      count = n;
      quiet = λ _. a;
      first = f ∙ ap first_time e;
      unfailed = u;
      calls = λ none. subst (λ (l : List Record). CallsAtMost (calls_for l) text left) e (k none);
    }

-- it was handed out at once
pub one_more : (t : Taking) (text left left' : Tape) (seen : List Record) (r : Record) (first : ℕ) → t.ended ≡ None → t.ahead ≡ None → first ≡ (if t.given == 0 then time_of r else t.first) → Seen text seen left t
    → ReadOrEnded t.head t.given left left' r None → Seen text (seen ++ r ∷ []) left' (record { head = t.head; record_read = r; given = t.given + 1; ended = t.ended; ahead = t.ahead; first = first })
one_more t text left left' seen r first e a f s o =
    let one = one_read t text left left' seen r first e a f s o in
    all_handed (record { head = t.head; record_read = r; given = t.given + 1; ended = t.ended; ahead = t.ahead; first = first }) text left' (seen ++ r ∷ []) a (omega (arith, s.count, length-append seen (r ∷ []))) one.has one.time one.unfailed one.calls

-- it is ahead
pub one_ahead : (t : Taking) (text left left' : Tape) (seen : List Record) (r : Record) (first : ℕ) → t.ended ≡ None → t.ahead ≡ None → first ≡ (if t.given == 0 then time_of r else t.first) → Seen text seen left t
    → ReadOrEnded t.head t.given left left' r None → Seen text seen left' (record { head = t.head; record_read = t.record_read; given = t.given; ended = t.ended; ahead = Some r; first = first })
one_ahead t text left left' seen r first e a f s o =
    let one = one_read t text left left' seen r first e a f s o in
    record { has = one.has; count = s.count; quiet = λ some. absurd (no_end t.ended e some); first = one.time; unfailed = one.unfailed; calls = one.calls }

-- the record that was ahead was handed out
pub ahead_handed : (t : Taking) (text left : Tape) (seen : List Record) (r : Record) → t.ahead ≡ Some r → Seen text seen left t
    → Seen text (seen ++ r ∷ []) left (record { head = t.head; record_read = r; given = t.given + 1; ended = t.ended; ahead = None; first = t.first })
ahead_handed t text left seen r a s =
    let e : seen ++ listed t.ahead ≡ seen ++ r ∷ [] = ap (λ (o : Option Record). seen ++ listed o) a in
    all_handed (record { head = t.head; record_read = r; given = t.given + 1; ended = t.ended; ahead = None; first = t.first }) text left (seen ++ r ∷ []) refl (omega (arith, s.count, length-append seen (r ∷ [])))
    (subst (λ (l : List Record). HasSeen t.head t.ended text.bytes l left.bytes) e s.has) (s.first ∙ ap first_time e) s.unfailed (λ none. subst (λ (l : List Record). CallsAtMost (calls_for l) text left) e (s.calls none))

-- the input has ended
pub at_end : (t : Taking) (text left left' : Tape) (seen : List Record) (r : Record) (ending : InputEnd) (ahead : Option Record) → t.ended ≡ None → t.ahead ≡ None → ahead ≡ None → Seen text seen left t → ReadOrEnded t.head t.given left left' r (Some ending)
    → Seen text seen left' (record { head = t.head; record_read = r; given = t.given; ended = Some ending; ahead = ahead; first = t.first })
at_end t text left left' seen r ending ahead e a b s o =
    all_handed (record { head = t.head; record_read = r; given = t.given; ended = Some ending; ahead = ahead; first = t.first }) text left' seen b s.count
    (passed-stop t.head t.given text.bytes left.bytes left'.bytes seen ending s.count (passed t text left seen e a s) o.0) (s.first ∙ ap first_time (none_ahead t seen a)) (unfailed_both text left left' s.unfailed o.1)
    (λ bad. let no : Some ending ≡ None = bad in cc)

pub refused_at : (t : Taking) (text left left' : Tape) (seen : List Record) (fault : PcapFault) → t.ended ≡ None → t.ahead ≡ None → Seen text seen left t → NextRefused t.head t.given left left' fault → RefusedBehind t.head text left' seen fault
refused_at t text left left' seen fault e a s o = record {
  at = left;
  passed = passed t text left seen e a s;
  unfailed = s.unfailed;
  calls = calls_before t text left seen e a s;
  gave = subst (λ (n : ℕ). Gave t.head n left.bytes left'.bytes (Err (Failed fault))) s.count o.0;
  cause = o.1;
}

pub is_none_of : (o : Option InputEnd) → is_some o ≡ false → o ≡ None
is_none_of None e = refl
is_none_of (Some x) e = let bad : true ≡ false = e in cc

-- some records more were handed out, and what can come behind them can come with them before it
pub record Onward (text : Tape) (seen : List Record) (left : Tape) (old new : Taking) : Type 0 where
  pub more : List Record
  pub read : Seen text (seen ++ more) left new
  pub comes : (rest : List Record) → CanCome new rest → CanCome old (more ++ rest)

-- the record that is ahead can come
pub ahead_comes : (t : Taking) (text left : Tape) (seen : List Record) → Seen text seen left t → CanCome t (listed t.ahead)
ahead_comes t text left seen s = record { ended = λ e. ap listed (s.quiet e); ahead = begins t.ahead }
  where
    begins : (o : Option Record) → BeginsWith o (listed o)
    begins None = tt
    begins (Some r) = ([], refl)

-- where none is ahead, none need come
pub none_comes : (t : Taking) → t.ahead ≡ None → CanCome t []
none_comes t a = record { ended = λ _. refl; ahead = subst (λ (o : Option Record). BeginsWith o []) (sym a) tt }

-- what comes next is a record that goes on from the one that is ahead
pub next_comes : (t : Taking) (x : Record) (more : List Record) → t.ended ≡ None → IsNext t.ahead x → CanCome t (x ∷ more)
next_comes t x more e n = record { ended = λ some. absurd (no_end t.ended e some); ahead = begins t.ahead n }
  where
    begins : (o : Option Record) → IsNext o x → BeginsWith o (x ∷ more)
    begins None h = tt
    begins (Some r) h = (more, ap (λ (y : Record). y ∷ more) h)

-- the input stands behind what was read
pub stands : (t : Taking) (text left : Tape) (seen : List Record) → Seen text seen left t → Stands t.head text left (seen ++ listed t.ahead)
stands t text left seen s = (t.ended, s.has, s.unfailed)

pub stops_run : (head : Head) (text left : Tape) (seen : List Record) (fault : SimulationFault) → IsOfRun fault → Stands head text left seen → StopsAt head text left seen fault
stops_run head text left seen (Capture f) n s = absurd n
stops_run head text left seen Write n s = s
stops_run head text left seen Memory n s = s

-- the next record was refused
pub read_refused : (t : Taking) (text left' : Tape) (seen : List Record) (fault : PcapFault) → t.ahead ≡ None → RefusedBehind t.head text left' seen fault → ReadStops t text seen left' (Capture fault)
read_refused t text left' seen fault a r = record { more = []; stops = subst (λ (l : List Record). RefusedBehind t.head text left' l fault) (sym (append-nil seen)) r; comes = none_comes t a }

-- a record was handed out, and then the run stopped
pub read_stopped : (t u : Taking) (text left' : Tape) (seen : List Record) → u.ended ≡ t.ended → u.head ≡ t.head → IsNext t.ahead u.record_read → Seen text (seen ++ u.record_read ∷ []) left' u × (u.ended ≡ None) × (u.ahead ≡ None) → ReadStops t text seen left' Memory
read_stopped t u text left' seen e h n s = record {
  more = u.record_read ∷ [];
  stops = subst (λ (x : Head). Stands x text left' (seen ++ u.record_read ∷ [])) h
      (subst (λ (l : List Record). Stands u.head text left' l) (none_ahead u (seen ++ u.record_read ∷ []) s.2) (stands u text left' (seen ++ u.record_read ∷ []) s.0));
  comes = next_comes t u.record_read [] (sym e ∙ s.1) n;
}

-- the next record was looked for: one was ahead, or the input had ended, or one was read or the input has ended
pub looked_ahead : (t : Taking) (r : Record) → t.ahead ≡ Some r → Looked t t
looked_ahead t r a = record { ended = λ none. let bad : Some r ≡ None = sym a ∙ none in cc; comes = λ more can. can }

pub looked_ended : (t : Taking) → is_some t.ended ≡ true → Looked t t
looked_ended t e = record { ended = λ none. e; comes = λ more can. can }

pub looked_on : (t u : Taking) → t.ended ≡ None → t.ahead ≡ None → (u.ahead ≡ None → is_some u.ended ≡ true) → Looked t u
looked_on t u e a h = record {
  ended = h;
  comes = λ more can. record { ended = λ some. absurd (no_end t.ended e some); ahead = subst (λ (o : Option Record). BeginsWith o more) (sym a) tt };
}
