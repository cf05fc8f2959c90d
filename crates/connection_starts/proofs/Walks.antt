-- One record more, or the ending.
use Rattle.std.proofs.Common.{◌≡◌, ℕ, ◌+◌, ◌<◌, ◌≤◌, List, [], ◌∷◌, ◌++◌, map, reverse, Option, Some, None, Ok, Err, refl, sym, ap, ◌∙◌, subst, arith, inl, inr, length, length-append}
use Rattle.std.proofs.lemmas.List.{map-append, reverse-append, length-map, length-reverse}
use Rattle.ip_headers.specs.declared.Link.{Link}
use Rattle.pcap_file.specs.declared.format.Head.{Head}
use Rattle.pcap_file.specs.declared.format.InputEnd.{InputEnd}
use Rattle.pcap_file.specs.declared.format.Ending.TheVariants.{Failed}
use Rattle.pcap_file.specs.declared.format.PcapFault.{PcapFault}
use Rattle.pcap_file.specs.declared.format.PcapFault.TheVariants.{Memory}
use Rattle.pcap_file.specs.Device.{Tape, Unfailed, CallsAtMost}
use Rattle.pcap_file.specs.Format.{Record, max_records}
use Rattle.pcap_file.specs.Reading.{Gave, CauseOfEnding}
use Rattle.pcap_file.specs.Text.{Passed, AllRefused, ending_of, calls_for}
use Rattle.pcap_file.proofs.Records.{calls-next}
use Rattle.pcap_file.proofs.Texts.{passed-push, passed-stop, calls_for-push}
use Rattle.connection_starts.specs.declared.reading.Counted.{Counted}
use Rattle.connection_starts.specs.declared.segment.Segment.{Segment}
use Rattle.connection_starts.specs.declared.starts.StartRules.{StartRules}
use Rattle.connection_starts.specs.Segments.{segment_in}
use Rattle.connection_starts.specs.Captures.{told_by, AreTold}
use Rattle.connection_starts.specs.Ordinals.{ordinal_at}
use Rattle.connection_starts.specs.Known.{AreCounted}

-- after the header these records were read, and their segments were noted
pub record HasNoted (rules : StartRules) (head : Head) (text left : Tape) (given : ℕ) (c : Counted) : Type 0 where
  pub records : List Record
  pub few : length records ≤ max_records
  pub count : given ≡ length records
  pub passed : Passed head text.bytes records left.bytes
  pub unfailed : Unfailed text left
  pub called : CallsAtMost (calls_for records) text left
  pub check : c.check ≡ rules.check
  pub idle : c.starts.idle ≡ rules.idle
  pub noted : AreCounted (told_by rules head.link records) c

passed_none : (head : Head) (o : Option (List ℕ)) → Passed head o [] o
passed_none head None = _
passed_none head (Some text) = refl

pub noted_none : (rules : StartRules) (head : Head) (text : Tape) (c : Counted) → c.check ≡ rules.check → c.starts.idle ≡ rules.idle → AreCounted [] c → HasNoted rules head text text 0 c
noted_none rules head text c check idle h = record {
  records = [];
  few = omega arith;
  count = refl;
  passed = passed_none head text.bytes;
  unfailed = (refl, omega arith);
  called = (0, omega arith, omega arith);
  check = check;
  idle = idle;
  noted = record { starts = h.starts; ordinals = h.ordinals };
}

unfailed_both : (a b c : Tape) → Unfailed a b → Unfailed b c → Unfailed a c
unfailed_both a b c p q = (q.0 ∙ p.0, omega (arith, p.1, q.1))

-- one record more, the newest in front
told_push : (rules : StartRules) (link : Link) (rs : List Record) (r : Record) → told_by rules link (rs ++ r ∷ []) ≡ segment_in rules.check link r ∷ told_by rules link rs
told_push rules link rs r =
    ap (λ (os : List (Option Segment)). reverse os) (map-append (segment_in rules.check link) rs (r ∷ []))
    ∙ reverse-append (map (segment_in rules.check link) rs) (segment_in rules.check link r ∷ [])

told_count : (rules : StartRules) (link : Link) (rs : List Record) → length (told_by rules link rs) ≡ length rs
told_count rules link rs = length-reverse (map (segment_in rules.check link) rs) ∙ length-map rs (segment_in rules.check link)

-- the number of the next record
pub next_number : {rules : StartRules} {head : Head} {text left : Tape} {given : ℕ} {c : Counted} (h : HasNoted rules head text left given c) → given ≡ length (told_by rules head.link h.records)
next_number {rules = rules} {head = head} h = h.count ∙ sym (told_count rules head.link h.records)

-- a record was read
pub noted_more : {rules : StartRules} {head : Head} {text left : Tape} {given : ℕ} {c : Counted} (left' : Tape) (r : Record) (d : Counted)
    → (h : HasNoted rules head text left given c) → Gave head given left.bytes left'.bytes (Ok r) → given < max_records → Unfailed left left'
    → CallsAtMost (length r.bytes + 2016) left left' → d.check ≡ c.check → d.starts.idle ≡ c.starts.idle
    → AreCounted (segment_in c.check head.link r ∷ told_by rules head.link h.records) d → HasNoted rules head text left' (given + 1) d
noted_more {rules = rules} {head = head} {text = text} {left = left} {given = given} {c = c} left' r d h gave room unfailed calls check idle noted = record {
  records = h.records ++ r ∷ [];
  few = omega (arith, h.count, length-append h.records (r ∷ []));
  count = omega (arith, h.count, length-append h.records (r ∷ []));
  passed = passed-push head given text.bytes left.bytes left'.bytes h.records r h.count h.passed gave;
  unfailed = unfailed_both text left left' h.unfailed unfailed;
  called = subst (λ (n : ℕ). CallsAtMost n text left') (sym (calls_for-push h.records r)) (calls-next (calls_for h.records) (length r.bytes + 2016) text left left' h.called calls);
  check = check ∙ h.check;
  idle = idle ∙ h.idle;
  noted = subst (λ (os : List (Option Segment)). AreCounted os d)
      (ap (λ b. segment_in b head.link r ∷ told_by rules head.link h.records) h.check ∙ sym (told_push rules head.link h.records r)) noted;
}

-- the input has ended
pub noted_all : {rules : StartRules} {head : Head} {text left : Tape} {given : ℕ} {c : Counted} (left' : Tape) (ending : InputEnd)
    → HasNoted rules head text left given c → Gave head given left.bytes left'.bytes (Err (ending_of ending)) → AreTold rules head text.bytes c.ordinals
noted_all {rules = rules} {head = head} {text = text} {left = left} {given = given} {c = c} left' ending h gave = record {
  records = h.records;
  ending = ending;
  told = passed-stop head given text.bytes left.bytes left'.bytes h.records ending h.count h.passed gave;
  each = λ k. h.noted.ordinals.each k ∙ ap (λ (i : Option ℕ). ordinal_at i (told_by rules head.link h.records) k) h.idle;
}

-- a record is refused
pub noted_refused : {rules : StartRules} {head : Head} {text left : Tape} {given : ℕ} {c : Counted} (left' : Tape) (fault : PcapFault)
    → HasNoted rules head text left given c → Gave head given left.bytes left'.bytes (Err (Failed fault)) → CauseOfEnding head (Failed fault) left left'
    → AllRefused head text left' fault
noted_refused {head = head} {left = left} left' fault h gave cause = inl (
  h.records,
  record {
    at = left;
    passed = h.passed;
    unfailed = h.unfailed;
    calls = h.called;
    gave = subst (λ (n : ℕ). Gave head n left.bytes left'.bytes (Err (Failed fault))) h.count gave;
    cause = cause;
  },
)

-- memory is refused behind a record
pub noted_too_many : {rules : StartRules} {head : Head} {text left : Tape} {given : ℕ} {c : Counted} (left' : Tape) (r : Record)
    → HasNoted rules head text left given c → Gave head given left.bytes left'.bytes (Ok r) → Unfailed left left' → AllRefused head text left' Memory
noted_too_many {head = head} {text = text} {left = left} {given = given} left' r h gave unfailed = inr (
  refl,
  unfailed_both text left left' h.unfailed unfailed,
  (h.records ++ r ∷ [], passed-push head given text.bytes left.bytes left'.bytes h.records r h.count h.passed gave),
)
