-- One record more, or the ending.
use Rattle.std.proofs.Common.{◌≡◌, ℕ, ◌+◌, ◌<◌, ◌≤◌, true, List, [], ◌∷◌, ◌++◌, Option, Some, None, Ok, Err, refl, sym, ap, ◌∙◌, subst, arith, inl, inr, length, length-append}
use Rattle.std.proofs.lemmas.List.{flat_map_more}
use Rattle.ip_headers.specs.declared.Link.{Link}
use Rattle.pcap_file.specs.declared.format.Head.{Head}
use Rattle.pcap_file.specs.declared.format.InputEnd.{InputEnd}
use Rattle.pcap_file.specs.declared.format.Ending.TheVariants.{Failed}
use Rattle.pcap_file.specs.declared.format.PcapFault.{PcapFault}
use Rattle.pcap_file.specs.declared.format.PcapFault.TheVariants.{Memory}
use Rattle.pcap_file.specs.Device.{Tape, Unfailed, CallsAtMost}
use Rattle.pcap_file.specs.Format.{Record, max_records}
use Rattle.pcap_file.specs.Reading.{Gave, CauseOfEnding}
use Rattle.pcap_file.specs.Text.{Passed, AllRefused, ending_of, calls_for}
use Rattle.pcap_file.proofs.Records.{calls-next}
use Rattle.pcap_file.proofs.Texts.{passed-push, passed-stop, calls_for-push}
use Rattle.cluster_node.specs.declared.packets.Packet.{Packet}
use Rattle.cluster_node.specs.declared.packets.Packet.TheVariants.{Good, Bad}
use Rattle.cluster_core.specs.Reading.{packet_read}
use Rattle.scenario_sketch.specs.declared.hop.Hop.{Hop}
use Rattle.scenario_sketch.specs.Reading.{hop_of, hop_in, hops_of, IsCounted}

-- after the header these records were read, and where they come from and go to is what was counted
pub record HasCounted (head : Head) (text left : Tape) (given : ℕ) (hops : List Hop) : Type 0 where
  pub records : List Record
  pub few : length records ≤ max_records
  pub count : given ≡ length records
  pub passed : Passed head text.bytes records left.bytes
  pub unfailed : Unfailed text left
  pub called : CallsAtMost (calls_for records) text left
  pub all : hops ≡ hops_of head.link records

passed_none : (head : Head) (o : Option (List ℕ)) → Passed head o [] o
passed_none head None = _
passed_none head (Some text) = refl

pub counted_none : (head : Head) (text : Tape) (hops : List Hop) → hops ≡ [] → HasCounted head text text 0 hops
counted_none head text hops e = record {
  records = [];
  few = omega arith;
  count = refl;
  passed = passed_none head text.bytes;
  unfailed = (refl, omega arith);
  called = (0, omega arith, omega arith);
  all = e;
}

hops_push : (link : Link) (rs : List Record) (r : Record) → hops_of link rs ++ hop_in link r ≡ hops_of link (rs ++ r ∷ [])
hops_push link rs r = flat_map_more (hop_in link) [] rs r

one_at_most : (p : Packet) → length (hop_of p) ≤ 1
one_at_most (Good x len at) = omega arith
one_at_most (Bad cause) = omega arith

few_hops : (link : Link) (rs : List Record) → length (hops_of link rs) ≤ length rs
few_hops link [] = omega arith
few_hops link (r ∷ rs) =
    omega (arith, length-append (hop_in link r) (hops_of link rs), one_at_most (packet_read link r.bytes 0 true), few_hops link rs)

-- there are no more of them than records
pub counted_few : {head : Head} {text left : Tape} {given : ℕ} {hops : List Hop} → HasCounted head text left given hops → length hops ≤ given
counted_few {head = head} h = omega (arith, few_hops head.link h.records, ap length h.all, h.count)

unfailed_both : (a b c : Tape) → Unfailed a b → Unfailed b c → Unfailed a c
unfailed_both a b c p q = (q.0 ∙ p.0, omega (arith, p.1, q.1))

-- a record was read
pub counted_more : {head : Head} {text left : Tape} {given : ℕ} {hops : List Hop} (left' : Tape) (r : Record) (all : List Hop)
    → HasCounted head text left given hops → Gave head given left.bytes left'.bytes (Ok r) → given < max_records → Unfailed left left'
    → CallsAtMost (length r.bytes + 2016) left left' → all ≡ hops ++ hop_in head.link r → HasCounted head text left' (given + 1) all
counted_more {head = head} {text = text} {left = left} {given = given} left' r all h gave room unfailed calls e = record {
  records = h.records ++ r ∷ [];
  few = omega (arith, h.count, length-append h.records (r ∷ []));
  count = omega (arith, h.count, length-append h.records (r ∷ []));
  passed = passed-push head given text.bytes left.bytes left'.bytes h.records r h.count h.passed gave;
  unfailed = unfailed_both text left left' h.unfailed unfailed;
  called = subst (λ (n : ℕ). CallsAtMost n text left') (sym (calls_for-push h.records r)) (calls-next (calls_for h.records) (length r.bytes + 2016) text left left' h.called calls);
  all = e ∙ ap (λ (ds : List Hop). ds ++ hop_in head.link r) h.all ∙ hops_push head.link h.records r;
}

-- the input has ended
pub counted_all : {head : Head} {text left : Tape} {given : ℕ} {hops : List Hop} (left' : Tape) (ending : InputEnd)
    → HasCounted head text left given hops → Gave head given left.bytes left'.bytes (Err (ending_of ending)) → IsCounted head text.bytes given hops
counted_all {head = head} {text = text} {left = left} {given = given} left' ending h gave = record {
  records = h.records;
  ending = ending;
  told = passed-stop head given text.bytes left.bytes left'.bytes h.records ending h.count h.passed gave;
  count = h.count;
  all = h.all;
}

-- a record is refused
pub counted_refused : {head : Head} {text left : Tape} {given : ℕ} {hops : List Hop} (left' : Tape) (fault : PcapFault)
    → HasCounted head text left given hops → Gave head given left.bytes left'.bytes (Err (Failed fault)) → CauseOfEnding head (Failed fault) left left'
    → AllRefused head text left' fault
counted_refused {head = head} {left = left} left' fault h gave cause = inl (
  h.records,
  record {
    at = left;
    passed = h.passed;
    unfailed = h.unfailed;
    calls = h.called;
    gave = subst (λ (n : ℕ). Gave head n left.bytes left'.bytes (Err (Failed fault))) h.count gave;
    cause = cause;
  },
)

-- memory is refused behind a record
pub counted_too_many : {head : Head} {text left : Tape} {given : ℕ} {hops : List Hop} (left' : Tape) (r : Record)
    → HasCounted head text left given hops → Gave head given left.bytes left'.bytes (Ok r) → Unfailed left left' → AllRefused head text left' Memory
counted_too_many {head = head} {text = text} {left = left} {given = given} left' r h gave unfailed = inr (
  refl,
  unfailed_both text left left' h.unfailed unfailed,
  (h.records ++ r ∷ [], passed-push head given text.bytes left.bytes left'.bytes h.records r h.count h.passed gave),
)
