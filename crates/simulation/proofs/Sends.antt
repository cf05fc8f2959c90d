-- What is sent of a list, event by event.
use Rattle.std.proofs.Common.{◌≡◌, ℕ, List, [], ◌∷◌, ◌++◌, refl, sym, ap, ◌∙◌, append_assoc}
use Rattle.cluster_node.specs.declared.events.LogEntry.{LogEntry}
use Rattle.std.proofs.Common.{◌≢◌, subst, arith, append-nil}
use Rattle.std.specs.Io.KnownBytes.{Appends}
use Rattle.std.proofs.KnownBytes.{Appends-nil, Appends-trans}
use Rattle.pcap_file.specs.Device.{Tape, Unfailed, PutRefused}
use Rattle.simulation.specs.declared.fault.SimulationFault.{SimulationFault}
use Rattle.simulation.specs.declared.fault.SimulationFault.TheVariants.{Capture, Write, Memory}
use Rattle.simulation.specs.Sent.{Traffic, Sending, sent, sent_by, record_text, records_text, Wrote, WroteFirst, WroteUntil}

pub text_append : (a b : List Sending) → records_text (a ++ b) ≡ records_text a ++ records_text b
text_append [] b = refl
text_append (r ∷ rs) b = ap (λ (l : List ℕ). record_text r ++ l) (text_append rs b) ∙ sym (append_assoc (record_text r) (records_text rs) (records_text b))

pub sent_append : (t : Traffic) (a b : List LogEntry) → sent t (a ++ b) ≡ sent t a ++ sent t b
sent_append t [] b = refl
sent_append t (s ∷ ss) b = ap (λ (l : List Sending). sent_by t s.outcome ++ l) (sent_append t ss b) ∙ sym (append_assoc (sent_by t s.outcome) (sent t ss) (sent t b))

pub unfailed_same : (a : Tape) → Unfailed a a
unfailed_same a = (refl, omega arith)

pub unfailed_both : (a b c : Tape) → Unfailed a b → Unfailed b c → Unfailed a c
unfailed_both a b c p q = (q.0 ∙ p.0, omega (arith, p.1, q.1))

pub wrote_none : (a : Tape) → Wrote a a []
wrote_none a = record { bytes = Appends-nil a.bytes; unfailed = unfailed_same a }

pub wrote_both : (a b c : Tape) (xs ys : List Sending) → Wrote a b xs → Wrote b c ys → Wrote a c (xs ++ ys)
wrote_both a b c xs ys h k = record {
  bytes = subst (λ (l : List ℕ). Appends a.bytes c.bytes l) (sym (text_append xs ys)) (Appends-trans a.bytes b.bytes c.bytes (records_text xs) (records_text ys) h.bytes k.bytes);
  unfailed = unfailed_both a b c h.unfailed k.unfailed;
}

pub wrote_one : (a b : Tape) (text : List ℕ) (r : Sending) → text ≡ record_text r → Appends a.bytes b.bytes text → Unfailed a b → Wrote a b (r ∷ [])
wrote_one a b text r e h u = record { bytes = subst (λ (l : List ℕ). Appends a.bytes b.bytes l) (e ∙ sym (append-nil (record_text r))) h; unfailed = u }

pub refused_one : (a b : Tape) (text : List ℕ) (r : Sending) → text ≡ record_text r → PutRefused text a b → WroteUntil Write a b (r ∷ [])
refused_one a b text r e h = record { first = []; next = r; others = []; all_is = refl; at = a; wrote = wrote_none a; refused = subst (λ (l : List ℕ). PutRefused l a b) e h }

pub first_none : (a : Tape) (all : List Sending) → WroteFirst a a all
first_none a all = record { first = []; others = all; all_is = refl; wrote = wrote_none a }

pub first_all : (a b : Tape) (xs : List Sending) → Wrote a b xs → WroteFirst a b xs
first_all a b xs h = record { first = xs; others = []; all_is = sym (append-nil xs); wrote = h }

-- a fault but Write, after all of these were written
pub until_all : (fault : SimulationFault) (a b : Tape) (xs : List Sending) → fault ≢ Write → Wrote a b xs → WroteUntil fault a b xs
until_all (Capture f) a b xs n h = first_all a b xs h
until_all Write a b xs n h = absurd (n refl)
until_all Memory a b xs n h = first_all a b xs h

first_more : (a b : Tape) (xs ys all : List Sending) → all ≡ xs ++ ys → WroteFirst a b xs → WroteFirst a b all
first_more a b xs ys all e h = record {
  first = h.first;
  others = h.others ++ ys;
  all_is = e ∙ ap (λ (l : List Sending). l ++ ys) h.all_is ∙ append_assoc h.first h.others ys;
  wrote = h.wrote;
}

pub until_more : (fault : SimulationFault) (a b : Tape) (xs ys all : List Sending) → all ≡ xs ++ ys → WroteUntil fault a b xs → WroteUntil fault a b all
until_more (Capture f) a b xs ys all e h = first_more a b xs ys all e h
until_more Memory a b xs ys all e h = first_more a b xs ys all e h
until_more Write a b xs ys all e h = record {
  first = h.first;
  next = h.next;
  others = h.others ++ ys;
  all_is = e ∙ ap (λ (l : List Sending). l ++ ys) h.all_is ∙ append_assoc h.first (h.next ∷ h.others) ys;
  at = h.at;
  wrote = h.wrote;
  refused = h.refused;
}

first_behind : (a b c : Tape) (xs ys : List Sending) → Wrote a b xs → WroteFirst b c ys → WroteFirst a c (xs ++ ys)
first_behind a b c xs ys h k = record {
  first = xs ++ k.first;
  others = k.others;
  all_is = ap (λ (l : List Sending). xs ++ l) k.all_is ∙ sym (append_assoc xs k.first k.others);
  wrote = wrote_both a b c xs k.first h k.wrote;
}

pub until_behind : (fault : SimulationFault) (a b c : Tape) (xs ys : List Sending) → Wrote a b xs → WroteUntil fault b c ys → WroteUntil fault a c (xs ++ ys)
until_behind (Capture f) a b c xs ys h k = first_behind a b c xs ys h k
until_behind Memory a b c xs ys h k = first_behind a b c xs ys h k
until_behind Write a b c xs ys h k = record {
  first = xs ++ k.first;
  next = k.next;
  others = k.others;
  all_is = ap (λ (l : List Sending). xs ++ l) k.all_is ∙ sym (append_assoc xs k.first (k.next ∷ k.others));
  at = k.at;
  wrote = wrote_both a b k.at xs k.first h k.wrote;
  refused = k.refused;
}
