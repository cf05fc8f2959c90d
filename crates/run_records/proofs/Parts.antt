-- What is sent of a list part by part, and the text of some of it as one piece.
use Rattle.std.proofs.Common.{◌≡◌, ◌<◌, ◌≤◌, ℕ, suc, ◌+◌, ◌-◌, ◌%◌, ◌^◌, Bool, true, false, List, [], ◌∷◌, ◌++◌, length, take, drop, Option, Some, None, refl, sym, ap, ◌∙◌, subst, arith, append_assoc, take-append-drop, length-append, inl, inr}
use Rattle.std.specs.Prelude.{nat_lt, slice_range}
use Rattle.std.specs.List.{flat_map}
use Rattle.std.specs.Io.KnownBytes.{Appends, append_known}
use Rattle.std.proofs.lemmas.Bool.{ltb-true, ltb-false}
use Rattle.std.proofs.lemmas.List.{drop-take, take-take, take-append-le}
use Rattle.std.proofs.lemmas.List.Concat.{flat_map-append}
use Rattle.pcap_file.specs.Device.{Tape, PutRefused, GivenUp}
use Rattle.simulation.specs.declared.fault.SimulationFault.{SimulationFault}
use Rattle.simulation.specs.declared.fault.SimulationFault.TheVariants.{Write}
use Rattle.simulation.specs.Sent.{Sending, Wrote, WroteUntil, record_text, records_text}
use Rattle.simulation.proofs.Sends.{text_append, wrote_both, until_more, until_behind}

-- a part of a list
pub take_part : {X : Type 0} → (xs : List X) (from to : ℕ) → from ≤ to → take to xs ≡ take from xs ++ slice_range xs from to
take_part {X} xs from to le =
    let many : from + (to - from) ≡ to = omega (arith, le) in
    sym (take-append-drop from (take to xs))
    ∙ ap (λ (l : List X). l ++ drop from (take to xs)) (take-take from to xs le)
    ∙ ap (λ (n : ℕ). take from xs ++ drop from (take n xs)) (sym many)
    ∙ ap (λ (l : List X). take from xs ++ l) (drop-take from (to - from) xs)

module _ {X : Type 0} (f : X → List Sending) (xs : List X) (from to : ℕ) (le : from ≤ to) where
  sent_part : flat_map f (take to xs) ≡ flat_map f (take from xs) ++ flat_map f (slice_range xs from to)
  sent_part = ap (flat_map f) (take_part xs from to le) ∙ flat_map-append f (take from xs) (slice_range xs from to)

  sent_rest : flat_map f xs ≡ (flat_map f (take from xs) ++ flat_map f (slice_range xs from to)) ++ flat_map f (drop to xs)
  sent_rest = ap (flat_map f) (sym (take-append-drop to xs)) ∙ flat_map-append f (take to xs) (drop to xs) ∙ ap (λ (l : List Sending). l ++ flat_map f (drop to xs)) sent_part

  -- one part more was written
  pub wrote_part : (a b c : Tape) → Wrote a b (flat_map f (take from xs)) → Wrote b c (flat_map f (slice_range xs from to)) → Wrote a c (flat_map f (take to xs))
  wrote_part a b c h k = subst (λ (l : List Sending). Wrote a c l) (sym sent_part) (wrote_both a b c (flat_map f (take from xs)) (flat_map f (slice_range xs from to)) h k)

  -- the writing stopped inside a part
  pub cut_in : (fault : SimulationFault) (a b c : Tape) → Wrote a b (flat_map f (take from xs)) → WroteUntil fault b c (flat_map f (slice_range xs from to)) → WroteUntil fault a c (flat_map f xs)
  cut_in fault a b c h k =
      until_more fault a c (flat_map f (take from xs) ++ flat_map f (slice_range xs from to)) (flat_map f (drop to xs)) (flat_map f xs) sent_rest
      (until_behind fault a b c (flat_map f (take from xs)) (flat_map f (slice_range xs from to)) h k)

-- the first bytes of some text, and of what stands behind it
take_behind : (xs ys : List ℕ) (n m : ℕ) → n ≡ length xs + m → take n (xs ++ ys) ≡ xs ++ take m ys
take_behind [] ys n m e = ap (λ (k : ℕ). take k ys) (let h : n ≡ m = omega (arith, e) in h)
take_behind (x ∷ xs) ys n m e =
    ap (λ (k : ℕ). take k (x ∷ (xs ++ ys))) (let h : n ≡ suc (length xs + m) = omega (arith, e) in h)
    ∙ ap (λ (l : List ℕ). x ∷ l) (take_behind xs ys (length xs + m) m refl)

-- the first bytes of some records: whole records, and the beginning of one more
record Cut (rs : List Sending) (n : ℕ) : Type 0 where
  first : List Sending
  next : Sending
  others : List Sending
  all_is : rs ≡ first ++ next ∷ others
  left : ℕ
  within : left < length (record_text next)
  bytes : take n (records_text rs) ≡ records_text first ++ take left (record_text next)

cut_text : (rs : List Sending) (n : ℕ) → n < length (records_text rs) → Cut rs n
cut_text [] n h = absurd (omega (arith, h))
cut_text (r ∷ rs) n h = go (λ m lt. cut_text rs m lt) (nat_lt n (length (record_text r))) refl
  where
    go : ((m : ℕ) → m < length (records_text rs) → Cut rs m) → (b : Bool) → nat_lt n (length (record_text r)) ≡ b → Cut (r ∷ rs) n
    go behind true e =
        let lt = ltb-true n (length (record_text r)) e in
        record {
          first = [];
          next = r;
          others = rs;
          all_is = refl;
          left = n;
          within = lt;
          bytes = take-append-le n (record_text r) (records_text rs) (omega (arith, lt));
        }
    go behind false e =
        let le = ltb-false n (length (record_text r)) e in
        let m : ℕ = n - length (record_text r) in
        let rest = behind m (omega (arith, h, le, length-append (record_text r) (records_text rs))) in
        record {
          first = r ∷ rest.first;
          next = rest.next;
          others = rest.others;
          all_is = ap (λ (l : List Sending). r ∷ l) rest.all_is;
          left = rest.left;
          within = rest.within;
          bytes = take_behind (record_text r) (records_text rs) n m (omega (arith, le)) ∙ ap (λ (l : List ℕ). record_text r ++ l) rest.bytes
              ∙ sym (append_assoc (record_text r) (records_text rest.first) (take rest.left (record_text rest.next)));
        }

-- bytes that came in two pieces, and what the device held between them
between : (old new : Option (List ℕ)) (front back : List ℕ) → Appends old new (front ++ back) → Appends old (append_known old front) front × Appends (append_known old front) new back
between None new front back h = (tt, tt)
between (Some xs) None front back h = absurd h
between (Some xs) (Some ys) front back h = (refl, h ∙ sym (append_assoc xs front back))

-- a device that was given up at a piece was so at the end of it
given_up : (a b : Tape) (bytes : Option (List ℕ)) (many few : ℕ) → few ≤ many → GivenUp many a b → GivenUp few (record { bytes = bytes; failures = a.failures; interruptions = a.interruptions; calls = a.calls + (many - few) }) b
given_up a b bytes many few le h = elim h [
  | inl failed ↦ inl failed
  | inr worn ↦ inr (worn.0, ap (λ (k : ℕ). k % 2 ^ 64) (let e : a.calls + (many - few) + (few + 1000) ≡ a.calls + (many + 1000) = omega (arith, le) in e) ∙ worn.1, worn.2)
]

-- A piece of records' text was given up: so was one of the records, after those before it were written.
pub refused_text : (a b : Tape) (text : List ℕ) (rs : List Sending) → text ≡ records_text rs → PutRefused text a b → WroteUntil Write a b rs
refused_text a b text rs e h = record {
  first = cut.first;
  next = cut.next;
  others = cut.others;
  all_is = cut.all_is;
  at = record { bytes = append_known a.bytes (records_text cut.first); failures = a.failures; interruptions = a.interruptions; calls = a.calls + (length text - length (record_text cut.next)) };
  wrote = record { bytes = pieces.0; unfailed = (refl, omega arith) };
  refused = (given_up a b (append_known a.bytes (records_text cut.first)) (length text) (length (record_text cut.next)) (omega (arith, shorter)) h.0, (cut.left, cut.within, pieces.1));
}
  where
    cut : Cut rs h.1.0
    cut = cut_text rs h.1.0 (subst (λ (l : List ℕ). h.1.0 < length l) e h.1.1)

    shorter : length text ≡ length (records_text cut.first) + (length (record_text cut.next) + length (records_text cut.others))
    shorter =
        ap (λ (l : List ℕ). length l) (e ∙ ap records_text cut.all_is ∙ text_append cut.first (cut.next ∷ cut.others))
        ∙ length-append (records_text cut.first) (record_text cut.next ++ records_text cut.others)
        ∙ ap (λ (k : ℕ). length (records_text cut.first) + k) (length-append (record_text cut.next) (records_text cut.others))

    pieces : Appends a.bytes (append_known a.bytes (records_text cut.first)) (records_text cut.first) × Appends (append_known a.bytes (records_text cut.first)) b.bytes (take cut.left (record_text cut.next))
    pieces = between a.bytes b.bytes (records_text cut.first) (take cut.left (record_text cut.next))
        (subst (λ (l : List ℕ). Appends a.bytes b.bytes l) (ap (λ (l : List ℕ). take h.1.0 l) e ∙ cut.bytes) h.1.2)

-- the first of some items that a part of a list begins with
pub first_of : {X : Type 0} → (xs ys : List X) (size start count : ℕ) → ys ≡ take size (drop start xs) → count ≤ size → take count ys ≡ slice_range xs start (start + count)
first_of {X} xs ys size start count is le =
    ap (λ (l : List X). take count l) is ∙ take-take count size (drop start xs) le
    ∙ ap (λ (n : ℕ). take n (drop start xs)) (let e : count ≡ start + count - start = omega arith in e)
