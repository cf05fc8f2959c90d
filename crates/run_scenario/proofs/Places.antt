-- Where steps end among a capture's records.
use Rattle.std.proofs.Common.{◌≡◌, ◌<◌, ◌≤◌, ◌+◌, ℕ, zero, suc, Bool, true, false, List, [], ◌∷◌, length, map, drop, get_or, Some, None, ap, sym, ◌∙◌, refl, subst, arith, drop-cons}
use Rattle.std.specs.Prelude.{◌&&◌, slice_get, if◌then◌else◌}
use Rattle.std.proofs.lemmas.Bool.{lt-ltb}
use Rattle.std.proofs.lemmas.List.{drop_all}
use Rattle.std.proofs.lemmas.Option.{none-some}
use Rattle.pcap_file.specs.Format.{Record}
use Rattle.simulation.specs.Sent.{time_of}
use Rattle.timed_steps.specs.declared.TimedStep.{TimedStep}
use Rattle.timed_steps.specs.Timed.{first_of, is_before, count_until, reads, counted_step}
use Rattle.run_scenario.specs.PrivateFirsts.{is_through, settled_from, settled, place_behind}

-- the time of the record at a place comes before those behind it
times_at : (rs : List Record) (i : ℕ) (r : Record) → slice_get rs i ≡ Some r → drop i (map time_of rs) ≡ time_of r ∷ drop (i + 1) (map time_of rs)
times_at [] i r is = absurd (none-some r is)
times_at (x ∷ rs) zero r is = let same : x ≡ r = cc in ap (λ (y : Record). time_of y ∷ map time_of rs) same
times_at (x ∷ rs) (suc i) r is =
    let e : suc i + 1 ≡ suc (i + 1) = omega arith in
    subst (λ (n : ℕ). drop i (map time_of rs) ≡ time_of r ∷ drop n (map time_of (x ∷ rs))) (sym e) (times_at rs i r is)

-- the first record's time
pub first_time : (rs : List Record) (r : Record) (t : ℕ) → slice_get rs 0 ≡ Some r → t ≡ time_of r → t ≡ first_of (map time_of rs)
first_time [] r t is same = absurd (none-some r is)
first_time (x ∷ rs) r t is same = let here : x ≡ r = cc in same ∙ ap (λ (y : Record). time_of y) (sym here)

-- a record that isn't too late is counted, and then those behind it
pub counts_on : (first end : ℕ) (rs : List Record) (i from k : ℕ) (r : Record) (t : ℕ) → slice_get rs i ≡ Some r → t ≡ time_of r → is_before first end t ≡ true
    → i + count_until first end (drop i (map time_of rs)) ≡ from + k → i + 1 + count_until first end (drop (i + 1) (map time_of rs)) ≡ from + k
counts_on first end rs i from k r t is same before old =
    let behind : List ℕ = drop (i + 1) (map time_of rs) in
    let early : is_before first end (time_of r) ≡ true = ap (λ (n : ℕ). is_before first end n) (sym same) ∙ before in
    let more : count_until first end (drop i (map time_of rs)) ≡ suc (count_until first end behind) =
    ap (λ (l : List ℕ). count_until first end l) (times_at rs i r is) ∙ ap (λ (b : Bool). if b then suc (count_until first end behind) else 0) early in
    omega (arith, old, more)

-- one that is too late ends the count
pub counts_up_to : (first end : ℕ) (rs : List Record) (i from k : ℕ) (r : Record) (t : ℕ) → slice_get rs i ≡ Some r → t ≡ time_of r → is_before first end t ≡ false
    → i + count_until first end (drop i (map time_of rs)) ≡ from + k → i ≡ from + k
counts_up_to first end rs i from k r t is same before old =
    let behind : List ℕ = drop (i + 1) (map time_of rs) in
    let late : is_before first end (time_of r) ≡ false = ap (λ (n : ℕ). is_before first end n) (sym same) ∙ before in
    let none : count_until first end (drop i (map time_of rs)) ≡ 0 =
    ap (λ (l : List ℕ). count_until first end l) (times_at rs i r is) ∙ ap (λ (b : Bool). if b then suc (count_until first end behind) else 0) late in
    omega (arith, old, none)

-- what the steps say from the first one on, where the first record is there
pub all_settled : (times : List ℕ) (ss : List TimedStep) (first : ℕ) (b : Bool) → 0 < length times → first ≡ first_of times → settled_from first times ss ≡ b → b ≡ settled times ss
all_settled times ss first b there is all =
    sym (ap (λ (x : Bool). x && settled_from (first_of times) times ss) (lt-ltb 0 (length times) there)
    ∙ ap (λ (n : ℕ). settled_from n times ss) (sym is) ∙ all)

not_through : (b : Bool) (n : ℕ) → None ≡ (if b then Some n else None) → b ≡ false
not_through true n e = absurd (none-some n e)
not_through false n e = refl

-- where a step isn't through, the steps from it on aren't
pub stops_at : (first at index : ℕ) (times : List ℕ) (ss : List TimedStep) (s : TimedStep) → index < length ss → s ≡ get_or ss index s → None ≡ place_behind first times at s → settled_from first (drop at times) (drop index ss) ≡ false
stops_at first at index times ss s lt is none =
    let step : ℕ = reads (counted_step first (drop at times) s) in
    let front : drop index ss ≡ s ∷ drop (suc index) ss = drop-cons ss index s lt ∙ ap (λ (x : TimedStep). x ∷ drop (suc index) ss) (sym is) in
    ap (λ (l : List TimedStep). settled_from first (drop at times) l) front
    ∙ ap (λ (b : Bool). b && settled_from first (drop step (drop at times)) (drop (suc index) ss)) (not_through (is_through first (drop at times) s) (at + step) none)

-- behind the last step all are through
pub ends_at : (first at index : ℕ) (times : List ℕ) (ss : List TimedStep) → length ss ≤ index → settled_from first (drop at times) (drop index ss) ≡ true
ends_at first at index times ss le = ap (λ (l : List TimedStep). settled_from first (drop at times) l) (drop_all index ss le)
