-- Steps that are through with the first records of a capture are the same over all of them.
use Rattle.std.proofs.Common.{◌≡◌, ◌≤◌, ◌<◌, ℕ, suc, ◌+◌, ◌-◌, Bool, true, false, List, [], ◌∷◌, ◌++◌, length, drop, refl, sym, ap, ◌∙◌, subst, arith, length-drop}
use Rattle.std.specs.Prelude.{◌||◌, if◌then◌else◌}
use Rattle.std.specs.List.{list_any}
use Rattle.std.proofs.lemmas.Bool.{and_parts, leb-true, ltb-true, le-ltb, both_ways}
use Rattle.std.proofs.lemmas.List.{drop-append-le}
use Rattle.event_trace.specs.declared.steps.ScenarioStep.{ScenarioStep}
use Rattle.event_trace.specs.declared.steps.ScenarioStep.TheVariants as steps
use Rattle.timed_steps.specs.declared.TimedStep.{TimedStep}
use Rattle.timed_steps.specs.declared.TimedStep.TheVariants.{Counted, Until}
use Rattle.timed_steps.specs.Timed.{first_of, is_before, count_until, reads, counted_step, counted_from, counted}
use Rattle.run_scenario.specs.PrivateFirsts.{is_through, settled_from, settled, counts_more}
use Rattle.run_scenario.proofs.Planned.{reads_all}

-- where a record is there that comes too late, what follows changes nothing
count_there : (first end : ℕ) (left rest : List ℕ) → count_until first end left < length left → count_until first end (left ++ rest) ≡ count_until first end left
count_there first end [] rest h = absurd (omega (arith, h))
count_there first end (t ∷ ts) rest h = go (is_before first end t) (count_there first end ts rest) h
  where
    go : (b : Bool) → (count_until first end ts < length ts → count_until first end (ts ++ rest) ≡ count_until first end ts) → (if b then suc (count_until first end ts) else 0) < suc (length ts) → (if b then suc (count_until first end (ts ++ rest)) else 0) ≡ (if b then suc (count_until first end ts) else 0)
    go true same i = ap suc (same (omega (arith, i)))
    go false same i = refl

step_there : (first : ℕ) (left rest : List ℕ) (s : TimedStep) → is_through first left s ≡ true → counted_step first (left ++ rest) s ≡ counted_step first left s
step_there first left rest (Counted s) h = refl
step_there first left rest (Until end) h = ap (λ (n : ℕ). steps.Take n) (count_there first end left rest (ltb-true (count_until first end left) (length left) h))

step_within : (first : ℕ) (left : List ℕ) (s : TimedStep) → is_through first left s ≡ true → reads (counted_step first left s) ≤ length left
step_within first left (Counted s) h = leb-true (reads s) (length left) h
step_within first left (Until end) h = omega (arith, ltb-true (count_until first end left) (length left) h)

same_from : (first : ℕ) (left rest : List ℕ) (ss : List TimedStep) → settled_from first left ss ≡ true → counted_from first (left ++ rest) ss ≡ counted_from first left ss
same_from first left rest [] h = refl
same_from first left rest (s ∷ ss) h =
    let both = and_parts (is_through first left s) (settled_from first (drop (reads (counted_step first left s)) left) ss) h in
    let step : ScenarioStep = counted_step first left s in
    let within : reads step ≤ length left = step_within first left s both.0 in
    ap (λ (x : ScenarioStep). x ∷ counted_from first (drop (reads x) (left ++ rest)) ss) (step_there first left rest s both.0)
    ∙ ap (λ (l : List ℕ). step ∷ counted_from first l ss) (drop-append-le (reads step) left rest within)
    ∙ ap (λ (l : List ScenarioStep). step ∷ l) (same_from first (drop (reads step) left) rest ss both.1)

reads_within : (first : ℕ) (left : List ℕ) (ss : List TimedStep) → settled_from first left ss ≡ true → reads_all (counted_from first left ss) ≤ length left
reads_within first left [] h = omega arith
reads_within first left (s ∷ ss) h =
    let both = and_parts (is_through first left s) (settled_from first (drop (reads (counted_step first left s)) left) ss) h in
    let step : ScenarioStep = counted_step first left s in
    let within : reads step ≤ length left = step_within first left s both.0 in
    let rest : List ℕ = drop (reads step) left in
    let more : reads_all (counted_from first rest ss) ≤ length rest = reads_within first rest ss both.1 in
    let long : length rest ≡ length left - reads step = length-drop (reads step) left in
    omega (arith, within, more, long)

first_there : (times rest : List ℕ) → 0 < length times → first_of (times ++ rest) ≡ first_of times
first_there [] rest h = absurd (omega (arith, h))
first_there (t ∷ ts) rest h = refl

pub settled_same : (times rest : List ℕ) (ss : List TimedStep) → settled times ss ≡ true → counted (times ++ rest) ss ≡ counted times ss
settled_same times rest ss h =
    let both = and_parts _ (settled_from (first_of times) times ss) h in
    ap (λ (n : ℕ). counted_from n (times ++ rest) ss) (first_there times rest (ltb-true 0 (length times) both.0))
    ∙ same_from (first_of times) times rest ss both.1

pub settled_within : (times rest : List ℕ) (ss : List TimedStep) → settled times ss ≡ true → reads_all (counted (times ++ rest) ss) ≤ length times
settled_within times rest ss h =
    let both = and_parts _ (settled_from (first_of times) times ss) h in
    subst (λ (l : List ScenarioStep). reads_all l ≤ length times) (sym (settled_same times rest ss h)) (reads_within (first_of times) times ss both.1)

none_more : (first count : ℕ) (left : List ℕ) (ss : List TimedStep) → length left ≤ count → settled_from first left ss ≡ true → list_any (counts_more count) ss ≡ false
none_more first count left [] few h = refl
none_more first count left (Counted s ∷ ss) few h =
    let both = and_parts (is_through first left (Counted s)) (settled_from first (drop (reads s) left) ss) h in
    let within : reads s ≤ length left = step_within first left (Counted s) both.0 in
    let long : length (drop (reads s) left) ≡ length left - reads s = length-drop (reads s) left in
    ap (λ (b : Bool). b || list_any (counts_more count) ss) (le-ltb count (reads s) (omega (arith, within, few)))
    ∙ none_more first count (drop (reads s) left) ss (omega (arith, long, few)) both.1
none_more first count left (Until end ∷ ss) few h =
    let both = and_parts (is_through first left (Until end)) (settled_from first (drop (count_until first end left) left) ss) h in
    let long : length (drop (count_until first end left) left) ≡ length left - count_until first end left = length-drop (count_until first end left) left in
    none_more first count (drop (count_until first end left) left) ss (omega (arith, long, few)) both.1

-- where a step counts more records than there are, the steps aren't through with them
pub not_settled : (times : List ℕ) (ss : List TimedStep) → list_any (counts_more (length times)) ss ≡ true → settled times ss ≡ false
not_settled times ss more = go (settled times ss) refl
  where
    go : (b : Bool) → settled times ss ≡ b → b ≡ false
    go false e = refl
    go true e = absurd (both_ways (list_any (counts_more (length times)) ss) (none_more (first_of times) (length times) times ss (omega arith) (and_parts _ (settled_from (first_of times) times ss) e).1) more)
