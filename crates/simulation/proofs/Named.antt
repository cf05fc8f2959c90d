-- What is kept as steps are counted, records are read, and steps are done.
use Rattle.std.proofs.Common.{◌≡◌, ◌⊎◌, inl, inr, take, ℕ, zero, suc, ◌+◌, ◌≤◌, ◌<◌, true, false, List, [], ◌∷◌, ◌++◌, length, Option, Some, None, refl, sym, ap, ◌∙◌, arith, slice_get, get_or}
use Rattle.std.proofs.lemmas.Bool.{cases_eq, eq-eqb, ne_eqb, cond-true, cond-false}
use Rattle.std.proofs.lemmas.List.{length-take}
use Rattle.std.proofs.lemmas.List.Recursion.{is_count_by}
use Rattle.std.proofs.lemmas.List.Sums.{count_by-le-length, count_by_more_yes, count_by_more_no}
use Rattle.std.specs.Prelude.{◌==◌, if◌then◌else◌, count_by}
use Rattle.pcap_file.specs.Format.{Record}
use Rattle.event_trace.specs.declared.steps.ScenarioStep.{ScenarioStep}
use Rattle.event_trace.specs.declared.steps.ScenarioStep.TheVariants as steps
use Rattle.event_trace.specs.PrivateStreams.{again_of}
use Rattle.timed_steps.specs.declared.TimedStep.{TimedStep}
use Rattle.simulation.specs.declared.keeping.KeptRecords.{KeptRecords}
use Rattle.simulation.specs.PrivateKeeping.{names_again, names, is_at, times_named, kept_at, times_in, to_keep, KeepsNamed}

times_count : (q : ℕ) (ss : List TimedStep) → times_named q ss ≡ count_by (names q) ss
times_count q ss = is_count_by (times_named q) (names q) refl (λ s rest. ap (λ (n : ℕ). if names q s then n else times_named q rest) (omega arith)) ss

pub times_few : (q : ℕ) (ss : List TimedStep) (i : ℕ) → times_named q (take i ss) ≤ i
times_few q ss i = omega (arith, times_count q (take i ss), count_by-le-length (names q) (take i ss), length-take i ss)

-- the count with one step more
times_more : (q : ℕ) (ss : List TimedStep) (i : ℕ) (s : TimedStep) → i < length ss → s ≡ get_or ss i s → names q s ≡ true → times_named q (take (i + 1) ss) ≡ suc (times_named q (take i ss))
times_more q ss i s lt e y = omega (arith, times_count q (take (i + 1) ss), times_count q (take i ss), count_by_more_yes (names q) ss i s lt (ap (names q) (sym e) ∙ y))

times_same : (q : ℕ) (ss : List TimedStep) (i : ℕ) (s : TimedStep) → i < length ss → s ≡ get_or ss i s → names q s ≡ false → times_named q (take (i + 1) ss) ≡ times_named q (take i ss)
times_same q ss i s lt e n = times_count q (take (i + 1) ss) ∙ count_by_more_no (names q) ss i s lt (ap (names q) (sym e) ∙ n) ∙ sym (times_count q (take i ss))

pub times_kept : (n : ℕ) (r : Option Record) → times_in (to_keep n r) ≡ n
times_kept zero r = refl
times_kept (suc n) r = refl

some_kept : (n : ℕ) (r : Option Record) → (n ≡ 0 → ⊥) → Some (n, r) ≡ to_keep n r
some_kept zero r bad = absurd (bad refl)
some_kept (suc n) r bad = refl

-- a step that names a place was counted
pub counted_again : (ss : List TimedStep) (i : ℕ) (s : TimedStep) (place times : ℕ) (old new : KeptRecords) → i < length ss → s ≡ get_or ss i s → ((q : ℕ) → names q s ≡ is_at q (Some place))
    → ((q : ℕ) → kept_at old q ≡ to_keep (times_named q (take i ss)) None) → times ≡ times_in (kept_at old place) + 1
    → ((q : ℕ) → kept_at new q ≡ (if q == place then Some (times, None) else kept_at old q)) → (q : ℕ) → kept_at new q ≡ to_keep (times_named q (take (i + 1) ss)) None
counted_again ss i s place times old new lt e a h t n q = go (cases_eq q place)
  where
    go : (q ≡ place) ⊎ (q ≡ place → ⊥) → kept_at new q ≡ to_keep (times_named q (take (i + 1) ss)) None
    go (inl f) =
        let before : times_in (kept_at old q) ≡ times_named q (take i ss) = ap times_in (h q) ∙ times_kept (times_named q (take i ss)) None in
        let count : times ≡ suc (times_named q (take i ss)) = omega (arith, t, before, ap (λ (p : ℕ). times_in (kept_at old p)) f) in
        let more : times_named q (take (i + 1) ss) ≡ suc (times_named q (take i ss)) = times_more q ss i s lt e (a q ∙ eq-eqb q place f) in
        n q ∙ cond-true (q == place) (Some (times, None)) (kept_at old q) (eq-eqb q place f) ∙ ap (λ (m : ℕ). Some (m, None)) count ∙ sym (ap (λ (m : ℕ). to_keep m None) more)
    go (inr f) =
        n q ∙ cond-false (q == place) (Some (times, None)) (kept_at old q) (ne_eqb q place f) ∙ h q
        ∙ ap (λ (m : ℕ). to_keep m None) (sym (times_same q ss i s lt e (a q ∙ ne_eqb q place f)))

-- a step that delivers nothing again names no place
pub names_none : (place : ℕ) (s : ScenarioStep) → ((k : ℕ) → s ≡ again_of k → ⊥) → names_again place s ≡ false
names_none place (steps.Install n v) bad = refl
names_none place (steps.Live ns) bad = refl
names_none place (steps.Take k) bad = refl
names_none place (steps.Lose k) bad = refl
names_none place (steps.Again k) bad = absurd (bad k refl)
names_none place (steps.Full n m) bad = refl
names_none place (steps.Hold n) bad = refl
names_none place (steps.Drain n) bad = refl
names_none place (steps.Restart n) bad = refl
names_none place (steps.Stop n) bad = refl

-- another step was
pub counted_other : (ss : List TimedStep) (i : ℕ) (s : TimedStep) (k : KeptRecords) → i < length ss → s ≡ get_or ss i s → ((q : ℕ) → names q s ≡ false)
    → ((q : ℕ) → kept_at k q ≡ to_keep (times_named q (take i ss)) None) → (q : ℕ) → kept_at k q ≡ to_keep (times_named q (take (i + 1) ss)) None
counted_other ss i s k lt e n h q = h q ∙ ap (λ (m : ℕ). to_keep m None) (sym (times_same q ss i s lt e (n q)))

pub at_place : (seen more : List Record) (r : Record) (n : ℕ) → n ≡ length seen → slice_get (seen ++ r ∷ more) n ≡ Some r
at_place [] more r n e = ap (λ (m : ℕ). slice_get (r ∷ more) m) e
at_place (x ∷ seen) more r n e = ap (λ (m : ℕ). slice_get (x ∷ seen ++ r ∷ more) m) e ∙ at_place seen more r (length seen) refl

apart_place : (seen : List Record) (x : Record) (q : ℕ) → (q ≡ length seen → ⊥) → slice_get (seen ++ x ∷ []) q ≡ slice_get seen q
apart_place [] x zero bad = absurd (bad refl)
apart_place [] x (suc q) bad = refl
apart_place (y ∷ seen) x zero bad = refl
apart_place (y ∷ seen) x (suc q) bad = apart_place seen x q (λ e. bad (ap suc e))

-- the next record was read, and a step that is left names it
pub noted_some : (seen : List Record) (ss : List TimedStep) (x : Record) (old new : KeptRecords) (place times : ℕ) → place ≡ length seen → times ≡ times_in (kept_at old place) → (times ≡ 0 → ⊥)
    → ((q : ℕ) → kept_at new q ≡ (if q == place then Some (times, Some x) else kept_at old q)) → KeepsNamed seen ss old → KeepsNamed (seen ++ x ∷ []) ss new
noted_some seen ss x old new place times e t bad n h q = go (cases_eq q place)
  where
    go : (q ≡ place) ⊎ (q ≡ place → ⊥) → kept_at new q ≡ to_keep (times_named q ss) (slice_get (seen ++ x ∷ []) q)
    go (inl f) =
        let count : times ≡ times_named q ss = t ∙ ap (λ (p : ℕ). times_in (kept_at old p)) (sym f) ∙ ap times_in (h q) ∙ times_kept (times_named q ss) (slice_get seen q) in
        n q ∙ cond-true (q == place) (Some (times, Some x)) (kept_at old q) (eq-eqb q place f) ∙ some_kept times (Some x) bad
        ∙ ap (λ (m : ℕ). to_keep m (Some x)) count ∙ ap (to_keep (times_named q ss)) (sym (at_place seen [] x q (f ∙ e)))
    go (inr f) =
        n q ∙ cond-false (q == place) (Some (times, Some x)) (kept_at old q) (ne_eqb q place f) ∙ h q
        ∙ ap (to_keep (times_named q ss)) (sym (apart_place seen x q (λ g. f (g ∙ sym e))))

pub not_some : (o : Option ℕ) → ((n : ℕ) → o ≡ Some n → ⊥) → o ≡ None
not_some None bad = refl
not_some (Some n) bad = absurd (bad n refl)
