-- A cluster on threads knows each step of a scenario that is played on threads.
use Rattle.std.proofs.Common.{◌≡◌, ℕ, suc, ◌+◌, Bool, true, false, not, List, [], ◌∷◌, map, length, Some, None, refl, ap, ◌∙◌, arith}
use Rattle.std.specs.Prelude.{nat_lt, cond}
use Rattle.std.specs.List.{list_all, position_or_len}
use Rattle.std.proofs.lemmas.Bool.{and_parts, ltb-true}
use Rattle.event_trace.specs.declared.steps.ScenarioStep.{ScenarioStep}
use Rattle.event_trace.specs.declared.steps.ScenarioStep.TheVariants as steps
use Rattle.timed_steps.specs.declared.TimedStep.{TimedStep}
use Rattle.timed_steps.specs.declared.TimedStep.TheVariants.{Counted, Until}
use Rattle.scenario.specs.Steps.{plain_step, plain_timed, allows}
use Rattle.scenario.specs.Meaning.{IsSupported}
use Rattle.scenario.specs.declared.playing.Played.TheVariants.{OnThreads}
use Rattle.scenario.specs.declared.plan.Scenario.{Scenario}
use Rattle.driver_commands.specs.Knowing.{is_known, is_known_in, first_unsupported_in}

one_known : (s : ScenarioStep) → allows OnThreads (plain_step s) ≡ true → is_known s ≡ true
one_known (steps.Install n v) h = refl
one_known (steps.Live ns) h = refl
one_known (steps.Take k) h = refl
one_known (steps.Lose k) h = refl
one_known (steps.Again p) h = refl
one_known (steps.Full n m) h = h
one_known (steps.Hold n) h = h
one_known (steps.Drain n) h = h
one_known (steps.Restart n) h = refl
one_known (steps.Stop n) h = refl

one_known_in : (s : TimedStep) → allows OnThreads (plain_timed s) ≡ true → is_known_in s ≡ true
one_known_in (Counted s) h = one_known s h
one_known_in (Until end) h = refl

one_more : (m n : ℕ) → m ≡ n → 1 + m ≡ suc n
one_more m n e = omega (arith, e)

all_known : (ss : List TimedStep) → list_all (λ p. allows OnThreads p) (map plain_timed ss) ≡ true → position_or_len (λ s. not (is_known_in s)) ss ≡ length ss
all_known [] h = refl
all_known (s ∷ ss) h =
    let p = and_parts (allows OnThreads (plain_timed s)) (list_all (λ p. allows OnThreads p) (map plain_timed ss)) h in
    ap (λ (b : Bool). cond (not (not b)) (1 + position_or_len (λ s. not (is_known_in s)) ss) 0) (one_known_in s p.0)
    ∙ one_more (position_or_len (λ s. not (is_known_in s)) ss) (length ss) (all_known ss p.1)

none_at_the_end : (n : ℕ) (b : Bool) → nat_lt n n ≡ b → cond b (Some n) None ≡ None
none_at_the_end n true e = absurd (omega (arith, ltb-true n n e))
none_at_the_end n false e = refl

pub known_steps : (s : Scenario) → IsSupported OnThreads s → first_unsupported_in s.steps.items ≡ None
known_steps s supported =
    ap (λ (n : ℕ). cond (nat_lt n (length s.steps.items)) (Some n) None) (all_known s.steps.items supported)
    ∙ none_at_the_end (length s.steps.items) (nat_lt (length s.steps.items) (length s.steps.items)) refl
