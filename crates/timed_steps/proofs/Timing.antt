use Rattle.std.proofs.Common.{◌≡◌, ℕ, false, List, [], ◌∷◌, map, drop, ap, refl, true≢false}
use Rattle.std.specs.List.{list_any}
use Rattle.event_trace.specs.declared.steps.ScenarioStep.{ScenarioStep}
use Rattle.timed_steps.specs.declared.TimedStep.{TimedStep}
use Rattle.timed_steps.specs.declared.TimedStep.TheVariants.{Counted, Until}
use Rattle.timed_steps.specs.Timed.{reads, counted_from}
use Rattle.timed_steps.specs.Laws.{is_until}

pub stays : (first : ℕ) (left : List ℕ) (ss : List ScenarioStep) → counted_from first left (map (λ s. Counted s) ss) ≡ ss
stays first left [] = refl
stays first left (s ∷ ss) = ap (λ l. s ∷ l) (stays first (drop (reads s) left) ss)

pub asks_none : (f g : ℕ) (left right : List ℕ) (ss : List TimedStep) → list_any is_until ss ≡ false → counted_from f left ss ≡ counted_from g right ss
asks_none f g left right [] e = refl
asks_none f g left right (Counted s ∷ ss) e = ap (λ l. s ∷ l) (asks_none f g (drop (reads s) left) (drop (reads s) right) ss e)
asks_none f g left right (Until end ∷ ss) e = elim (true≢false e) [ ]
