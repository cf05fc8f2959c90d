-- Steps that are the same but for where the lists of their nodes lie.
use Rattle.std.specs.Prelude.{◌≡◌, List, [], ◌∷◌}
use Rattle.event_trace.specs.declared.steps.ScenarioStep.{ScenarioStep}
use Rattle.event_trace.specs.declared.steps.ScenarioStep.TheVariants as steps

abbrev pub IsCopy : ScenarioStep → ScenarioStep → Type 0
IsCopy (steps.Live ns) (steps.Live ms) = ns.items ≡ ms.items
IsCopy a b = a ≡ b

abbrev pub AreCopies : List ScenarioStep → List ScenarioStep → Type 0
AreCopies [] [] = Unit {0}
AreCopies (a ∷ as') (b ∷ bs) = IsCopy a b × AreCopies as' bs
AreCopies _ _ = ⊥
