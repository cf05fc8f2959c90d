-- The services of a sketch that has some.
use Rattle.std.proofs.Common.{◌≡◌, ℕ, false, List, [], ◌∷◌, length, take, refl, ap, ◌∙◌, min}
use Rattle.std.specs.Prelude.{◌==◌}
use Rattle.std.specs.List.{flat_map}
use Rattle.std.proofs.lemmas.List.{take_min}
use Rattle.scenario_sketch.specs.declared.counted.Counted.{Counted}
use Rattle.scenario_sketch.specs.Text.{service_text, services_text}

some_services : (cs : List Counted) → (length cs == 0) ≡ false → flat_map service_text (take 256 cs) ≡ services_text cs
some_services [] h = absurd cc
some_services (c ∷ cs) h = refl

pub first_services : (cs : List Counted) (n : ℕ) → (length cs == 0) ≡ false → n ≡ min 256 (length cs) → flat_map service_text (take n cs) ≡ services_text cs
first_services cs n h e = ap (λ (k : ℕ). flat_map service_text (take k cs)) e ∙ ap (flat_map service_text) (take_min 256 cs) ∙ some_services cs h
