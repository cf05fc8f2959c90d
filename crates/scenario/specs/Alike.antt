-- A document of a format means the same in each later one.
use Rattle.std.specs.Prelude.{◌≡◌, ◌≤◌, false, nat_eq, if◌then◌else◌, List, [], ◌∷◌, length, ℕ, codes, Option, Some, None, is_none, option_and_then, Result}
use Rattle.std.specs.Prelude.{Ok, Err, ⊤}
use Rattle.std.specs.List.{position_or_len}
use Rattle.std.specs.Cmp.Lexicographic.{pointwise}
use Rattle.toml.specs.Data.{Members, get_member}
use Rattle.maglev_texts.specs.Parsing.{pieces}
use Rattle.scenario_keys.specs.Lookups.{all_of, has_only}
use Rattle.scenario.specs.Steps.{PlainStep, kind_of, step_of, allows}
use Rattle.scenario.specs.Told.{steps_of}
use Rattle.scenario.specs.Meaning.{PlainScenario, plan_of}
use Rattle.scenario_keys.specs.Keys.{root_keys}
use Rattle.scenario_keys.specs.Formats.{format_of}
use Rattle.scenario.specs.declared.playing.Played.{Played}
use Rattle.scenario.specs.declared.told.StepRules.{StepRules}
use Rattle.scenario_keys.specs.declared.formats.Format.{Format}
use Rattle.scenario_keys.specs.declared.formats.Format.TheVariants.{One, Two, Three}

-- the second format is later than the first
abbrev pub IsLater : Format → Format → Type 0
IsLater One One = ⊥
IsLater One Two = ⊤
IsLater One Three = ⊤
IsLater Two One = ⊥
IsLater Two Two = ⊥
IsLater Two Three = ⊤
IsLater Three One = ⊥
IsLater Three Two = ⊥
IsLater Three Three = ⊥

-- two documents of these formats that say the same at every other key; either has the keys of the first format, or both don't
pub record AreAlike (f g : Format) (ms ns : Members) : Type 0 where
  pub one : format_of ms ≡ Some f
  pub two : format_of ns ≡ Some g
  pub keys : has_only (root_keys f) ns ≡ has_only (root_keys f) ms
  pub others : (key : List ℕ) → pointwise nat_eq key (codes "format") ≡ false → get_member key ns ≡ get_member key ms

-- a scenario that the first one means, the second one of a later format means too, however it is played
abbrev pub FormatsMeanTheSame : Type 0
FormatsMeanTheSame = (f g : Format) (played : Played) (ms ns : Members) (plan : PlainScenario) → IsLater f g → AreAlike f g ms ns →
    plan_of played ms ≡ Ok plan → plan_of played ns ≡ Ok plan

-- the step of these words
abbrev pub step_of_words : ℕ → ℕ → List (List ℕ) → Option PlainStep
step_of_words nodes workers [] = None
step_of_words nodes workers (word ∷ words) = option_and_then (λ k. step_of nodes workers k words) (kind_of word)

-- the step that a text is, where a scenario that is played so may have it
abbrev pub step_for : StepRules → List ℕ → Option PlainStep
step_for rules text = option_and_then (λ step. if allows rules.played step then Some step else None) (step_of_words rules.nodes rules.workers (pieces 32 text))

-- the steps of texts that are each one, or the place of the first that is none
abbrev pub one_by_one : StepRules → List (List ℕ) → Option (List PlainStep) → Result (List PlainStep) ℕ
one_by_one rules texts (Some steps) = Ok steps
one_by_one rules texts None = Err (position_or_len (λ t. is_none (step_for rules t)) texts)

-- in formats 1 and 2 each text is one step, and as many texts as a scenario may have are read
abbrev pub TextsAreSteps : Type 0
TextsAreSteps = (rules : StepRules) (texts : List (List ℕ)) → (rules.format ≡ Three → ⊥) → length texts ≤ 100000 →
    steps_of rules 100000 texts ≡ one_by_one rules texts (all_of (step_for rules) texts)
