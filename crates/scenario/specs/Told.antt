-- What a text says: a step, in format 3 also one by time or one for each node, and what texts say one after another.
use Rattle.std.specs.Prelude.{ℕ, ◌+◌, ◌-◌, Bool, false, nat_le, if◌then◌else◌, List, [], ◌∷◌, ◌++◌, map, codes, Option, Some, None, option_and_then}
use Rattle.std.specs.Prelude.{option_map, Result, Ok, Err}
use Rattle.std.specs.List.{range_with_len}
use Rattle.std.specs.Option.{option_or}
use Rattle.std.specs.Str.{bytes_eq}
use Rattle.maglev_texts.specs.Parsing.{decimal_of, pieces}
use Rattle.scenario.specs.Steps.{PlainStep, install, deliver, restart, stop, until, plain_timed, kind_of, step_of, allows}
use Rattle.scenario.specs.Times.{micros_of}
use Rattle.scenario.specs.declared.step.Kind.{Kind}
use Rattle.scenario.specs.declared.step.Kind.TheVariants as kind
use Rattle.scenario_keys.specs.declared.formats.Format.{Format}
use Rattle.scenario_keys.specs.declared.formats.Format.TheVariants.{One, Two, Three}
use Rattle.scenario.specs.declared.playing.Played.{Played}
use Rattle.scenario.specs.declared.told.EachNode.{EachNode}
use Rattle.scenario.specs.declared.told.EachNode.TheVariants as node
use Rattle.scenario.specs.declared.told.Told.{Told}
use Rattle.scenario.specs.declared.told.Told.TheVariants as code
use Rattle.scenario.specs.declared.told.StepRules.{StepRules}

-- a step, or what each node does
pub data PlainTold : Type 0 where
  once : PlainStep → PlainTold
  each : EachNode → PlainTold

abbrev pub plain_told : Told → PlainTold
plain_told (code.Once s) = once (plain_timed s)
plain_told (code.Each e) = each e

-- the step of one node
abbrev pub at_node : EachNode → ℕ → PlainStep
at_node (node.Install v) n = install n v
at_node node.Restart n = restart n
at_node node.Stop n = stop n

-- the steps that are said: those of all nodes in order, where each node does something
abbrev pub steps_said : ℕ → PlainTold → List PlainStep
steps_said nodes (once s) = s ∷ []
steps_said nodes (each e) = map (at_node e) (range_with_len 0 nodes)

abbrev pub count_said : ℕ → PlainTold → ℕ
count_said nodes (once s) = 1
count_said nodes (each e) = nodes

-- one star
abbrev pub is_star : List (List ℕ) → Bool
is_star (word ∷ []) = bytes_eq word (codes "*")
is_star _ = false

-- a star and a version
abbrev pub install_each : List (List ℕ) → Option PlainTold
install_each (word ∷ version ∷ []) = if bytes_eq word (codes "*") then option_map (λ v. each (node.Install v)) (decimal_of 4294967295 version) else None
install_each _ = None

-- a time
abbrev pub until_of : List (List ℕ) → Option PlainTold
until_of (word ∷ []) = option_map (λ t. once (until t)) (micros_of word)
until_of _ = None

-- What a kind says in format 3 alone. `until T` takes the records up to a time, `take *` the rest of the capture, and of the
-- others with a star each node does what one would.
abbrev pub newer : Kind → List (List ℕ) → Option PlainTold
newer kind.Install words = install_each words
newer kind.Take words = if is_star words then Some (once (deliver 4294967295)) else None
newer kind.Restart words = if is_star words then Some (each node.Restart) else None
newer kind.Stop words = if is_star words then Some (each node.Stop) else None
newer kind.Until words = until_of words
newer _ words = None

abbrev pub newer_in : Format → Kind → List (List ℕ) → Option PlainTold
newer_in Three k words = newer k words
newer_in One k words = None
newer_in Two k words = None

-- what a kind with these words after it says
abbrev pub told_by : StepRules → Kind → List (List ℕ) → Option PlainTold
told_by rules k words = option_or (option_map (λ s. once s) (step_of rules.nodes rules.workers k words)) (newer_in rules.format k words)

abbrev pub told_by_words : StepRules → List (List ℕ) → Option PlainTold
told_by_words rules [] = None
told_by_words rules (word ∷ words) = option_and_then (λ k. told_by rules k words) (kind_of word)

-- a scenario that is played so may have what is said; of nodes it is asked for the first
abbrev pub allows_told : Played → PlainTold → Bool
allows_told played (once s) = allows played s
allows_told played (each e) = allows played (at_node e 0)

-- what a text says: words joined by single spaces. A scenario that is played so may have it, and it says no more steps than
-- have room.
unfoldable pub told_of : StepRules → ℕ → List ℕ → Option PlainTold
told_of rules room text =
    option_and_then (λ t. if allows_told rules.played t then (if nat_le (count_said rules.nodes t) room then Some t else None) else None)
    (told_by_words rules (pieces 32 text))

-- what is said after the steps of so many texts
abbrev pub after : ℕ → List PlainStep → Result (List PlainStep) ℕ → Result (List PlainStep) ℕ
after n done (Ok steps) = Ok (done ++ steps)
after n done (Err k) = Err (n + k)

-- the steps of a text and of those behind it, which depend on how many more have room
abbrev pub said_before : ℕ → ℕ → Option PlainTold → (ℕ → Result (List PlainStep) ℕ) → Result (List PlainStep) ℕ
said_before nodes room None rest = Err 0
said_before nodes room (Some t) rest = after 1 (steps_said nodes t) (rest (room - count_said nodes t))

-- the steps that texts say in order, where so many have room, or the place of the first text that says none of a scenario's
abbrev pub steps_of : StepRules → ℕ → List (List ℕ) → Result (List PlainStep) ℕ
steps_of rules room [] = Ok []
steps_of rules room (text ∷ texts) = said_before rules.nodes room (told_of rules room text) (λ left. steps_of rules left texts)
