-- What a step's words say, and which scenarios may have it.
use Rattle.std.specs.Prelude.{ℕ, Bool, true, false, ◌==◌, nat_lt, if◌then◌else◌, List, [], ◌∷◌, ◌++◌, map, codes, Option, Some, None, option_and_then}
use Rattle.std.specs.Prelude.{option_map}
use Rattle.std.specs.List.{list_any, range_with_len}
use Rattle.std.specs.Str.{bytes_eq}
use Rattle.maglev_texts.specs.Parsing.{decimal_of}
use Rattle.event_trace.specs.declared.steps.ScenarioStep.{ScenarioStep}
use Rattle.event_trace.specs.declared.steps.ScenarioStep.TheVariants as code
use Rattle.timed_steps.specs.declared.TimedStep.{TimedStep}
use Rattle.timed_steps.specs.declared.TimedStep.TheVariants.{Counted, Until}
use Rattle.scenario.specs.declared.step.Kind.{Kind}
use Rattle.scenario.specs.declared.step.Kind.TheVariants as kind
use Rattle.scenario.specs.declared.playing.Played.{Played}
use Rattle.scenario.specs.declared.playing.Played.TheVariants.{InTurn, OnThreads}

-- a step, with plain lists
pub data PlainStep : Type 0 where
  install : ℕ → ℕ → PlainStep
  live : List ℕ → PlainStep
  deliver : ℕ → PlainStep
  lose : ℕ → PlainStep
  again : ℕ → PlainStep
  full : ℕ → List Bool → PlainStep
  hold : ℕ → PlainStep
  drain : ℕ → PlainStep
  restart : ℕ → PlainStep
  stop : ℕ → PlainStep
  until : ℕ → PlainStep

abbrev pub plain_step : ScenarioStep → PlainStep
plain_step (code.Install n v) = install n v
plain_step (code.Live ns) = live ns.items
plain_step (code.Take k) = deliver k
plain_step (code.Lose k) = lose k
plain_step (code.Again p) = again p
plain_step (code.Full n marks) = full n marks
plain_step (code.Hold n) = hold n
plain_step (code.Drain n) = drain n
plain_step (code.Restart n) = restart n
plain_step (code.Stop n) = stop n

-- a step by count, or by a time in microseconds after the capture's first record
abbrev pub plain_timed : TimedStep → PlainStep
plain_timed (Counted s) = plain_step s
plain_timed (Until t) = until t

-- a number below a limit
abbrev pub below : ℕ → List ℕ → Option ℕ
below limit text = option_and_then (λ n. if nat_lt n limit then Some n else None) (decimal_of 4294967295 text)

-- a number below a limit that is none of those found
unfoldable pub new_number : ℕ → List ℕ → List ℕ → Option ℕ
new_number limit found text = option_and_then (λ a. if list_any (λ b. b == a) found then None else Some a) (below limit text)

-- numbers below a limit, none twice, after those found
abbrev pub numbers_after : ℕ → List ℕ → List (List ℕ) → Option (List ℕ)
numbers_after limit found [] = Some found
numbers_after limit found (t ∷ ts) = option_and_then (λ a. numbers_after limit (found ++ a ∷ []) ts) (new_number limit found t)

-- for each of 16 workers whether it is named
abbrev pub marks_of : List ℕ → List Bool
marks_of named = map (λ worker. list_any (λ other. other == worker) named) (range_with_len 0 16)

-- one number
abbrev pub number_of : List (List ℕ) → Option ℕ
number_of (number ∷ []) = decimal_of 4294967295 number
number_of _ = None

-- one node
abbrev pub node_of : ℕ → List (List ℕ) → Option ℕ
node_of nodes (node ∷ []) = below nodes node
node_of nodes _ = None

abbrev pub install_of : ℕ → List (List ℕ) → Option PlainStep
install_of nodes (node ∷ version ∷ []) = option_and_then (λ n. option_map (λ v. install n v) (decimal_of 4294967295 version)) (below nodes node)
install_of nodes _ = None

abbrev pub live_of : ℕ → List (List ℕ) → Option PlainStep
live_of nodes words = option_map live (numbers_after nodes [] words)

abbrev pub full_of : ℕ → ℕ → List (List ℕ) → Option PlainStep
full_of nodes workers [] = None
full_of nodes workers (node ∷ words) = option_and_then (λ n. option_map (λ named. full n (marks_of named)) (numbers_after workers [] words)) (below nodes node)

-- what a step does, by its first word
unfoldable pub kind_of : List ℕ → Option Kind
kind_of word =
    if bytes_eq word (codes "install") then Some kind.Install
    else (if bytes_eq word (codes "live") then Some kind.Live
    else (if bytes_eq word (codes "take") then Some kind.Take
    else (if bytes_eq word (codes "lose") then Some kind.Lose
    else (if bytes_eq word (codes "again") then Some kind.Again
    else (if bytes_eq word (codes "full") then Some kind.Full
    else (if bytes_eq word (codes "hold") then Some kind.Hold
    else (if bytes_eq word (codes "drain") then Some kind.Drain
    else (if bytes_eq word (codes "restart") then Some kind.Restart
    else (if bytes_eq word (codes "stop") then Some kind.Stop
    else (if bytes_eq word (codes "until") then Some kind.Until else None))))))))))

-- the step of a kind with these words after it; a time is read in format 3 alone, with the stars
abbrev pub step_of : ℕ → ℕ → Kind → List (List ℕ) → Option PlainStep
step_of nodes workers kind.Install words = install_of nodes words
step_of nodes workers kind.Live words = live_of nodes words
step_of nodes workers kind.Take words = option_map deliver (number_of words)
step_of nodes workers kind.Lose words = option_map lose (number_of words)
step_of nodes workers kind.Again words = option_map again (number_of words)
step_of nodes workers kind.Full words = full_of nodes workers words
step_of nodes workers kind.Hold words = option_map hold (node_of nodes words)
step_of nodes workers kind.Drain words = option_map drain (node_of nodes words)
step_of nodes workers kind.Restart words = option_map restart (node_of nodes words)
step_of nodes workers kind.Stop words = option_map stop (node_of nodes words)
step_of nodes workers kind.Until words = None

-- the steps of a scenario that is played so: in turn none is a stop, and on threads none a full, hold or drain; one that isn't
-- played may have each
abbrev pub allows : Played → PlainStep → Bool
allows InTurn (stop n) = false
allows OnThreads (full n marks) = false
allows OnThreads (hold n) = false
allows OnThreads (drain n) = false
allows played step = true
