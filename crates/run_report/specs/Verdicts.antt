-- Why two packets went where they went, as a line.
use Rattle.std.specs.Prelude.{ℕ, Bool, true, false, ◌&&◌, List, [], ◌++◌, codes, Option, Some, None}
use Rattle.std.specs.Fmt.{decimal}
use Rattle.pool_versions.specs.declared.backend.Backend.{Backend}
use Rattle.cluster_core.specs.declared.explaining.Verdict.{Verdict}
use Rattle.cluster_core.specs.declared.explaining.Verdict.TheVariants.{NotSent, OtherFlow, Same, Split}
use Rattle.maglev_texts.specs.Printing.{backend_text}
use Rattle.run_report.specs.declared.sending.Sending.{Sending}
use Rattle.run_report.specs.declared.cause.SplitCause.{SplitCause}
use Rattle.run_report.specs.declared.cause.SplitCause.TheVariants.{Down, Moved, Drained}
use Rattle.run_report.specs.Causes.{Lookups, cause_of}

-- `version V BACKEND`
abbrev pub choice_text : ℕ → Backend → List ℕ
choice_text version backend = codes "version " ++ (decimal version ++ (codes " " ++ backend_text backend))

abbrev pub verdict_words : Verdict → List ℕ
verdict_words NotSent = codes "not sent"
verdict_words OtherFlow = codes "other flow"
verdict_words Same = codes "same"
verdict_words (Split slot v₁ v₂ b₁ b₂) = codes "split slot " ++ (decimal slot ++ (codes " " ++ (choice_text v₁ b₁ ++ (codes " " ++ choice_text v₂ b₂))))

abbrev pub verdict_text : Verdict → List ℕ
verdict_text verdict = verdict_words verdict ++ codes "\n"

abbrev pub is_split : Verdict → Bool
is_split NotSent = false
is_split OtherFlow = false
is_split Same = false
is_split (Split slot v₁ v₂ b₁ b₂) = true

abbrev pub is_drained : SplitCause → Bool
is_drained Down = false
is_drained Moved = false
is_drained Drained = true

-- two packets were sent, and the first one's server left after it had drained
abbrev pub left_drained : Lookups → Option Sending → Option Sending → Bool
left_drained lookups None later = false
left_drained lookups (Some a) None = false
left_drained lookups (Some a) (Some b) = is_drained (cause_of lookups (record { first = a; later = b }))

abbrev pub drained_end : Bool → List ℕ
drained_end true = codes " drained"
drained_end false = []

-- a verdict with its cause, where that is a drain
abbrev pub explained_text : Verdict → Bool → List ℕ
explained_text verdict drained = verdict_words verdict ++ (drained_end (is_split verdict && drained) ++ codes "\n")
