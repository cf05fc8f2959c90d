-- The lines of the splits, and their counts.
use Rattle.std.specs.Prelude.{ℕ, Bool, true, false, List, [], ◌++◌, length, codes}
use Rattle.std.specs.List.{flat_map}
use Rattle.std.specs.Fmt.{decimal}
use Rattle.cluster_node.specs.declared.events.LogEntry.{LogEntry}
use Rattle.five_tuple.specs.declared.Flow.{Flow}
use Rattle.pool_versions.specs.declared.backend.Backend.{Backend}
use Rattle.maglev_texts.specs.Printing.{flow_text}
use Rattle.run_report.specs.Report.{count_line}
use Rattle.run_report.specs.Verdicts.{choice_text}
use Rattle.run_report.specs.declared.cause.SplitCause.{SplitCause}
use Rattle.run_report.specs.declared.cause.SplitCause.TheVariants.{Down, Moved, Drained}
use Rattle.run_report.specs.declared.sending.Split.{Split}
use Rattle.run_report.specs.Splits.{splits_of, flows_of}
use Rattle.run_report.specs.Causes.{Lookups, cause_of, down_count, moved_count, drained_count, does_anybody_drain}

abbrev pub cause_text : SplitCause → List ℕ
cause_text Down = codes "down"
cause_text Moved = codes "moved"
cause_text Drained = codes "drained"

-- `FLOW events I J`
abbrev pub events_text : Flow → ℕ → ℕ → List ℕ
events_text x one other = flow_text x ++ (codes " events " ++ (decimal one ++ (codes " " ++ decimal other)))

-- `slot S version V1 BACKEND1 version V2 BACKEND2`
abbrev pub choices_text : ℕ → ℕ → Backend → ℕ → Backend → List ℕ
choices_text slot v₁ b₁ v₂ b₂ = codes "slot " ++ (decimal slot ++ (codes " " ++ (choice_text v₁ b₁ ++ (codes " " ++ choice_text v₂ b₂))))

-- `split FLOW events I J slot S version V1 BACKEND1 version V2 BACKEND2 CAUSE`
abbrev pub split_words : Split → ℕ → SplitCause → List ℕ
split_words p slot cause =
    codes "split " ++ (events_text p.later.flow p.first.number p.later.number ++ (codes " "
    ++ (choices_text slot p.first.origin p.first.backend p.later.origin p.later.backend ++ (codes " " ++ cause_text cause))))

abbrev pub line_of : Split → ℕ → SplitCause → List ℕ
line_of p slot cause = split_words p slot cause ++ codes "\n"

abbrev pub split_line : Lookups → Split → List ℕ
split_line lookups p = line_of p (lookups.slot p.later.flow) (cause_of lookups p)

-- the number of flows, of splits, and of those that are down or moved
abbrev pub split_counts : ℕ → ℕ → ℕ → ℕ → List ℕ
split_counts flows split down moved = count_line (codes "flows") flows ++ (count_line (codes "split") split
    ++ (count_line (codes "down") down ++ count_line (codes "moved") moved))

-- where a member of a version drains, the number of those that left after they had drained
abbrev pub drained_line : Bool → ℕ → List ℕ
drained_line false drained = []
drained_line true drained = count_line (codes "drained") drained

-- the counts that come after the lines
abbrev pub counts_text : Lookups → ℕ → List Split → List ℕ
counts_text lookups flows ps = split_counts flows (length ps) (down_count lookups ps) (moved_count lookups ps)
    ++ drained_line (does_anybody_drain lookups.versions) (drained_count lookups ps)

-- a line for each split, and after them the counts
abbrev pub text_of : Lookups → ℕ → List Split → List ℕ
text_of lookups flows ps = flat_map (split_line lookups) ps ++ counts_text lookups flows ps

-- those of a record
abbrev pub splits_text : Lookups → List LogEntry → List ℕ
splits_text lookups past = text_of lookups (length (flows_of past)) (splits_of past)
