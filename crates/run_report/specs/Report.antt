-- The report: the counts of a run, a line each.
use Rattle.std.specs.Prelude.{ℕ, ◌-◌, ◌==◌, Bool, true, false, if◌then◌else◌, List, [], ◌∷◌, ◌++◌, slice_index, codes}
use Rattle.std.specs.List.{flat_map}
use Rattle.std.specs.Fmt.{decimal}
use Rattle.cluster_node.specs.declared.outcomes.Cause.{Cause}
use Rattle.cluster_node.specs.declared.outcomes.Cause.TheVariants.{NotIpv4, Truncated, BadHeader, BadChecksum, Fragment, NotTcpUdp, BadTransport, TooLarge}
use Rattle.cluster_node.specs.declared.outcomes.Cause.TheVariants.{NoService, NoBackend, NoVersion, RingsFull, LostAtRestart}
use Rattle.cluster_core.specs.OutcomeCounts.{number}
use Rattle.cluster_core.specs.declared.counts.Totals.{Totals}
use Rattle.event_trace.specs.declared.play.Tally.{Tally}
use Rattle.run_report.specs.Names.{cause_name}

-- `NAME COUNT`
abbrev pub count_line : List ℕ → ℕ → List ℕ
count_line name count = name ++ (codes " " ++ (decimal count ++ codes "\n"))

abbrev pub cut_line : Bool → List ℕ
cut_line true = codes "cut yes\n"
cut_line false = codes "cut no\n"

-- `drop CAUSE COUNT`, for a count above 0
abbrev pub drop_line : Cause → ℕ → List ℕ
drop_line cause count = if count == 0 then [] else codes "drop " ++ count_line (cause_name cause) count

-- the causes in the order of their numbers
abbrev pub causes : List Cause
causes = NotIpv4 ∷ Truncated ∷ BadHeader ∷ BadChecksum ∷ Fragment ∷ NotTcpUdp ∷ BadTransport ∷ TooLarge ∷ NoService ∷ NoBackend ∷ NoVersion ∷ RingsFull
    ∷ LostAtRestart ∷ []

-- the count of a cause: of the counts, the first is of number 1
abbrev pub count_of : List ℕ → Cause → ℕ
count_of dropped cause = slice_index dropped (number cause - 1)

-- a line for each cause with a count above 0, in the order of their numbers
unfoldable pub drops_text : List ℕ → List ℕ
drops_text dropped = flat_map (λ cause. drop_line cause (count_of dropped cause)) causes

-- what became of the capture's records
abbrev pub records_text : Tally → Bool → List ℕ
records_text tally is_cut =
    count_line (codes "packets") tally.packets ++ (count_line (codes "lost") tally.lost ++ (count_line (codes "unrouted") tally.unrouted
    ++ (count_line (codes "skipped") tally.skipped ++ (count_line (codes "left") tally.left ++ cut_line is_cut))))

-- what became of the packets that arrived at a node
abbrev pub totals_text : Totals → List ℕ
totals_text totals =
    count_line (codes "received") totals.received ++ (count_line (codes "forwarded") totals.forwarded
    ++ (drops_text totals.dropped ++ (count_line (codes "waiting") totals.waiting ++ count_line (codes "refused") totals.refused)))

abbrev pub report_text : Tally → Totals → Bool → List ℕ
report_text tally totals is_cut = records_text tally is_cut ++ totals_text totals
