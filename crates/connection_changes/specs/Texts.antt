-- The lines of the changes, and their counts.
use Rattle.std.specs.Prelude.{ℕ, ◌/◌, ◌%◌, List, [], ◌∷◌, ◌++◌, length, codes, Option}
use Rattle.std.specs.List.{flat_map}
use Rattle.std.specs.Fmt.{decimal}
use Rattle.cluster_node.specs.declared.events.LogEntry.{LogEntry}
use Rattle.run_report.specs.Report.{count_line}
use Rattle.run_report.specs.Causes.{Lookups, cause_of}
use Rattle.run_report.specs.Texts.{split_words, counts_text}
use Rattle.connection_changes.specs.declared.causes.Change.{Change}
use Rattle.connection_changes.specs.declared.causes.ChangeCause.{ChangeCause}
use Rattle.connection_changes.specs.declared.causes.ChangeCause.TheVariants.{Down, Drained, Node, Restart, Worker, Idle, Evicted}
use Rattle.connection_changes.specs.declared.sites.Site.{Site}
use Rattle.connection_changes.specs.Changes.{cause_in, changes_by}
use Rattle.connection_changes.specs.Turns.{Reckoning, reckoning_of}

abbrev pub cause_text : ChangeCause → List ℕ
cause_text Down = codes "down"
cause_text Drained = codes "drained"
cause_text Node = codes "node"
cause_text Restart = codes "restart"
cause_text Worker = codes "worker"
cause_text Idle = codes "idle"
cause_text Evicted = codes "evicted"

-- a number below a million, in six digits
abbrev pub six_digits : ℕ → List ℕ
six_digits n =
    decimal (n / 100000 % 10) ++ (decimal (n / 10000 % 10)
    ++ (decimal (n / 1000 % 10) ++ (decimal (n / 100 % 10) ++ (decimal (n / 10 % 10) ++ decimal (n % 10)))))

-- microseconds as `SECONDS.FFFFFF`
abbrev pub time_text : ℕ → List ℕ
time_text t = decimal (t / 1000000) ++ (codes "." ++ six_digits (t % 1000000))

-- `RECORD TIME NODE WORKER`
abbrev pub site_text : Site → List ℕ
site_text s = decimal s.packet ++ (codes " " ++ (time_text s.time ++ (codes " " ++ (decimal s.node ++ (codes " " ++ decimal s.worker)))))

-- ` at RECORD TIME NODE WORKER RECORD TIME NODE WORKER CAUSE`: of the first send, and of the later one
abbrev pub places_of : Site → Site → ChangeCause → List ℕ
places_of first later cause = codes " at " ++ (site_text first ++ (codes " " ++ (site_text later ++ (codes " " ++ (cause_text cause ++ codes "\n")))))

-- the words of a split's line, and behind them where its packets were sent, and why
abbrev pub change_line : Lookups → Option ℕ → Change → List ℕ
change_line lookups idle c = split_words c.split (lookups.slot c.split.later.flow) (cause_of lookups c.split)
    ++ places_of c.first c.later (cause_in lookups idle c)

-- a line for each change, and after them the counts of the splits
unfoldable pub places_in : Lookups → Option ℕ → Reckoning → List ℕ
places_in lookups idle r = flat_map (change_line lookups idle) r.changes ++ counts_text lookups r.connections r.splits

-- those of a record
abbrev pub places_text : Lookups → Option ℕ → List LogEntry → List ℕ
places_text lookups idle past = places_in lookups idle (reckoning_of past)

abbrev pub causes : List ChangeCause
causes = Down ∷ Drained ∷ Node ∷ Restart ∷ Worker ∷ Idle ∷ Evicted ∷ []

-- `changes CAUSE COUNT`
abbrev pub cause_line : ChangeCause → ℕ → List ℕ
cause_line cause count = codes "changes " ++ count_line (cause_text cause) count

-- how many connections there were, how many of them changed their server, how often, and how often for each cause
unfoldable pub summary_in : Lookups → Option ℕ → Reckoning → List ℕ
summary_in lookups idle r =
    count_line (codes "connections") r.connections ++ (count_line (codes "changed") r.changed ++ (count_line (codes "changes") (length r.changes)
    ++ flat_map (λ cause. cause_line cause (changes_by lookups idle r.changes cause)) causes))

-- those of a record
abbrev pub summary_text : Lookups → Option ℕ → List LogEntry → List ℕ
summary_text lookups idle past = summary_in lookups idle (reckoning_of past)
