-- How many connections changed their server, how often, and why.
use Rattle.std.specs.Prelude.{ℕ, List, ◌++◌, length, map, codes, Option}
use Rattle.std.specs.List.{count_by}
use Rattle.std.specs.Fmt.{decimal}
use Rattle.cluster_node.specs.declared.events.LogEntry.{LogEntry}
use Rattle.run_report.specs.Causes.{Lookups}
use Rattle.connection_changes.specs.declared.causes.ChangeCause.{ChangeCause}
use Rattle.connection_changes.specs.declared.causes.ChangeCause.TheVariants.{Down, Drained, Node, Restart, Worker, Idle, Evicted}
use Rattle.connection_changes.specs.Changes.{cause_in, same_cause}
use Rattle.connection_changes.specs.Turns.{Reckoning, reckoning_of}

-- how many connections there were, how many changed their server, and how often
unfoldable pub change_members : ℕ → ℕ → ℕ → List ℕ
change_members connections changed changes =
    codes "\"connections\":" ++ (decimal connections ++ (codes ",\"changed\":" ++ (decimal changed ++ (codes ",\"changes\":" ++ decimal changes))))

-- how many of some causes are this one
abbrev pub how_often : List ChangeCause → ChangeCause → List ℕ
how_often made cause = decimal (count_by (λ c. same_cause cause c) made)

-- how often a server was no longer there
unfoldable pub gone_members : List ChangeCause → List ℕ
gone_members made = codes "\"down\":" ++ (how_often made Down ++ (codes ",\"drained\":" ++ how_often made Drained))

-- how often it was, for each cause
unfoldable pub moved_members : List ChangeCause → List ℕ
moved_members made =
    codes "\"node\":" ++ (how_often made Node ++ (codes ",\"restart\":" ++ (how_often made Restart ++ (codes ",\"worker\":" ++ (how_often made Worker
    ++ (codes ",\"idle\":" ++ (how_often made Idle ++ (codes ",\"evicted\":" ++ how_often made Evicted))))))))

-- how often there was each cause
unfoldable pub why_members : List ChangeCause → List ℕ
why_members made = gone_members made ++ (codes "," ++ moved_members made)

-- `,"why":{..}}`
unfoldable pub why_end : List ChangeCause → List ℕ
why_end made = codes ",\"why\":{" ++ (why_members made ++ codes "}}\n")

-- `{"type":"summary","connections":COUNT,"changed":COUNT,"changes":COUNT,"why":{..}}`
abbrev pub summary_line : ℕ → ℕ → ℕ → List ChangeCause → List ℕ
summary_line connections changed changes made =
    codes "{\"type\":\"summary\"," ++ (change_members connections changed changes ++ why_end made)

-- that of what is told of connections
unfoldable pub summary_in : Lookups → Option ℕ → Reckoning → List ℕ
summary_in lookups idle r = summary_line r.connections r.changed (length r.changes) (map (λ c. cause_in lookups idle c) r.changes)

-- that of a record
abbrev pub summary_json : Lookups → Option ℕ → List LogEntry → List ℕ
summary_json lookups idle past = summary_in lookups idle (reckoning_of past)
