-- The lines of the changes: the splits with where their packets were sent, and why the later one went elsewhere.
use Rattle.std.specs.Prelude.{ℕ, List, ◌++◌, codes, Option}
use Rattle.std.specs.List.{flat_map}
use Rattle.std.specs.Fmt.{decimal}
use Rattle.cluster_node.specs.declared.events.LogEntry.{LogEntry}
use Rattle.run_report.specs.declared.cause.SplitCause.{SplitCause}
use Rattle.run_report.specs.declared.sending.Sending.{Sending}
use Rattle.run_report.specs.Causes.{Lookups, cause_of}
use Rattle.connection_changes.specs.declared.causes.Change.{Change}
use Rattle.connection_changes.specs.declared.causes.ChangeCause.{ChangeCause}
use Rattle.connection_changes.specs.declared.sites.Site.{Site}
use Rattle.connection_changes.specs.Changes.{cause_in}
use Rattle.connection_changes.specs.Turns.{Reckoning, reckoning_of}
use Rattle.connection_changes.specs.Texts.{cause_text, time_text}
use Rattle.json_lines.specs.Splits.{send_members, split_members, counts_json}

-- `"record":RECORD,"time":TIME,"node":NODE,"worker":WORKER`
abbrev pub site_members : Site → List ℕ
site_members s =
    codes "\"record\":" ++ (decimal s.packet ++ (codes ",\"time\":" ++ (time_text s.time ++ (codes ",\"node\":" ++ (decimal s.node
    ++ (codes ",\"worker\":" ++ decimal s.worker))))))

-- a packet that was sent, and where: `SEND,SITE`
unfoldable pub placed_members : Sending → Site → List ℕ
placed_members send site = send_members send ++ (codes "," ++ site_members site)

-- a split's line, with why its later packet went elsewhere before its sends, and in each where it was sent
abbrev pub change_line : Change → ℕ → SplitCause → ChangeCause → List ℕ
change_line c slot cause why =
    codes "{" ++ (split_members c.split slot cause
    ++ (codes ",\"why\":\"" ++ (cause_text why ++ (codes "\",\"first\":{" ++ (placed_members c.split.first c.first
    ++ (codes "},\"later\":{" ++ (placed_members c.split.later c.later ++ codes "}}\n")))))))

abbrev pub change_json : Lookups → Option ℕ → Change → List ℕ
change_json lookups idle c = change_line c (lookups.slot c.split.later.flow) (cause_of lookups c.split) (cause_in lookups idle c)

-- a line for each change, and after them the counts of the splits
unfoldable pub places_in : Lookups → Option ℕ → Reckoning → List ℕ
places_in lookups idle r = flat_map (change_json lookups idle) r.changes ++ counts_json lookups r.connections r.splits

-- those of a record
abbrev pub places_json : Lookups → Option ℕ → List LogEntry → List ℕ
places_json lookups idle past = places_in lookups idle (reckoning_of past)
