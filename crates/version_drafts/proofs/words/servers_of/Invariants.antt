use Rattle.std.proofs.Common.{◌≡◌, ◌++◌, option_map}
use Rattle.toml.specs.View.{members_view}
use Rattle.version_drafts.specs.Words.{servers_of}
use Rattle.version_drafts.proofs.words.servers_of.Given as goal

abbrev pub invariant-loop-name : goal.invariant-loop-name
invariant-loop-name l = option_map (λ rest. l.found.items ++ rest) (servers_of (members_view l.name-iterator)) ≡ servers_of (members_view l.table.entries)
