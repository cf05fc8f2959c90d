use Rattle.std.proofs.Common.{◌≡◌, ◌++◌, drop, option_map}
use Rattle.toml.specs.View.{table_view}
use Rattle.version_drafts.specs.Reading.{changes_of}
use Rattle.version_drafts.specs.Places.{lists_flaw}
use Rattle.version_drafts.proofs.changes.changes_of.Given as goal

abbrev pub invariant-loop-key : goal.invariant-loop-key
invariant-loop-key l = record {
  value : option_map (λ rest. l.found.items ++ rest) (changes_of l.servers (drop l.key-index l.keys) (table_view l.table)) ≡ changes_of l.servers l.keys (table_view l.table);
  place : lists_flaw (drop l.key-index l.keys) (table_view l.table) ≡ lists_flaw l.keys (table_view l.table);
}
