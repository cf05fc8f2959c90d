use Rattle.std.proofs.Common.{◌≡◌, drop, is_some}
use Rattle.std.specs.List.{list_any}
use Rattle.toml.specs.Data.{get_member}
use Rattle.toml.specs.View.{table_view}
use Rattle.scenario_keys.specs.Keys.{key_name}
use Rattle.version_drafts.specs.Places.{first_there}
use Rattle.version_drafts.proofs.changes.first_there.Given as goal

abbrev pub invariant-loop-key : goal.invariant-loop-key
invariant-loop-key l = record {
  key : first_there (drop l.key-index l.keys) (table_view l.table) ≡ first_there l.keys (table_view l.table);
  there : list_any (λ k. is_some (get_member (key_name k) (table_view l.table))) (drop l.key-index l.keys) ≡ list_any (λ k. is_some (get_member (key_name k) (table_view l.table))) l.keys;
}
