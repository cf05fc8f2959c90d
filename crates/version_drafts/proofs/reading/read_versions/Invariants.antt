use Rattle.std.proofs.Common.{◌≡◌, ◌++◌, drop, map, option_map}
use Rattle.toml.specs.View.{items_view}
use Rattle.scenario_keys.specs.Lookups.{all_items}
use Rattle.version_drafts.specs.Drafts.{plain_version_draft}
use Rattle.version_drafts.specs.Reading.{version_in}
use Rattle.version_drafts.specs.Places.{versions_from}
use Rattle.version_drafts.proofs.reading.read_versions.Given as goal

abbrev pub invariant-loop-n : goal.invariant-loop-n
invariant-loop-n l = record {
  value : option_map (λ rest. map plain_version_draft l.found.items ++ rest) (all_items (version_in l.format l.servers) (items_view (drop l.n l.values))) ≡ all_items (version_in l.format l.servers) (items_view l.values);
  place : versions_from l.format l.n (items_view (drop l.n l.values)) ≡ versions_from l.format 0 (items_view l.values);
}
