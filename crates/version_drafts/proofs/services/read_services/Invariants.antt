use Rattle.std.proofs.Common.{◌≡◌, ◌++◌, drop, map, option_map}
use Rattle.toml.specs.View.{items_view}
use Rattle.scenario_keys.specs.Lookups.{all_items}
use Rattle.version_drafts.specs.Drafts.{plain_service_draft}
use Rattle.version_drafts.specs.Reading.{service_in}
use Rattle.version_drafts.specs.Places.{services_from}
use Rattle.version_drafts.proofs.services.read_services.Given as goal

abbrev pub invariant-loop-n : goal.invariant-loop-n
invariant-loop-n l = record {
  value : option_map (λ rest. map plain_service_draft l.found.items ++ rest) (all_items (service_in l.format l.servers l.based) (items_view (drop l.n l.values))) ≡ all_items (service_in l.format l.servers l.based) (items_view l.values);
  place : services_from l.format l.based l.version l.n (items_view (drop l.n l.values)) ≡ services_from l.format l.based l.version 0 (items_view l.values);
}
