use Rattle.std.proofs.Common.{◌≡◌, ◌++◌, drop, option_map}
use Rattle.toml.specs.View.{items_view}
use Rattle.scenario_keys.specs.Lookups.{all_items}
use Rattle.version_drafts.specs.Places.{item_from}
use Rattle.scenario.specs.Meaning.{address_in}
use Rattle.scenario.specs.Places.{is_address}
use Rattle.scenario.proofs.draft.addresses.Given as goal

abbrev pub invariant-loop-n : goal.invariant-loop-n
invariant-loop-n l = record {
  value : option_map (λ rest. l.found.items ++ rest) (all_items address_in (items_view (drop l.n l.values))) ≡ all_items address_in (items_view l.values);
  item : item_from is_address l.n (items_view (drop l.n l.values)) ≡ item_from is_address 0 (items_view l.values);
}
