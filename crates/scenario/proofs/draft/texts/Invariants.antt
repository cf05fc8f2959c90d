use Rattle.std.proofs.Common.{◌≡◌, ◌++◌, drop, map, option_map, string_bytes}
use Rattle.toml.specs.Data.{as_str}
use Rattle.toml.specs.View.{items_view}
use Rattle.scenario_keys.specs.Lookups.{all_items}
use Rattle.version_drafts.specs.Places.{item_from, is_text}
use Rattle.scenario.proofs.draft.texts.Given as goal

abbrev pub invariant-loop-n : goal.invariant-loop-n
invariant-loop-n l = record {
  value : option_map (λ rest. map string_bytes l.found.items ++ rest) (all_items as_str (items_view (drop l.n l.values))) ≡ all_items as_str (items_view l.values);
  text : item_from is_text l.n (items_view (drop l.n l.values)) ≡ item_from is_text 0 (items_view l.values);
}
