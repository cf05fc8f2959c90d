use Rattle.std.proofs.Common.{◌≡◌, ◌++◌, drop, option_map}
use Rattle.toml.specs.View.{items_view}
use Rattle.scenario_keys.specs.Lookups.{all_items}
use Rattle.version_drafts.specs.Reading.{word_of}
use Rattle.version_drafts.specs.Places.{item_from, is_text}
use Rattle.version_drafts.proofs.services.read_words.Given as goal

abbrev pub invariant-loop-n : goal.invariant-loop-n
invariant-loop-n l = record {
  value : option_map (λ rest. l.found.items ++ rest) (all_items (word_of l.format l.servers) (items_view (drop l.n l.values))) ≡ all_items (word_of l.format l.servers) (items_view l.values);
  place : item_from is_text l.n (items_view (drop l.n l.values)) ≡ item_from is_text 0 (items_view l.values);
}
