use Rattle.std.proofs.Common.{◌≡◌, drop}
use Rattle.toml.specs.View.{table_view}
use Rattle.scenario_places.specs.MemberPlaces.{item_among}
use Rattle.scenario_places.proofs.member_words.item_among.Given as goal

abbrev pub invariant-loop-key : goal.invariant-loop-key
invariant-loop-key l = item_among (drop l.key-index l.keys) l.left (table_view l.table) ≡ item_among l.keys l.wanted (table_view l.table)
