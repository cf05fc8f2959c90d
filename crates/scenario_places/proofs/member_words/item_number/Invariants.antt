use Rattle.std.proofs.Common.{◌≡◌, drop}
use Rattle.toml.specs.View.{items_view}
use Rattle.scenario_places.specs.MemberPlaces.{item_number}
use Rattle.scenario_places.proofs.member_words.item_number.Given as goal

abbrev pub invariant-loop-n : goal.invariant-loop-n
invariant-loop-n l = item_number l.n l.wanted (items_view (drop l.n l.values)) ≡ item_number 0 l.wanted (items_view l.values)
