-- What the spreader that a scenario names chooses.
use Rattle.std.specs.Prelude.{ℕ, List}
use Rattle.hash_laws.specs.Any.{plain_of}
use Rattle.spreader.specs.Choices.{Choice, node_by_hash, node_by_turn}
use Rattle.scenario_keys.specs.declared.words.SpreadKind.{SpreadKind}
use Rattle.scenario_keys.specs.declared.words.SpreadKind.TheVariants as spreads
use Rattle.named_spread.specs.declared.NamedSpread.{NamedSpread}
use Rattle.named_spread.specs.declared.NamedSpread.TheVariants.{Hash, Turn}

-- which node a packet goes to
abbrev pub choice_by : SpreadKind → (List ℕ → ℕ) → Choice
choice_by spreads.Hash plain = node_by_hash plain
choice_by spreads.Turn plain = node_by_turn

abbrev pub choice_of : NamedSpread → Choice
choice_of (Hash s) = node_by_hash (plain_of s.hash)
choice_of (Turn s) = node_by_turn

abbrev pub live_of : NamedSpread → List ℕ
live_of (Hash s) = s.live
live_of (Turn s) = s
