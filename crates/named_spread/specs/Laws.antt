-- What the choices of a spreader with a name keep.
use Rattle.hash_laws.specs.Any.{plain_of}
use Rattle.std.specs.Prelude.{refl}
use Rattle.spreader.specs.Choices.{ChoosesLive, ChoosesWhereLive, ChoosesNoneOfNone}
use Rattle.spreader.specs.Laws.{by_turn_live, by_turn_some, by_hash_live, by_hash_some, by_hash_none}
use Rattle.named_spread.specs.declared.NamedSpread.{NamedSpread}
use Rattle.named_spread.specs.declared.NamedSpread.TheVariants.{Hash, Turn}
use Rattle.named_spread.specs.Choosing.{choice_of}

pub choice_is_live : (s : NamedSpread) → ChoosesLive (choice_of s)
choice_is_live (Hash s) = by_hash_live (plain_of s.hash)
choice_is_live (Turn s) = by_turn_live

pub choice_where_live : (s : NamedSpread) → ChoosesWhereLive (choice_of s)
choice_where_live (Hash s) = by_hash_some (plain_of s.hash)
choice_where_live (Turn s) = by_turn_some

pub choice_of_none : (s : NamedSpread) → ChoosesNoneOfNone (choice_of s)
choice_of_none (Hash s) = by_hash_none (plain_of s.hash)
choice_of_none (Turn s) = λ flow nth. refl
