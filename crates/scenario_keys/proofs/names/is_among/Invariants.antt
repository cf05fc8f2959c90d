use Rattle.std.proofs.Common.{◌≡◌, drop, nat_eq}
use Rattle.std.specs.List.{list_any}
use Rattle.std.specs.Cmp.Lexicographic.{pointwise}
use Rattle.scenario_keys.specs.Keys.{names_in}
use Rattle.scenario_keys.proofs.names.is_among.Given as goal

abbrev pub invariant-loop-key : goal.invariant-loop-key
invariant-loop-key l = list_any (pointwise nat_eq l.text) (names_in l.owner l.format (drop l.key-index l.all)) ≡ list_any (pointwise nat_eq l.text) (names_in l.owner l.format l.all)
