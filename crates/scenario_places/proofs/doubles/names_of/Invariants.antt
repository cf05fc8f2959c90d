use Rattle.std.proofs.Common.{◌≡◌, ◌++◌, drop, map}
use Rattle.scenario_places.proofs.doubles.names_of.Given as goal

abbrev pub invariant-loop-member : goal.invariant-loop-member
invariant-loop-member l = l.names.items ++ map (λ m. m.backend.name) (drop l.member-index l.members) ≡ map (λ m. m.backend.name) l.members
