use Rattle.std.proofs.Common.{◌≡◌, ◌++◌, drop, option_map}
use Rattle.scenario_keys.specs.Lookups.{all_of}
use Rattle.scenario_pools.specs.BadWords.{first_none}
use Rattle.scenario_pools.proofs.basing.members_of.Given as goal

abbrev pub invariant-loop-n : goal.invariant-loop-n
invariant-loop-n l =
    (option_map (λ rest. l.members.items ++ rest) (all_of (λ w. w) (drop l.n l.words)) ≡ all_of (λ w. w) l.words)
    × (first_none l.n (drop l.n l.words) ≡ first_none 0 l.words)
