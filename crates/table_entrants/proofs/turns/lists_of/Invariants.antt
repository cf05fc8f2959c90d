use Rattle.std.proofs.Common.{◌≡◌, map, take}
use Rattle.std.specs.List.{All}
use Rattle.maglev_table.specs.Turns.{preference_of}
use Rattle.table_entrants.proofs.turns.lists_of.Given as goal

abbrev pub invariant-loop-entrant : goal.invariant-loop-entrant
invariant-loop-entrant g l = record {
  lists : l.lists.items ≡ map (λ e. preference_of (g.H.FlowHash.plain l.hash) e.name l.size) (take l.entrant-index l.entrants);
  sized : All (λ p. p.size ≡ l.size) l.lists.items;
}
