use Rattle.std.proofs.Common.{◌≡◌, map, take}
use Rattle.std.specs.List.{All}
use Rattle.maglev_table.specs.Turns.{preference_list, IsFullList}
use Rattle.maglev_table.proofs.plain.written_out.Given as goal

abbrev pub invariant-loop-list : goal.invariant-loop-list
invariant-loop-list l = record {
  lists : map (λ w. w.items) l.written.items ≡ map preference_list (take l.list-index l.lists);
  full : All (λ w. IsFullList l.fn.size w.items) l.written.items;
}
