use Rattle.std.proofs.Common.{rules, ◌≡◌, sym, map, None}
use Rattle.std.proofs.lemmas.List.{length-map}
use Rattle.hash_laws.specs.Any.{plain_of}
use Rattle.maglev_ffi.specs.Tables.{names_fault}
use Rattle.maglev_ffi.proofs.Faults.{good, refused}
use Rattle.maglev_ffi.proofs.Filled.{filled_by}
use Rattle.maglev_ffi.proofs.filling.fill_of.Goals as goal

pub returns-in-Some-clause-fault : goal.returns-in-Some-clause-fault
returns-in-Some-clause-fault c = refused _ _ _ _ (sym c.in-Some.ensures)

pub ranked-requires-clause-names : goal.ranked-requires-clause-names
ranked-requires-clause-names c =
    let none : names_fault c.args.size (map (λ w. w.now) c.args.words.now) c.args.weights.now ≡ None = search rules in
    (good _ _ _ none).named

pub ranked-requires-clause-weights : goal.ranked-requires-clause-weights
ranked-requires-clause-weights c =
    let none : names_fault c.args.size (map (λ w. w.now) c.args.words.now) c.args.weights.now ≡ None = search rules in
    let len = length-map c.args.words.now (λ w. w.now) in
    rw len at (good _ _ _ none).weighed

pub returns-clause-table : goal.returns-clause-table
returns-clause-table c = record {
  entrants = c.in_ok-entrants.entrants.items;
  ranked = c.in_ok-entrants.ensures.ranked;
  filled = filled_by (plain_of c.args.hash.now) c.args.size c.in_ok-entrants.entrants.items _ _ _ _ _ _ c.write.ensures c.as_slice-3.ensures.value c.in_ok-places.ensures c.as_slice.ensures.value c.in-Ok.ensures.table c.as_slice-2.ensures.value;
}
