use Rattle.std.proofs.Common.{◌≡◌, map, length, sym, rules, true, false, arith}
use Rattle.std.specs.List.{list_all}
use Rattle.std.proofs.lemmas.List.{length-map}
use Rattle.backend_names.specs.NameText.{is_name}
use Rattle.maglev_ffi.specs.Tables.{are_weights}
use Rattle.maglev_ffi.proofs.Faults.{bad_name, too_many, bad_weight, no_fault}
use Rattle.maglev_ffi.proofs.filling.names_fault.Goals as goal

pub returns-then-not-are_names : goal.returns-then-not-are_names
returns-then-not-are_names c =
    let a : list_all is_name (map (λ w. w.now) c.args.words.now) ≡ false = search rules in
    sym (bad_name _ _ _ a)

pub returns-then-words-slots : goal.returns-then-words-slots
returns-then-words-slots c =
    let a : list_all is_name (map (λ w. w.now) c.args.words.now) ≡ true = search rules in
    let len = length-map c.args.words.now (λ w. w.now) in
    sym (too_many _ _ _ a (omega arith))

pub returns-then-not-are_weights : goal.returns-then-not-are_weights
returns-then-not-are_weights c =
    let a : list_all is_name (map (λ w. w.now) c.args.words.now) ≡ true = search rules in
    let len = length-map c.args.words.now (λ w. w.now) in
    let w : are_weights (length c.args.words.now) c.args.weights.now ≡ false = search rules in
    sym (bad_weight _ _ _ a (omega arith) (rw len w))

pub returns : goal.returns
returns c =
    let a : list_all is_name (map (λ w. w.now) c.args.words.now) ≡ true = search rules in
    let len = length-map c.args.words.now (λ w. w.now) in
    let w : are_weights (length c.args.words.now) c.args.weights.now ≡ true = search rules in
    sym (no_fault _ _ _ a (omega arith) (rw len w))
