use Rattle.std.proofs.Common.{rules, ◌≡◌, ◌≢◌, ◌∙◌, sym, ap, length, false, map, List, ℕ, Bor}
use Rattle.std.specs.Prelude.{is_some}
use Rattle.hash_laws.specs.declared.any.AnyHash.{AnyHash}
use Rattle.backend_names.specs.Sizes.{is_table_size}
use Rattle.maglev_ffi.specs.Tables.{AreListed}
use Rattle.maglev_ffi.proofs.Faults.{bad_size, bad_hash, bad_room, accepted_after, refuses_after}
use Rattle.maglev_ffi.proofs.filling.fill.Goals as goal

pub returns-in_default-clause-fault : goal.returns-in_default-clause-fault
returns-in_default-clause-fault c =
    let a : is_table_size c.args.size ≡ false = search rules in
    bad_size c.args.size c.args.hash c.args.text.now c.args.weights.now _ a

pub returns-in_default-hash_of-clause-fault : goal.returns-in_default-hash_of-clause-fault
returns-in_default-hash_of-clause-fault c =
    bad_hash c.args.size c.args.hash c.args.text.now c.args.weights.now _ c.in-Some.ensures.1 (ap (is_some {T = AnyHash}) (sym c.hash_of.ensures ∙ c.in_default-hash_of.is))

pub returns-then-slots-clause-fault : goal.returns-then-slots-clause-fault
returns-then-slots-clause-fault c =
    let value : c.slots.result ≡ c.args.size = c.slots.ensures.value ∙ c.in-Some.ensures.0 in
    let other : length c.args.slots.now ≢ c.args.size = λ e. c.if-slots.true (e ∙ sym value) in
    bad_room c.args.size c.args.hash c.args.text.now c.args.weights.now _ c.in-Some.ensures.1 (ap (is_some {T = AnyHash}) (sym c.hash_of.ensures ∙ c.in-Some-hash_of.is)) other

pub returns-in-Ok-fill_of-clause-accepted : goal.returns-in-Ok-fill_of-clause-accepted
returns-in-Ok-fill_of-clause-accepted c =
    let names = ap (λ (ws : List (Bor (List ℕ))). map (λ w. w.now) ws) c.as_slice.ensures.value ∙ c.in-Ok.ensures in
    let listed : AreListed c.args.size c.args.hash (length c.args.slots.now) = record {
      size_listed = c.in-Some.ensures.1;
      hash_listed = ap (is_some {T = AnyHash}) (sym c.hash_of.ensures ∙ c.in-Some-hash_of.is);
      fitting = c.if-slots.false ∙ c.slots.ensures.value ∙ c.in-Some.ensures.0;
    } in
    accepted_after c.args.size c.args.hash c.args.text.now c.args.weights.now (length c.args.slots.now) c.in-Some.size (map (λ w. w.now) c.as_slice.result.now) listed c.in-Some.ensures.0 names c.in-Ok-fill_of.ensures.accepted

pub returns-clause-fault : goal.returns-clause-fault
returns-clause-fault c =
    let names = ap (λ (ws : List (Bor (List ℕ))). map (λ w. w.now) ws) c.as_slice.ensures.value ∙ c.in-Ok.ensures in
    let listed : AreListed c.args.size c.args.hash (length c.args.slots.now) = record {
      size_listed = c.in-Some.ensures.1;
      hash_listed = ap (is_some {T = AnyHash}) (sym c.hash_of.ensures ∙ c.in-Some-hash_of.is);
      fitting = c.if-slots.false ∙ c.slots.ensures.value ∙ c.in-Some.ensures.0;
    } in
    refuses_after c.in-Err.fault c.args.size c.args.hash c.args.text.now c.args.weights.now (length c.args.slots.now) c.in-Some.size (map (λ w. w.now) c.as_slice.result.now) listed c.in-Some.ensures.0 names c.in-Err.ensures.fault
