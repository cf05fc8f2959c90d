use Rattle.std.proofs.Common.{◌≡◌, true, rules}
use Rattle.backend_names.proofs.Names.{name_fields}
use Rattle.backend_names.specs.NameText.{is_name}
use Rattle.backend_names.proofs.name.Name.new.Goals as goal
use Rattle.std.proofs.Common.{arith}
use Rattle.std.proofs.lemmas.Grind.{common_steps}

pub invariant_of-result : goal.invariant_of-result
invariant_of-result c =
    let named : is_name c.args.text.now ≡ true = search rules in
    name_fields c.args.text.now c.copy_from_slice.new.self (c.copy_from_slice.ensures.after) named

pub returns-then-not-is_name_text : goal.returns-then-not-is_name_text
returns-then-not-is_name_text c = grind (arith, common_steps)

pub returns : goal.returns
returns c = grind (arith, common_steps)
