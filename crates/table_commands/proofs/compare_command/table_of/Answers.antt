use Rattle.std.proofs.Common.{arith, rules, ◌≡◌, ℕ, List, ap, ◌∙◌}
use Rattle.std.proofs.lemmas.Grind.{common_steps}
use Rattle.hash_laws.specs.Any.{plain_of}
use Rattle.pool_versions.specs.declared.backend.Backend.{Backend}
use Rattle.pool_versions.specs.Pool.{ups, weights, draining_backends}
use Rattle.selection.specs.Candidates.{among}
use Rattle.selection.specs.Picks.{table_of_ups}
use Rattle.table_commands.proofs.compare_command.table_of.Goals as goal

pub returns-in_err-members : goal.returns-in_err-members
returns-in_err-members c = grind (arith, common_steps)

pub returns-in_err-ups : goal.returns-in_err-ups
returns-in_err-ups c = grind (arith, common_steps)

pub returns-in_err-weights : goal.returns-in_err-weights
returns-in_err-weights c = grind (arith, common_steps)

pub returns-in-Ok : goal.returns-in-Ok
returns-in-Ok c =
    let ms = c.args.members.items in
    let ds = draining_backends ms in
    let bs : c.as_slice-3.result.now ≡ ups ms = search rules in
    let ws : c.as_slice-4.result.now ≡ weights ms = search rules in
    (c.in-Ok.ensures.table ds).made
    ∙ ap (λ (b : List Backend). table_of_ups (plain_of c.args.hash.now) c.args.size (among b c.as_slice-4.result.now ds)) bs
    ∙ ap (λ (w : List ℕ). table_of_ups (plain_of c.args.hash.now) c.args.size (among (ups ms) w ds)) ws

pub returns : goal.returns
returns c = grind (arith, common_steps)
