use Rattle.std.proofs.Common.{◌≤◌, Some, sym, ap, ◌∙◌, arith}
use Rattle.toml.specs.Data.{get_member}
use Rattle.toml.specs.View.{table_view}
use Rattle.scenario_keys.specs.Keys.{key_name}
use Rattle.scenario_keys.specs.declared.key.Key.TheVariants as key
use Rattle.version_drafts.proofs.Bounds.{number_if_bound}
use Rattle.version_drafts.proofs.reading.base_at.Goals as goal

pub overflow_cast-result : goal.overflow_cast-result
overflow_cast-result c =
    let bound : c.in-Some.number ≤ 4294967295 = number_if_bound 0 4294967295 c.in-Some.number (get_member (key_name key.Base) (table_view c.args.table.now))
    (sym c.number_if.ensures ∙ c.in_ok-number.was ∙ ap Some c.in-Some.is) in
    omega (arith, bound)
