use Rattle.std.proofs.Common.{◌∙◌}
use Rattle.scenario_keys.specs.Keys.{keys_of}
use Rattle.scenario_keys.proofs.Views.{has_only_keys}
use Rattle.scenario_keys.proofs.names.has_only_keys.Goals as goal

pub returns : goal.returns
returns c = c.all_are_keys.ensures ∙ has_only_keys (keys_of c.args.owner c.args.format) c.args.table.now.entries
