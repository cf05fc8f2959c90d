use Rattle.std.proofs.Common.{sym}
use Rattle.scenario_places.proofs.Items.{count_view}
use Rattle.scenario_places.proofs.member_words.count.Goals as goal

pub returns : goal.returns
returns c = sym (count_view c.args.values.now)
