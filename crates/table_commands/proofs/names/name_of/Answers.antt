use Rattle.std.proofs.Common.{rules}
use Rattle.table_commands.proofs.Entrants.{read_as}
use Rattle.table_commands.proofs.names.name_of.Goals as goal

pub returns : goal.returns
returns c = read_as c.args.word.now c.unwrap.result (search rules)
