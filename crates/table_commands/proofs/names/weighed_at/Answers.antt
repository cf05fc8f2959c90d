use Rattle.std.proofs.Common.{[]}
use Rattle.table_commands.specs.Refusals.{is_word}
use Rattle.table_entrants.proofs.Ranked.{all_named}
use Rattle.table_commands.proofs.names.weighed_at.Goals as goal

pub name_of-requires : goal.name_of-requires
name_of-requires c = all_named is_word (λ w. w.now) c.args.words.now c.requires.names c.args.place (record { ref_ptr = (0, 0); now = [] }) c.requires.place
