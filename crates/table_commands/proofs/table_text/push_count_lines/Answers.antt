use Rattle.std.proofs.Common.{◌<◌, length, refl, arith}
use Rattle.table_entrants.specs.Ranking.{names_of}
use Rattle.table_entrants.proofs.Ranked.{read_name}
use Rattle.table_commands.proofs.Lines.{counts_more}
use Rattle.table_commands.proofs.table_text.push_count_lines.Goals as goal

pub loop-who-preserved : goal.loop-who-preserved
loop-who-preserved c =
    counts_more c.args.form (names_of c.args.entrants.now) c.args.counts.now _ _ _ c.loop-who.who _ _ c.in_ok-push_count_line.ensures c.loop-who.invariant refl
    (let low : c.loop-who.who < length c.args.entrants.now = omega arith in read_name c.args.entrants.now c.loop-who.who _ low)
