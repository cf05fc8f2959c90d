use Rattle.std.proofs.Common.{◌<◌, [], ℕ, get_or, length, arith, ap, ◌∙◌}
use Rattle.table_entrants.specs.Ranking.{names_of}
use Rattle.table_entrants.proofs.Ranked.{read_name}
use Rattle.table_commands.proofs.names.name_at.Goals as goal

pub returns : goal.returns
returns c =
    let low : c.slot.result < length c.args.entrants.now = omega (arith, c.slot.ensures.named, c.requires.named) in
    read_name c.args.entrants.now c.slot.result _ low ∙ ap (λ (k : ℕ). get_or (names_of c.args.entrants.now) k []) c.slot.ensures.value
