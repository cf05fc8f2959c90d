use Rattle.std.proofs.Common.{ap, map}
use Rattle.maglev_texts.specs.declared.weights.WeighedName.{WeighedName}
use Rattle.table_commands.specs.Text.{name_in, weight_in}
use Rattle.table_entrants.proofs.Ranked.{one_entered}
use Rattle.table_commands.proofs.names.entrants_of.Goals as goal

pub loop-place-preserved : goal.loop-place-preserved
loop-place-preserved c =
    let words = map (λ w. w.now) c.args.words.now in
    one_entered (name_in words) (weight_in words) c.loop-place.place _ _ _ _ c.loop-place.invariant c.in_ok-enter.ensures
    (ap (λ (w : WeighedName). w.name) c.weighed_at-name.ensures) (ap (λ (w : WeighedName). w.weight) c.weighed_at-name.ensures)
