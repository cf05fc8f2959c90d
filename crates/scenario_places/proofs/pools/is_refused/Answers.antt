use Rattle.std.proofs.Common.{◌==◌, ◌||◌, map, ap, sym, ◌∙◌}
use Rattle.std.proofs.lemmas.Bool.{ne_eqb}
use Rattle.std.specs.List.{list_any}
use Rattle.pool_versions.specs.declared.backend.Member.{Member}
use Rattle.version_drafts.specs.Plain.{PlainVersion, plain_version}
use Rattle.scenario_keys.proofs.Views.{any_of_mapped}
use Rattle.scenario_places.proofs.pools.is_refused.Goals as goal

pub returns-else-number-eq0 : goal.returns-else-number-eq0
returns-else-number-eq0 c =
    let other = list_any (λ (w : PlainVersion Member). w.number == c.args.number) (map plain_version c.args.versions.now) in
    c.has_number.ensures ∙ sym (any_of_mapped (λ (w : PlainVersion Member). w.number == c.args.number) plain_version c.args.versions.now) ∙ ap (λ b. b || other) (sym (ne_eqb c.args.number 0 c.if-number-eq0.false))
