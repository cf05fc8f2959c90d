use Rattle.std.proofs.Common.{ℕ, List, Option, option_map, map, ap, sym, subst, inr, Bor, refl}
use Rattle.pool_versions.specs.declared.service.Version.{Version}
use Rattle.pool_versions.specs.Pool.{key_of}
use Rattle.command_faults.specs.declared.fault.CliFault.{CliFault}
use Rattle.scenario_tables.specs.Tables.{TableFails, keys_in}
use Rattle.scenario_tables.proofs.listing.table_in.Goals as goal

pub returns-clause-fault : goal.returns-clause-fault
returns-clause-fault g c =
    let text = c.in-Ok.ensures.text in
    let shown = text.shows in
    subst (λ (fault : CliFault). TableFails fault c.args.scenario.now c.args.version (option_map (λ (w : Bor (List ℕ)). w.now) c.args.service)) (sym c.in-Err-put_text.ensures.refused.0)
    (inr (record {
      meant = text.meant;
      means = text.means;
      why = (map key_of shown.version.services.items, shown.key, ap (λ (v : Option Version). keys_in v) shown.of_number, shown.of_word);
    }))

pub returns-clause-place : goal.returns-clause-place
returns-clause-place g c = inr ((c.in-Ok.ensures.text.meant, c.in-Ok.ensures.text.means), refl)
