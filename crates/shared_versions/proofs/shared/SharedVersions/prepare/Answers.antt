use Rattle.std.proofs.Common.{◌+◌, List, map, take, ap, ◌∙◌, subst, arith}
use Rattle.std.specs.Prelude.{◌||◌}
use Rattle.std.specs.List.{list_any}
use Rattle.std.proofs.lemmas.List.{take_all}
use Rattle.thread_records.specs.declared.command.Command.{Command}
use Rattle.shared_versions.specs.Installed.{installs, is_installed, AreWanted}
use Rattle.shared_versions.proofs.Wanted.{wanted_same, installed_more}
use Rattle.shared_versions.proofs.shared.SharedVersions.prepare.Goals as goal

pub loop-list-preserved : goal.loop-list-preserved
loop-list-preserved g c =
    let i = c.loop-list.list-index in
    let before = is_installed (map (λ l. l.items) (take i c.args.commands.now)) in
    wanted_same c.args.setup.now.scheme c.args.setup.now.size c.args.catalogue.now
    (λ n. before n || list_any (installs n) c.as_slice.result.now) (is_installed (map (λ l. l.items) (take (i + 1) c.args.commands.now))) c.add_all.new.self
    (λ n. ap (λ (cs : List Command). before n || list_any (installs n) cs) c.as_slice.ensures.value ∙ installed_more (λ l. l.items) c.args.commands.now i c.list-item.result c.loop-list-test.true c.list-item.is n)
    (c.in_ok-add_all.ensures before c.loop-list.invariant)

pub returns : goal.returns
returns g c = subst (λ vs. AreWanted c.args.setup.now.scheme c.args.setup.now.size c.args.catalogue.now (is_installed (map (λ l. l.items) vs)) c.loop-list.shared) (take_all c.loop-list.list-index c.args.commands.now (omega arith)) c.loop-list.invariant
