use Rattle.std.proofs.Common.{take}
use Rattle.std.specs.Prelude.{◌||◌}
use Rattle.std.specs.List.{list_any}
use Rattle.shared_versions.specs.Installed.{installs}
use Rattle.shared_versions.proofs.Wanted.{wanted_taken}
use Rattle.shared_versions.proofs.shared.SharedVersions.add_all.Goals as goal

pub loop-command-preserved : goal.loop-command-preserved
loop-command-preserved g c = λ wanted had.
    let i = c.loop-command.command-index in
    let cs = c.args.commands.now in
    wanted_taken c.args.setup.now.scheme c.args.setup.now.size c.args.catalogue.now wanted cs i _ c.take.new.self c.loop-command-test.true
    (c.in_ok-take.ensures (λ n. wanted n || list_any (installs n) (take i cs)) (c.loop-command.invariant wanted had))
