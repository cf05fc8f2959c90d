use Rattle.std.proofs.Common.{map, take}
use Rattle.shared_versions.specs.Installed.{is_installed, AreWanted}
use Rattle.shared_versions.proofs.shared.SharedVersions.prepare.Given as goal

abbrev pub invariant-loop-list : goal.invariant-loop-list
invariant-loop-list g l = AreWanted l.setup.scheme l.setup.size l.catalogue (is_installed (map (λ c. c.items) (take l.list-index l.commands))) l.shared
