use Rattle.std.proofs.Common.{ℕ, Bool, take}
use Rattle.std.specs.Prelude.{◌||◌}
use Rattle.std.specs.List.{list_any}
use Rattle.shared_versions.specs.Installed.{installs, AreWanted}
use Rattle.shared_versions.proofs.shared.SharedVersions.add_all.Given as goal

abbrev pub invariant-loop-command : goal.invariant-loop-command
invariant-loop-command g l = (wanted : ℕ → Bool) → AreWanted l.setup.scheme l.setup.size l.catalogue wanted l.initial.self → AreWanted l.setup.scheme l.setup.size l.catalogue (λ n. wanted n || list_any (installs n) (take l.command-index l.commands)) l.self
