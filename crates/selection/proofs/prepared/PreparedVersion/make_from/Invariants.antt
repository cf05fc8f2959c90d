use Rattle.std.proofs.Common.{◌≡◌, ◌++◌, map, drop}
use Rattle.selection.specs.Readied.{readied_of}
use Rattle.selection.proofs.prepared.PreparedVersion.make_from.Given as goal

abbrev pub invariant-loop-service : goal.invariant-loop-service
invariant-loop-service g l = l.services.items ++ map (readied_of l.scheme l.size) (drop l.service-index l.version.services.items) ≡ map (readied_of l.scheme l.size) l.version.services.items
