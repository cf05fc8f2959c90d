use Rattle.std.proofs.Common.{◌≡◌, ◌++◌, drop}
use Rattle.selection.specs.Picks.{preferences}
use Rattle.selection.proofs.maglev.lists_of.Given as goal

abbrev pub invariant-loop-backend : goal.invariant-loop-backend
invariant-loop-backend g l = l.lists.items ++ preferences (g.H.FlowHash.plain l.hash) l.size (drop l.backend-index l.ups) ≡ preferences (g.H.FlowHash.plain l.hash) l.size l.ups
