use Rattle.std.proofs.Common.{◌≡◌, IfSome, subst}
use Rattle.selection.specs.Readied.{Readied, ready_for}
use Rattle.selection.proofs.Versions.{AreFor_found, own_from_copied}
use Rattle.selection.proofs.prepared.PreparedVersion.ready.Goals as goal

pub returns-clause-own : goal.returns-clause-own
returns-clause-own g c =
    own_from_copied (λ r. (r.scheme ≡ c.args.self.now.scheme) × (r.size ≡ c.args.self.now.size)) c.first.result _ c.first.ensures
    (subst (λ (z : Readied g.row.S.Denot). IfSome (ready_for c.args.flow.now z.services) (λ r. (r.scheme ≡ z.scheme) × (r.size ≡ z.size))) c.self.view_is (AreFor_found c.self.inside.scheme c.self.inside.size c.args.flow.now c.self.inside.services.items c.self.invariant.0))
