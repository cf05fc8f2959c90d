use Rattle.std.proofs.Common.{◌≡◌, sym, rules}
use Rattle.std.specs.Arc.{arc_value}
use Rattle.selection.specs.Kept.{owners_of}
use Rattle.selection.proofs.Sharing.{renamed, renamed_full}
use Rattle.selection.proofs.maglev.Maglev.renamed.Goals as goal

pub invariant_of-result : goal.invariant_of-result
invariant_of-result g c =
    let owners : c.args.like.now.owners ≡ owners_of (arc_value c.in-Ok.slots) = search rules in
    rw (c.in_ok-ups.ensures.items, sym owners) (renamed_full (g.H.FlowHash.plain c.args.self.now.hash) c.args.size c.requires.others c.args.ups.now c.args._weights.now c.args.like.now c.requires.named c.requires.holds)

pub returns-clause-table : goal.returns-clause-table
returns-clause-table g c =
    let owners : c.args.like.now.owners ≡ owners_of (arc_value c.in-Ok.slots) = search rules in
    rw (c.in_ok-ups.ensures.items, sym owners) (renamed (g.H.FlowHash.plain c.args.self.now.hash) c.args.size c.requires.others c.args.ups.now c.args._weights.now c.args.like.now c.requires.named c.requires.holds)
