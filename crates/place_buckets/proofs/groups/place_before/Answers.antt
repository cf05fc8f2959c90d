use Rattle.std.proofs.Common.{◌<◌, ◌≤◌, arith, length}
use Rattle.place_buckets.specs.Groups.{next_at}
use Rattle.place_buckets.proofs.Seeking.{nearing_first, nearing_above, nearing_low, nearing_falls, nearing_more}
use Rattle.place_buckets.proofs.groups.place_before.Goals as goal

pub loop-first-init : goal.loop-first-init
loop-first-init c = nearing_first _ _ _ _ c.requires.inside c.requires.behind

pub bounds-links-before : goal.bounds-links-before
bounds-links-before c =
    let pos : 0 < c.loop-first.before = nearing_above _ _ _ _ _ c.loop-first.invariant in
    let low : c.loop-first.before ≤ length c.args.links.now = nearing_low _ _ _ _ _ c.loop-first.invariant in
    omega arith

pub returns-then-next-place-clause-next : goal.returns-then-next-place-clause-next
unfolding next_at
returns-then-next-place-clause-next c = c.if-next-place.true

pub returns-then-next-place-clause-within : goal.returns-then-next-place-clause-within
returns-then-next-place-clause-within c = nearing_low _ _ _ _ _ c.loop-first.invariant

pub loop-first-smaller : goal.loop-first-smaller
unfolding next_at
loop-first-smaller c = nearing_falls _ _ _ _ _ c.loop-first.invariant

pub loop-first-preserved : goal.loop-first-preserved
unfolding next_at
loop-first-preserved c = nearing_more _ _ _ _ _ c.loop-first.invariant c.if-next-place.false
