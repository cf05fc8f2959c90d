use Rattle.std.proofs.Common.{◌<◌, ◌≤◌, subst, arith, length}
use borrow.Author.Rules.{of_calls}
use Rattle.place_buckets.specs.Groups.{next_at, hash_at}
use Rattle.place_buckets.proofs.Seeking.{left_first, left_more, left_none}
use Rattle.place_buckets.proofs.groups.find_in_chain.Goals as goal
use Rattle.place_buckets.proofs.groups.find_in_chain.Goals.{else-link-hash-via-then-link-hash+else-is_sought, else-link-hash-via-else-link-hash}

pub loop-place-init : goal.loop-place-init
loop-place-init g c = left_first _ _ _ _ _ _ c.requires.chain

pub bounds-links-place : goal.bounds-links-place
bounds-links-place g c =
    let low : c.loop-place.place ≤ length c.args.links.now = (left_more _ _ _ _ _ c.loop-place.invariant c.loop-place-test.true).low in
    let pos : 0 < c.loop-place.place = omega (arith, c.loop-place-test.true) in
    omega arith

pub is_sought-requires : goal.is_sought-requires
is_sought-requires g c =
    let low : c.loop-place.place ≤ length c.args.links.now = (left_more _ _ _ _ _ c.loop-place.invariant c.loop-place-test.true).low in
    let pos : 0 < c.loop-place.place = omega (arith, c.loop-place-test.true) in
    search (of_calls, c.requires.callable _ pos low)

pub returns-then-is_sought-clause-found : goal.returns-then-is_sought-clause-found
returns-then-is_sought-clause-found g c =
    let low : c.loop-place.place ≤ length c.args.links.now = (left_more _ _ _ _ _ c.loop-place.invariant c.loop-place-test.true).low in
    let pos : 0 < c.loop-place.place = omega (arith, c.loop-place-test.true) in
    (pos, low, subst (goal.F-post g c.args.is_sought.now c.loop-place.place) c.if-is_sought.true c.is_sought.ensures)

pub loop-place-smaller : goal.loop-place-smaller
unfolding next_at
loop-place-smaller g c = (left_more _ _ _ _ _ c.loop-place.invariant c.loop-place-test.true).falls

pub loop-place-preserved : goal.loop-place-preserved
unfolding next_at hash_at
loop-place-preserved g c =
    elim c.else-link-hash.branch [
      | else-link-hash-via-then-link-hash+else-is_sought w ↦
          (left_more _ _ _ _ _ c.loop-place.invariant c.loop-place-test.true).more (λ _. subst (goal.F-post g c.args.is_sought.now c.loop-place.place) w.if-is_sought.false w.is_sought.ensures)
      | else-link-hash-via-else-link-hash w ↦ (left_more _ _ _ _ _ c.loop-place.invariant c.loop-place-test.true).more (λ m. absurd (w.if-link-hash.false m.0))
    ]

pub returns-clause-absent : goal.returns-clause-absent
returns-clause-absent g c = λ p there is. left_none _ _ _ _ _ c.loop-place.invariant c.loop-place-test.false p (is, there)
