use Rattle.std.proofs.Common.{rules, ◌≡◌, ◌<◌, ◌-◌, length, get_or, refl, arith}
use Rattle.std.proofs.lemmas.List.{set-get_or}
use Rattle.place_buckets.specs.declared.lanes.TheConstants.{LANES}
use Rattle.place_buckets.specs.Groups.{no_group, next_at, hash_at, overflow_at}
use Rattle.place_buckets.proofs.Grouping.{inside_of, unlinked_lane, unlinked_first, unlinked_next, same_hashes}
use Rattle.place_buckets.proofs.groups.unlink.Goals as goal

pub place_before-before-requires-clause-inside : goal.place_before-before-requires-clause-inside
unfolding hash_at overflow_at
place_before-before-requires-clause-inside c =
    inside_of _ _ _ _ _ c.requires.some c.requires.within c.bucket.ensures.within c.bucket.ensures.value c.in_default.ensures.absent c.requires.grouped

pub returns-in-Some-clause-grouped : goal.returns-in-Some-clause-grouped
unfolding hash_at
returns-in-Some-clause-grouped c =
    let wide : length (get_or c.args.groups.now c.bucket.result no_group).places ≡ LANES = search rules in
    let found = c.in-Some.ensures.found in
    let small : c.in-Some.lane < LANES = found.0 in
    unlinked_lane _ _ _ _ _ _ _ c.requires.some c.bucket.ensures.within c.bucket.ensures.value small (omega arith) found.1 refl refl refl c.requires.grouped

pub returns-then-group-place-clause-grouped : goal.returns-then-group-place-clause-grouped
unfolding next_at hash_at overflow_at
returns-then-group-place-clause-grouped c =
    unlinked_first _ _ _ _ _ _ c.requires.some c.bucket.ensures.within c.bucket.ensures.value c.in_default.ensures.absent c.if-group-place.true refl refl refl c.requires.grouped

pub returns-else-group-place-clause-grouped : goal.returns-else-group-place-clause-grouped
unfolding next_at hash_at overflow_at
returns-else-group-place-clause-grouped c =
    let before = c.place_before-before.ensures in
    unlinked_next _ _ _ _ _ _ _ _ (set-get_or c.args.groups.now c.bucket.result no_group) c.requires.some before.some before.within c.bucket.ensures.within c.bucket.ensures.value c.in_default.ensures.absent before.next before.among refl refl c.requires.grouped

pub returns-else-group-place-clause-hashes : goal.returns-else-group-place-clause-hashes
returns-else-group-place-clause-hashes c =
    let some : 0 < c.place_before-before.result = c.place_before-before.ensures.some in
    let low : c.place_before-before.result - 1 < length c.args.links.now = omega arith in
    same_hashes _ _ _ low refl
