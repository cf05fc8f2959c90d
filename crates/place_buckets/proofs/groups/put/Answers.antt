use Rattle.std.proofs.Common.{rules, ◌≡◌, ◌<◌, ◌-◌, refl, ap, arith, length, get_or, set}
use Rattle.std.proofs.lemmas.List.{set-get_or}
use Rattle.place_buckets.specs.declared.lanes.TheConstants.{LANES}
use Rattle.place_buckets.specs.Groups.{nothing, no_group, hash_at, overflow_at}
use Rattle.place_buckets.proofs.Grouping.{linked_in_lane, linked_in_chain, same_hashes}
use Rattle.place_buckets.proofs.groups.put.Goals as goal

pub returns-in-Some-clause-grouped : goal.returns-in-Some-clause-grouped
unfolding hash_at
returns-in-Some-clause-grouped c = λ n few old.
    let long : length (get_or c.args.groups.now c.bucket.result no_group).tags ≡ LANES = search rules in
    let wide : length (get_or c.args.groups.now c.bucket.result no_group).places ≡ LANES = search rules in
    let found = c.in-Some.ensures.found in
    let small : c.in-Some.lane < LANES = found.0 in
    linked_in_lane _ _ _ _ _ _ _ _ (set-get_or c.args.links.now (c.args.place - 1) nothing) few c.bucket.ensures.within c.bucket.ensures.value small (omega arith) (omega arith) found.1 refl
    (ap (set _ c.in-Some.lane) c.tag.ensures) refl old

pub returns-in-None-clause-grouped : goal.returns-in-None-clause-grouped
unfolding hash_at overflow_at
returns-in-None-clause-grouped c = λ n few old.
    linked_in_chain _ _ _ _ _ _ _ c.requires.some c.requires.within few c.bucket.ensures.within c.bucket.ensures.value refl refl refl refl refl old

pub returns-in-None-clause-hashes : goal.returns-in-None-clause-hashes
returns-in-None-clause-hashes c =
    let some : 0 < c.args.place = c.requires.some in
    let low : c.args.place - 1 < length c.args.links.now = omega arith in
    same_hashes _ _ _ low refl
