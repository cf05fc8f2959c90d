use Rattle.std.proofs.Common.{ℕ, ◌<◌, ◌≤◌, ◌∙◌, sym, subst, length, false}
use borrow.Author.Rules.{of_calls}
use Rattle.place_buckets.specs.Groups.{lane_at, overflow_at}
use Rattle.place_buckets.proofs.Grouping.{chain_of, nowhere, none_then}
use Rattle.place_buckets.proofs.groups.find.Goals as goal

pub find_in_lanes-requires : goal.find_in_lanes-requires
unfolding lane_at
find_in_lanes-requires g c = record {
  callable = λ i small some.
      let low : lane_at c.args.groups.now c.bucket.result i ≤ length c.args.links.now = c.requires.grouped.laned.among c.bucket.result i c.bucket.ensures.within small some in
      search (of_calls, c.requires.callable _ some low);
}

pub returns-in-Some-clause-found : goal.returns-in-Some-clause-found
unfolding lane_at
returns-in-Some-clause-found g c =
    let found = c.in-Some.ensures.found in
    let some : 0 < lane_at c.args.groups.now c.bucket.result found.0 = subst (λ (p : ℕ). 0 < p) found.2 found.3 in
    let low : lane_at c.args.groups.now c.bucket.result found.0 ≤ length c.args.links.now = c.requires.grouped.laned.among c.bucket.result found.0 c.bucket.ensures.within found.1 some in
    (found.3, subst (λ (p : ℕ). p ≤ length c.args.links.now) (sym found.2) low, found.4)

pub find_in_chain-requires-clause-chain : goal.find_in_chain-requires-clause-chain
unfolding overflow_at
find_in_chain-requires-clause-chain g c = chain_of _ _ _ _ c.bucket.ensures.within c.requires.grouped

pub returns-clause-absent : goal.returns-clause-absent
unfolding overflow_at
returns-clause-absent g c =
    none_then c.find_in_chain.result
    (λ chain. nowhere _ _ _ _ _ (λ p. goal.F-post g c.args.is_sought p false) c.bucket.ensures.within c.bucket.ensures.value
    (λ i small tagged some. c.in_default.ensures.absent i small (tagged ∙ sym c.tag.ensures) some) chain c.requires.grouped)
    c.find_in_chain.ensures.absent
