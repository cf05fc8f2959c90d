use Rattle.std.proofs.Common.{◌≡◌, ◌≤◌, ◌-◌, ◌∙◌, List, ℕ, length, ap, sym, subst, arith, set}
use Rattle.std.proofs.lemmas.List.{length-set, map-set}
use Rattle.place_buckets.specs.declared.groups.Link.{Link}
use Rattle.place_buckets.specs.Groups.{hash_of, AreGrouped}
use Rattle.place_buckets.proofs.Grouping.{other_hash}
use Rattle.place_buckets.proofs.groups.rehash.Goals as goal

pub returns-clause-grouped : goal.returns-clause-grouped
returns-clause-grouped c =
    let low : c.args.place ≤ length c.unlink.new.links = omega arith in
    let long : length c.put.new.links ≡ length c.args.links.now = omega (arith, length-set {A = Link}) in
    let held = c.put.ensures.grouped (length c.args.links.now) c.requires.within (other_hash _ _ _ _ _ c.requires.some low c.unlink.ensures.grouped) in
    subst (λ (n : ℕ). AreGrouped c.put.new.groups c.put.new.links n) (sym long) held

pub returns-clause-hashes : goal.returns-clause-hashes
returns-clause-hashes c =
    c.put.ensures.hashes ∙ map-set hash_of _ _ _ ∙ ap (λ (hs : List ℕ). set hs (c.args.place - 1) c.args.hash) c.unlink.ensures.hashes
