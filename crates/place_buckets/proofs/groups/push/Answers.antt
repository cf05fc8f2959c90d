use Rattle.std.proofs.Common.{◌≡◌, ◌+◌, ◌++◌, ◌∷◌, [], ◌∙◌, List, ℕ, length, take, drop, sym, ap, subst, arith}
use Rattle.std.proofs.Math.Seq.{take-append_seam}
use Rattle.std.proofs.lemmas.List.{length_push}
use Rattle.place_buckets.specs.declared.groups.Link.{Link}
use Rattle.place_buckets.specs.Groups.{AreGrouped}
use Rattle.place_buckets.proofs.Grouping.{but_last, pushed}
use Rattle.place_buckets.proofs.groups.push.Goals as goal

-- a vector whose whole slice was written
whole : {A : Type 0} (len : ℕ) (new old : List A) → len ≡ length new → take len (new ++ drop (length new) old) ≡ new
whole len new old is = ap (λ (k : ℕ). take k (new ++ drop (length new) old)) is ∙ take-append_seam new (drop (length new) old)

pub returns-clause-grouped : goal.returns-clause-grouped
returns-clause-grouped c =
    let n : ℕ = c.len.result + 1 in
    let last : length c.args.links.now.items + 1 ≡ n = omega arith in
    let items = c.as_mut_slice.ensures.value ∙ c.push_reserved.ensures.items ∙ ap (λ (ls : List Link). ls ++ record { hash = c.args.hash; next = 0 } ∷ []) c.reserve_link.ensures.same in
    let many : length c.as_mut_slice.result.now ≡ n = ap length items ∙ length_push c.args.links.now.items _ ∙ last in
    let long : length c.put.new.links ≡ n = omega (arith, many) in
    let held = c.put.ensures.grouped n (omega arith) (but_last _ _ _ n last (pushed _ _ _ _ items c.requires.grouped)) in
    let written = whole c.push_reserved.new.self.len c.put.new.links c.push_reserved.new.self.items (omega arith) in
    let there : AreGrouped c.put.new.groups c.put.new.links (length c.put.new.links) = subst (λ (k : ℕ). AreGrouped c.put.new.groups c.put.new.links k) (sym long) held in
    subst (λ (ls : List Link). AreGrouped c.put.new.groups ls (length ls)) (sym written) there
