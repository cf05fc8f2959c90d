use Rattle.std.proofs.Common.{arith, ◌≡◌, ℕ, ◌+◌, ◌-◌, ◌<◌, ◌∷◌, List, length, drop, get_or, ap, sym, ◌∙◌}
use Rattle.std.specs.HashMap.{get}
use Rattle.std.proofs.lemmas.List.{drop_more, length-drop}
use Rattle.pool_versions.specs.Pool.{same_key}
use Rattle.selection.specs.Readied.{ReadiedService}
use Rattle.selection.proofs.Places.{placed_put}
use Rattle.selection.proofs.prepared.places_of.Goals as goal

pub loop-behind-preserved : goal.loop-behind-preserved
loop-behind-preserved g c =
    let ss : List (ReadiedService g.row.S.Denot) = c.args.services.now in
    let within : c.loop-behind.behind < length ss = c.loop-behind-test.true in
    let at : ℕ = length ss - (c.loop-behind.behind + 1) in
    let s : ReadiedService g.row.S.Denot = c.index-services-services.result in
    let more : drop at ss ≡ get_or ss at s ∷ drop (at + 1) ss = drop_more ss at s (omega (arith, within)) in
    let next : at + 1 ≡ length ss - c.loop-behind.behind = omega (arith, within) in
    let one : get_or ss at s ≡ s = ap (λ (n : ℕ). get_or ss n s) (let e : at ≡ length ss - 1 - c.loop-behind.behind = omega (arith, within) in e) ∙ sym c.index-services-services.is in
    placed_put (get same_key c.loop-behind.places) (get same_key c.insert.new.self) s (drop (length ss - c.loop-behind.behind) ss) (drop at ss) c.key.result c.loop-behind.behind c.loop-behind.invariant c.key.ensures
    (omega (arith, within, length-drop (length ss - c.loop-behind.behind) ss))
    (λ k. c.in_ok-insert.ensures.updates.0 k)
    (more ∙ ap (λ (x : ReadiedService g.row.S.Denot). x ∷ drop (at + 1) ss) one ∙ ap (λ (n : ℕ). s ∷ drop n ss) next)
