use Rattle.std.proofs.Common.{arith, List, ◌∷◌, ◌++◌, [], reverse, ap, sym, ◌∙◌, subst, nat_eq}
use Rattle.std.proofs.lemmas.List.{length-reverse}
use Rattle.std.specs.Map.{lookup}
use Rattle.std.specs.HashMap.{get}
use Rattle.selection.specs.Places.{AreNumbered}
use Rattle.selection.specs.Readied.{Readied}
use Rattle.selection.proofs.Places.{numbered_put, mirrored_put, if_ok}
use Rattle.selection.proofs.numbered.PreparedVersions.put.Goals as goal

pub invariant_of-self : goal.invariant_of-self
invariant_of-self g c = subst (λ (ps : List (Readied g.row.S.Denot)). AreNumbered (get nat_eq c.self.inside.places) (reverse ps)) (sym c.reserve.ensures.items) c.self.invariant

pub invariant_of-self-in_err-insert : goal.invariant_of-self-in_err-insert
invariant_of-self-in_err-insert g c =
    subst (λ (ps : List (Readied g.row.S.Denot)). AreNumbered (get nat_eq c.insert.new.self) (reverse ps)) (sym c.reserve.ensures.items) (λ n. ap (λ es. lookup (nat_eq n) es) c.in_err-insert.ensures.err ∙ c.self.invariant n)

pub invariant_of-self-2 : goal.invariant_of-self-2
invariant_of-self-2 g c =
    let before = c.self.inside.versions.items in
    let pushed = if_ok c.push.result (c.reserve.new.self.items ++ c.args.version ∷ []) c.reserve.new.self.items c.push.new.self.items (c.push.ensures.succeeds (omega (arith, c.in_ok-reserve.ensures.ok))) c.push.ensures.items in
    numbered_put (get nat_eq c.self.inside.places) (get nat_eq c.insert.new.self) c.args.version (reverse before) (reverse c.push.new.self.items) c.number.result c.len.result c.self.invariant c.number.ensures
    (omega (arith, length-reverse before, c.len.ensures, c.reserve.ensures.len, c.self.inside.versions.ok.0))
    (λ n. c.in_ok-insert.ensures.updates.0 n)
    (ap (λ (ps : List (Readied g.row.S.Denot)). reverse ps) (pushed ∙ ap (λ (ps : List (Readied g.row.S.Denot)). ps ++ c.args.version ∷ []) c.reserve.ensures.items) ∙ mirrored_put before c.args.version)
