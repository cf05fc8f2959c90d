use Rattle.std.proofs.Common.{◌≡◌, ap, subst, length, ℕ, ◌-◌, ◌<◌, take, vec_len, ◌∙◌, sym, rules, arith, List, ◌∷◌}
use Rattle.connection_table.specs.Touches.{Touch}
use Rattle.connection_table.proofs.Places.{missing, placed, stored_at, stored_new, stored_full, none_there}
use Rattle.connection_table.proofs.plain.put.Goals as goal

pub returns-in_err-reserve-in-None-clause-there : goal.returns-in_err-reserve-in-None-clause-there
returns-in_err-reserve-in-None-clause-there c = none_there _ _ (missing c.args.flow c.args.pairs.now.items (search rules)).0

pub returns-in-Some-clause-ok : goal.returns-in-Some-clause-ok
returns-in-Some-clause-ok c =
    placed _ c.remove.new.self.items (c.args.flow, c.args.entry) _ c.insert.ensures.items (c.insert.ensures.succeeds (omega arith))
    ∙ ap (λ (l : List Touch). (c.args.flow, c.args.entry) ∷ l) c.remove.ensures.items
    ∙ stored_at c.args.flow c.args.entry c.args.pairs.now.items c.in-Some.i c.args.limit (search rules)

pub returns-then-len-limit-clause-ok : goal.returns-then-len-limit-clause-ok
returns-then-len-limit-clause-ok c =
    let e : vec_len c.args.pairs.now ≡ c.args.limit = sym c.len.ensures ∙ c.if-len-limit.true in
    placed _ c.pop.new.self.items (c.args.flow, c.args.entry) _ c.insert-then-len-limit.ensures.items (c.insert-then-len-limit.ensures.succeeds (grind arith))
    ∙ ap (λ (l : List Touch). (c.args.flow, c.args.entry) ∷ l) (c.pop.ensures.rest ∙ ap (λ (n : ℕ). take (n - 1) c.args.pairs.now.items) e)
    ∙ stored_full c.args.flow c.args.entry c.args.pairs.now.items c.args.limit (search rules) c.requires.limit

pub returns-in_ok-reserve-in-None-clause-ok : goal.returns-in_ok-reserve-in-None-clause-ok
returns-in_ok-reserve-in-None-clause-ok c =
    placed _ c.reserve.new.self.items (c.args.flow, c.args.entry) _ c.insert-else-len-limit.ensures.items (c.insert-else-len-limit.ensures.succeeds (omega (arith, c.in_ok-reserve-in-None.ensures.ok)))
    ∙ ap (λ (l : List Touch). (c.args.flow, c.args.entry) ∷ l) c.reserve.ensures.items
    ∙ stored_new c.args.flow c.args.entry c.args.pairs.now.items c.args.limit (search rules) (subst (λ (l : List Touch). length l < c.args.limit) c.deref.ensures.value (omega arith))
