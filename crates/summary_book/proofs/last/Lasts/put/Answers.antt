use Rattle.std.proofs.Common.{ℕ, ◌+◌, Bool, length, ap, ◌∙◌, subst, Option}
use Rattle.std.specs.Prelude.{if◌then◌else◌}
use Rattle.flow_map.specs.Maps.{value_of}
use Rattle.flow_map.proofs.Maps.{value_valued, length_valued}
use Rattle.summary_book.specs.Lasts.{IsPlaceOf}
use Rattle.summary_book.proofs.Lasts.{first_told, no_last, last_more, same_some}
use Rattle.summary_book.proofs.last.Lasts.put.Goals as goal

pub push-requires : goal.push-requires
push-requires c = subst (λ (p : Option ℕ). IsPlaceOf c.args.later.now.flow c.args.self.now p) c.in-None.is c.requires

pub value_at-requires : goal.value_at-requires
value_at-requires c = subst (λ (p : Option ℕ). IsPlaceOf c.args.later.now.flow c.args.self.now p) c.in-Some.is c.requires

pub returns-in_ok-push-in-None-clause-first : goal.returns-in_ok-push-in-None-clause-first
returns-in_ok-push-in-None-clause-first c sent h =
    no_last sent c.args.self.now c.args.later.now.flow h (subst (λ (p : Option ℕ). IsPlaceOf c.args.later.now.flow c.args.self.now p) c.in-None.is c.requires)

pub returns-in_ok-push-in-None-clause-last : goal.returns-in_ok-push-in-None-clause-last
returns-in_ok-push-in-None-clause-last c sent h =
    last_more sent c.args.self.now _ _ c.args.later.now h c.in_ok-there.ensures.others c.in_ok-there.ensures.place
    (λ x. ap (value_of x) c.in_ok-push-in-None.ensures.ok ∙ value_valued c.args.later.now.flow x _ c.args.self.now.sends)

pub returns-in_ok-push-in-None-clause-flows : goal.returns-in_ok-push-in-None-clause-flows
returns-in_ok-push-in-None-clause-flows c sent h =
    let sends = c.args.self.now.sends in
    let flow = c.args.later.now.flow in
    ap length c.in_ok-push-in-None.ensures.ok ∙ length_valued flow _ sends ∙ ap (λ (b : Bool). length sends + (if b then 0 else 1)) (same_some sent c.args.self.now flow h)

pub returns-in-Some-clause-first : goal.returns-in-Some-clause-first
returns-in-Some-clause-first c sent h =
    c.told.ensures ∙ first_told sent c.args.self.now _ c.args.later.now.flow c.value_at.result.now h c.in_ok-there.ensures.others c.value_at.ensures.known

pub returns-in-Some-clause-last : goal.returns-in-Some-clause-last
returns-in-Some-clause-last c sent h =
    last_more sent c.args.self.now _ _ c.args.later.now h c.in_ok-there.ensures.others c.in_ok-there.ensures.place
    (λ x. ap (value_of x) c.set.ensures ∙ value_valued c.args.later.now.flow x _ c.args.self.now.sends)

pub returns-in-Some-clause-flows : goal.returns-in-Some-clause-flows
returns-in-Some-clause-flows c sent h =
    let sends = c.args.self.now.sends in
    let flow = c.args.later.now.flow in
    ap length c.set.ensures ∙ length_valued flow _ sends ∙ ap (λ (b : Bool). length sends + (if b then 0 else 1)) (same_some sent c.args.self.now flow h)
