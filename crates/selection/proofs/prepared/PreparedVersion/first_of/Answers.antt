use Rattle.std.proofs.Common.{arith, ◌≡◌, ℕ, ◌-◌, ◌<◌, Some, None, List, length, option_copied, slice_get, ap, sym, ◌∙◌, subst}
use Rattle.std.specs.HashMap.{get}
use Rattle.five_tuple.specs.declared.Flow.{Flow}
use Rattle.pool_versions.specs.declared.key.ServiceKey.{ServiceKey}
use Rattle.pool_versions.specs.Pool.{same_key}
use Rattle.selection.specs.Places.{behind_first}
use Rattle.selection.specs.Readied.{Readied, ReadiedService, ready_for, serves_readied}
use Rattle.selection.proofs.Places.{none_first, behind_below, first_is_there, flow_of, key_of_flow_of, got}
use Rattle.selection.proofs.prepared.PreparedVersion.first_of.Goals as goal

pub overflow_sub-len : goal.overflow_sub-len
overflow_sub-len g c =
    let x : Flow = flow_of c.args.key in
    let here : behind_first (serves_readied x) c.self.inside.services.items ≡ Some c.in-Some.behind.now =
    sym (c.self.invariant.1 x) ∙ ap (λ (k : ServiceKey). get same_key c.self.inside.places k) (sym (key_of_flow_of c.args.key)) ∙ sym c.get.ensures.value ∙ ap option_copied c.in-Some.is in
    let low : c.in-Some.behind.now < length c.self.inside.services.items = behind_below (serves_readied x) c.self.inside.services.items c.in-Some.behind.now here in
    omega (arith, low, c.len.ensures, c.deref.ensures.len, ap (λ (ss : List (ReadiedService g.row.S.Denot)). length ss) c.deref.ensures.value)

pub overflow_sub-len-in-Some : goal.overflow_sub-len-in-Some
overflow_sub-len-in-Some g c =
    let x : Flow = flow_of c.args.key in
    let here : behind_first (serves_readied x) c.self.inside.services.items ≡ Some c.in-Some.behind.now =
    sym (c.self.invariant.1 x) ∙ ap (λ (k : ServiceKey). get same_key c.self.inside.places k) (sym (key_of_flow_of c.args.key)) ∙ sym c.get.ensures.value ∙ ap option_copied c.in-Some.is in
    let low : c.in-Some.behind.now < length c.self.inside.services.items = behind_below (serves_readied x) c.self.inside.services.items c.in-Some.behind.now here in
    omega (arith, low, c.len.ensures, c.deref.ensures.len, ap (λ (ss : List (ReadiedService g.row.S.Denot)). length ss) c.deref.ensures.value)

pub returns-in-None : goal.returns-in-None
returns-in-None g c x is =
    let here : behind_first (serves_readied x) c.self.inside.services.items ≡ None =
    sym (c.self.invariant.1 x) ∙ ap (λ (k : ServiceKey). get same_key c.self.inside.places k) (sym is) ∙ sym c.get.ensures.value ∙ ap option_copied c.in-None.is in
    subst (λ (p : Readied g.row.S.Denot). None ≡ ready_for x p.services) c.self.view_is (sym (none_first (serves_readied x) c.self.inside.services.items here))

pub returns-in-Some : goal.returns-in-Some
returns-in-Some g c x is =
    let here : behind_first (serves_readied x) c.self.inside.services.items ≡ Some c.in-Some.behind.now =
    sym (c.self.invariant.1 x) ∙ ap (λ (k : ServiceKey). get same_key c.self.inside.places k) (sym is) ∙ sym c.get.ensures.value ∙ ap option_copied c.in-Some.is in
    let count : c.len.result ≡ length c.self.inside.services.items = omega (arith, c.len.ensures, c.deref.ensures.len, ap (λ (ss : List (ReadiedService g.row.S.Denot)). length ss) c.deref.ensures.value) in
    let at : option_copied c.get-in-Some.result ≡ slice_get c.self.inside.services.items (length c.self.inside.services.items - 1 - c.in-Some.behind.now) =
    got c.deref.result.now (c.len.result - 1 - c.in-Some.behind.now) c.get-in-Some.result c.get-in-Some.ensures.lookup
    ∙ ap (λ (ss : List (ReadiedService g.row.S.Denot)). slice_get ss (c.len.result - 1 - c.in-Some.behind.now)) c.deref.ensures.value
    ∙ ap (λ (n : ℕ). slice_get c.self.inside.services.items (n - 1 - c.in-Some.behind.now)) count in
    subst (λ (p : Readied g.row.S.Denot). option_copied c.get-in-Some.result ≡ ready_for x p.services) c.self.view_is (at ∙ first_is_there (serves_readied x) c.self.inside.services.items c.in-Some.behind.now here)
