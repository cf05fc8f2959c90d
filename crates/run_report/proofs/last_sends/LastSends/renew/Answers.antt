use Rattle.std.proofs.Common.{◌≡◌, ℕ, ◌+◌, refl, sym, ap, ◌∙◌, subst, length, Option, Some, arith}
use Rattle.std.specs.Prelude.{IfSome, is_some, slice_get, if◌then◌else◌}
use Rattle.flow_map.specs.Maps.{value_of}
use Rattle.flow_map.proofs.Maps.{value_valued, length_valued}
use Rattle.cluster_node.specs.declared.outcomes.Outcome.{Outcome}
use Rattle.run_report.specs.declared.last_sends.LastSend.{LastSend}
use Rattle.run_report.specs.declared.last_sends.LastSends.{LastSends}
use Rattle.run_report.specs.declared.noted.Noted.{Noted}
use Rattle.run_report.specs.Splits.{sent_by}
use Rattle.run_report.specs.Books.{IsPlaceOf, RenewedAs}
use Rattle.run_report.proofs.Lasts.{last_more, first_is}
use Rattle.run_report.proofs.last_sends.LastSends.renew.Goals as goal

pub value_at-requires : goal.value_at-requires
value_at-requires g c =
    let old = c.args.self.now in
    let placed : IsPlaceOf c.in-Forward.flow old c.args.place =
    subst (λ (o : Outcome). IfSome (sent_by c.args.number c.args.event.now o) (λ s. IsPlaceOf s.flow old c.args.place)) c.in-Forward.is c.requires in
    subst (λ (p : Option ℕ). IsPlaceOf c.in-Forward.flow old p) c.in-Some.is placed

pub returns-clause-last : goal.returns-clause-last
returns-clause-last g c sent hit h =
    let old = c.args.self.now in
    let new : LastSends g.row.T.Denot = record old { sends = c.set.new.self } in
    let first = c.value_at.result.now in
    let flow = c.in-Forward.flow in
    let backend = c.in-Forward.backend in
    let later : Noted g.row.T.Denot = record {
      sending = record { number = c.args.number; flow = flow; version = c.version_of-version.result; backend = backend; origin = c.in-Forward.origin };
      beside = c.args.beside;
    } in
    let at : slice_get old.backends first.place ≡ Some backend = c.is_at.ensures.there c.if-not-is_at.false in
    let known : value_of flow old.sends ≡ Some first = c.value_at.ensures.known in
    let count : length old.sends + (if is_some (value_of flow old.sends) then 0 else 1) ≡ length old.sends =
    ap (λ (o : Option (LastSend g.row.T.Denot)). length old.sends + (if is_some o then 0 else 1)) known ∙ (let e : length old.sends + 0 ≡ length old.sends = omega arith in e) in
    subst (λ (o : Outcome). RenewedAs sent (sent_by c.args.number c.args.event.now o) c.args.beside old new) (sym c.in-Forward.is)
    (subst (λ (v : ℕ). RenewedAs sent (Some (record later.sending { version = v })) c.args.beside old new) c.version_of-version.ensures (
      _,
      first_is sent old flow first backend h known at,
      refl,
      last_more sent old new first.place later h (λ k b e. e) at (λ x. ap (value_of x) c.set.ensures ∙ value_valued flow x _ old.sends),
      ap length c.set.ensures ∙ length_valued flow _ old.sends ∙ count,
    ))
