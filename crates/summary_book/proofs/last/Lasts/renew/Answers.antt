use Rattle.std.proofs.Common.{◌≡◌, ℕ, ◌+◌, ap, ◌∙◌, subst, length, Option, Some, arith}
use Rattle.std.specs.Prelude.{is_some, slice_get, if◌then◌else◌}
use Rattle.flow_map.specs.Maps.{value_of}
use Rattle.flow_map.proofs.Maps.{value_valued, length_valued}
use Rattle.summary_book.specs.declared.last.Last.{Last}
use Rattle.summary_book.specs.declared.last.Lasts.{Lasts}
use Rattle.summary_book.specs.Lasts.{IsPlaceOf}
use Rattle.summary_book.proofs.Lasts.{last_more, first_is}
use Rattle.summary_book.proofs.last.Lasts.renew.Goals as goal

pub value_at-requires : goal.value_at-requires
value_at-requires c = subst (λ (p : Option ℕ). IsPlaceOf c.args.later.now.flow c.args.self.now p) c.in-Some.is c.requires

pub returns-clause-last : goal.returns-clause-last
returns-clause-last c sent hit h =
    let old = c.args.self.now in
    let new : Lasts = record old { sends = c.set.new.self } in
    let last = c.value_at.result.now in
    let later = c.args.later.now in
    let at : slice_get old.backends last.place ≡ Some later.backend = c.is_at.ensures.there c.if-not-is_at.false in
    let known : value_of later.flow old.sends ≡ Some last = c.value_at.ensures.known in
    let count : length old.sends + (if is_some (value_of later.flow old.sends) then 0 else 1) ≡ length old.sends =
    ap (λ (o : Option Last). length old.sends + (if is_some o then 0 else 1)) known ∙ (let e : length old.sends + 0 ≡ length old.sends = omega arith in e) in
    let first = first_is sent old later.flow last later.backend h known at in
    record {
      first = first.0;
      was = first.1;
      same = first.2;
      last = last_more sent old new last.place later h (λ k b e. e) at (λ x. ap (value_of x) c.set.ensures ∙ value_valued later.flow x _ old.sends);
      flows = ap length c.set.ensures ∙ length_valued later.flow _ old.sends ∙ count;
    }
