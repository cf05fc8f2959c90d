-- Where nothing ends nothing begins.
use Rattle.std.proofs.Common.{◌≡◌, ℕ, ◌+◌, Bool, true, false, List, [], ◌∷◌, None, refl, ap, ◌∙◌}
use Rattle.std.specs.Prelude.{◌&&◌, ◌||◌, not, if◌then◌else◌}
use Rattle.std.specs.List.{All}
use Rattle.std.proofs.lemmas.List.Elements.{All-head, All-tail}
use Rattle.five_tuple.specs.declared.Flow.{Flow}
use Rattle.connection_table.specs.Touches.{same_flow}
use Rattle.connection_starts.specs.declared.segment.Segment.{Segment}
use Rattle.connection_starts.specs.Segments.{opens, closes}
use Rattle.connection_starts.specs.Ordinals.{is_over, begins_again, starts_of}
use Rattle.connection_starts.specs.Laws.{NothingEndsNothingBegins}

both : (o : Bool) → (o && (false || false)) ≡ false
both true = refl
both false = refl

beside : (b : Bool) → (b && false) ≡ false
beside true = refl
beside false = refl

never_over : (past : List Segment) → All (λ s. closes s.flags ≡ false) past → (x : Flow) → is_over past x ≡ false
never_over [] all x = refl
never_over (s ∷ past) all x = go (never_over past (All-tail (λ s. closes s.flags ≡ false) s past all) x) (same_flow s.flow x)
  where
    go : is_over past x ≡ false → (b : Bool) → (if b then closes s.flags || (is_over past x && not (opens s.flags)) else is_over past x) ≡ false
    go older true = ap (λ (c : Bool). c || (is_over past x && not (opens s.flags))) (All-head (λ s. closes s.flags ≡ false) s past all) ∙ ap (λ (o : Bool). o && not (opens s.flags)) older
    go older false = older

never_begins : (past : List Segment) → All (λ s. closes s.flags ≡ false) past → (s : Segment) → begins_again None past s ≡ false
never_begins past all s = ap (λ (o : Bool). opens s.flags && (o || false)) (never_over past all s.flow) ∙ both (opens s.flags)

pub quiet : NothingEndsNothingBegins
quiet [] all x = refl
quiet (s ∷ past) all x =
    let rest = All-tail (λ s. closes s.flags ≡ false) s past all in
    ap (λ (b : Bool). starts_of None past x + (if same_flow s.flow x && b then 1 else 0)) (never_begins past rest s)
    ∙ ap (λ (b : Bool). starts_of None past x + (if b then 1 else 0)) (beside (same_flow s.flow x))
    ∙ ap (λ (n : ℕ). n + 0) (quiet past rest x)
