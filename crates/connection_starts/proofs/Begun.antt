-- What is known of a flow after one segment more.
use Rattle.std.proofs.Common.{◌≡◌, ℕ, ◌+◌, Bool, true, false, List, [], ◌∷◌, Option, Some, None, refl, sym, ap, ◌∙◌, subst, cond, arith}
use Rattle.std.specs.Prelude.{◌&&◌, ◌||◌, not, option_map, if◌then◌else◌}
use Rattle.std.specs.HashMap.{get}
use Rattle.std.proofs.lemmas.Option.{same_Some, none-some}
use Rattle.five_tuple.specs.declared.Flow.{Flow}
use Rattle.connection_table.specs.Touches.{same_flow}
use Rattle.connection_table.proofs.Standing.{same_flow-true, same_flow-refl}
use Rattle.connection_starts.specs.declared.segment.Segment.{Segment}
use Rattle.connection_starts.specs.declared.starts.Known.{Known}
use Rattle.connection_starts.specs.declared.starts.Starts.{Starts}
use Rattle.connection_starts.specs.Segments.{opens, closes}
use Rattle.connection_starts.specs.Ordinals.{is_over, last_at, is_late, begins_again, starts_of}
use Rattle.connection_starts.specs.Known.{known_at, known_of, AreStartsOf}

abbrev made : ℕ → Bool → ℕ → Known
made n over at = record { ordinal = n; is_over = over; at = at }

module _ (idle : Option ℕ) where
  -- of a flow none of whose segments came
  pub record IsNew (past : List Segment) (x : Flow) : Type 0 where
    pub over : is_over past x ≡ false
    pub starts : starts_of idle past x ≡ 0

  new_flow : (past : List Segment) (x : Flow) → last_at past x ≡ None → IsNew past x
  new_flow [] x h = record { over = refl; starts = refl }
  new_flow (s ∷ past) x h = go (same_flow s.flow x) h (λ k. new_flow past x k) refl
    where
      go : (b : Bool) → (if b then Some s.at else last_at past x) ≡ None → (last_at past x ≡ None → IsNew past x)
          → (b ≡ same_flow s.flow x) → IsNew (s ∷ past) x
      go true h older e = absurd (none-some s.at (sym h))
      go false h older e = record {
        over = ap (λ (b : Bool). if b then closes s.flags || (is_over past x && not (opens s.flags)) else is_over past x) (sym e) ∙ (older h).over;
        starts = ap (λ (b : Bool). starts_of idle past x + (if b && begins_again idle past s then 1 else 0)) (sym e) ∙ ap (λ (n : ℕ). n + 0) (older h).starts;
      }

  -- after one segment more of the flow
  known_more : (past : List Segment) (s : Segment)
      → known_at idle (s ∷ past) s.flow s.at ≡ made (starts_of idle past s.flow + (if begins_again idle past s then 1 else 0)) (closes s.flags || (is_over past s.flow && not (opens s.flags))) s.at
  known_more past s = ap (λ (b : Bool).
      made (starts_of idle past s.flow + (if b && begins_again idle past s then 1 else 0)) (if b then closes s.flags || (is_over past s.flow && not (opens s.flags)) else is_over past s.flow) s.at)
      (same_flow-refl s.flow)

  none_late : (o : Option ℕ) → o ≡ None → (now : ℕ) → is_late idle o now ≡ is_late idle None now
  none_late o h now = ap (λ (p : Option ℕ). is_late idle p now) h

  late_none : (i : Option ℕ) (now : ℕ) → is_late i None now ≡ false
  late_none None now = refl
  late_none (Some k) now = refl

  fst_none : (o : Option ℕ) (f : ℕ → Known) → option_map f o ≡ None → o ≡ None
  fst_none None f h = refl
  fst_none (Some n) f h = absurd (none-some (f n) (sym h))

  nor : (o : Bool) → (o && (false || false)) ≡ false
  nor true = refl
  nor false = refl

  or_false : (c o : Bool) → (c || (false && not o)) ≡ c
  or_false true o = refl
  or_false false o = refl

  -- the first one of its flow
  pub first_of_flow : (past : List Segment) (s : Segment) (closed : Bool) → known_of idle past s.flow ≡ None → closed ≡ closes s.flags → made 0 closed s.at ≡ known_at idle (s ∷ past) s.flow s.at
  first_of_flow past s closed none is =
      let no : last_at past s.flow ≡ None = fst_none (last_at past s.flow) (λ at. known_at idle past s.flow at) none in
      let n = new_flow past s.flow no in
      let again : begins_again idle past s ≡ false =
      ap (λ (l : Bool). opens s.flags && (is_over past s.flow || l)) (none_late (last_at past s.flow) no s.at ∙ late_none idle s.at)
      ∙ ap (λ (o : Bool). opens s.flags && (o || false)) n.over ∙ nor (opens s.flags) in
      sym (known_more past s
      ∙ ap (λ (b : Bool). made (starts_of idle past s.flow + (if b then 1 else 0)) (closes s.flags || (is_over past s.flow && not (opens s.flags))) s.at) again
      ∙ ap (λ (k : ℕ). made (k + 0) (closes s.flags || (is_over past s.flow && not (opens s.flags))) s.at) n.starts
      ∙ ap (λ (o : Bool). made 0 (closes s.flags || (o && not (opens s.flags))) s.at) n.over
      ∙ ap (λ (o : Bool). made 0 o s.at) (or_false (closes s.flags) (opens s.flags) ∙ sym is))

  -- what is known of a flow that came
  pub record Came (past : List Segment) (x : Flow) (k : Known) : Type 0 where
    pub ordinal : k.ordinal ≡ starts_of idle past x
    pub over : k.is_over ≡ is_over past x
    pub at : last_at past x ≡ Some k.at

  pub came : (past : List Segment) (x : Flow) (k : Known) → known_of idle past x ≡ Some k → Came past x k
  came past x k h = go (last_at past x) refl h
    where
      go : (o : Option ℕ) → last_at past x ≡ o → option_map (λ at. known_at idle past x at) o ≡ Some k → Came past x k
      go None e h = absurd (none-some k h)
      go (Some n) e h =
          let is : known_at idle past x n ≡ k = same_Some (known_at idle past x n) k h in record {
            ordinal = ap (λ (z : Known). z.ordinal) (sym is);
            over = ap (λ (z : Known). z.is_over) (sym is);
            at = e ∙ ap (λ (z : Known). Some z.at) is;
          }

  -- one more of a flow that came, whether it begins again
  pub next_of_flow : (past : List Segment) (s : Segment) (k : Known) (again : Bool) (n : ℕ) (over : Bool) → known_of idle past s.flow ≡ Some k
      → again ≡ (opens s.flags && (k.is_over || is_late idle (Some k.at) s.at)) → n ≡ k.ordinal + (if again then 1 else 0) → over ≡ (closes s.flags || (k.is_over && not (opens s.flags)))
      → made n over s.at ≡ known_at idle (s ∷ past) s.flow s.at
  next_of_flow past s k again n over h is count ends =
      let c = came past s.flow k h in
      let same : again ≡ begins_again idle past s =
      is ∙ ap (λ (o : Bool). opens s.flags && (o || is_late idle (Some k.at) s.at)) c.over ∙ ap (λ (o : Option ℕ). opens s.flags && (is_over past s.flow || is_late idle o s.at)) (sym c.at) in
      ap (λ (m : ℕ). made m over s.at) (count ∙ ap (λ (m : ℕ). m + (if again then 1 else 0)) c.ordinal ∙ ap (λ (b : Bool). starts_of idle past s.flow + (if b then 1 else 0)) same)
      ∙ ap (λ (o : Bool). made (starts_of idle past s.flow + (if begins_again idle past s then 1 else 0)) o s.at) (ends ∙ ap (λ (o : Bool). closes s.flags || (o && not (opens s.flags))) c.over)
      ∙ sym (known_more past s)

-- nothing is known anew of another flow
same_known : (idle : Option ℕ) (past : List Segment) (x : Flow) (o : Option ℕ) → option_map (λ at. made (starts_of idle past x + 0) (is_over past x) at) o ≡ option_map (λ at. known_at idle past x at) o
same_known idle past x None = refl
same_known idle past x (Some n) = ap (λ (m : ℕ). Some (made m (is_over past x) n)) (let e : starts_of idle past x + 0 ≡ starts_of idle past x = omega arith in e)

other_flow : (idle : Option ℕ) (past : List Segment) (s : Segment) (x : Flow) → same_flow s.flow x ≡ false → (o : Option ℕ)
    → option_map (λ at. known_at idle (s ∷ past) x at) (if same_flow s.flow x then Some s.at else o) ≡ option_map (λ at. known_at idle past x at) o
other_flow idle past s x e o =
    ap (λ (b : Bool). option_map (λ at. made (starts_of idle past x + (if b && begins_again idle past s then 1 else 0))
    (if b then closes s.flags || (is_over past x && not (opens s.flags)) else is_over past x) at) (if b then Some s.at else o)) e ∙ same_known idle past x o

-- the flow's entry is replaced
pub put_more : (past : List Segment) (s : Segment) (k : Known) (old new : Starts) → AreStartsOf past old → new.idle ≡ old.idle → k ≡ known_at old.idle (s ∷ past) s.flow s.at
    → ((q : Flow) → get same_flow new.flows q ≡ cond (same_flow s.flow q) (Some k) (get same_flow old.flows q)) → AreStartsOf (s ∷ past) new
put_more past s k old new h same is put = record { each = λ x. put x ∙ go x (same_flow s.flow x) refl ∙ ap (λ (i : Option ℕ). known_of i (s ∷ past) x) (sym same) }
  where
    go : (x : Flow) (b : Bool) → same_flow s.flow x ≡ b → cond b (Some k) (get same_flow old.flows x) ≡ known_of old.idle (s ∷ past) x
    go x true e =
        subst (λ (y : Flow). Some k ≡ known_of old.idle (s ∷ past) y) (same_flow-true s.flow x e)
        (ap (λ (z : Known). Some z) is
        ∙ sym (ap (λ (b : Bool). option_map (λ at. known_at old.idle (s ∷ past) s.flow at) (if b then Some s.at else last_at past s.flow)) (same_flow-refl s.flow)))
    go x false e = h.each x ∙ sym (other_flow old.idle past s x e (last_at past x))
