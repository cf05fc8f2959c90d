-- Whenever records came, the same steps are known.
use Rattle.std.proofs.Common.{◌≡◌, ℕ, suc, ◌+◌, not, List, [], ◌∷◌, length, drop, Some, None, refl, ap, ◌∙◌}
use Rattle.std.specs.Prelude.{nat_lt, cond}
use Rattle.std.specs.List.{position_or_len}
use Rattle.timed_steps.specs.declared.TimedStep.{TimedStep}
use Rattle.timed_steps.specs.declared.TimedStep.TheVariants.{Counted, Until}
use Rattle.timed_steps.specs.Timed.{first_of, count_until, reads, counted_from, counted}
use Rattle.driver_commands.specs.Knowing.{is_known, is_known_in, first_unsupported_of, first_unsupported_in}

as_long : (first : ℕ) (left : List ℕ) (ss : List TimedStep) → length (counted_from first left ss) ≡ length ss
as_long first left [] = refl
as_long first left (Counted s ∷ ss) = ap suc (as_long first (drop (reads s) left) ss)
as_long first left (Until end ∷ ss) = ap suc (as_long first (drop (count_until first end left) left) ss)

as_far : (first : ℕ) (left : List ℕ) (ss : List TimedStep) → position_or_len (λ s. not (is_known s)) (counted_from first left ss) ≡ position_or_len (λ s. not (is_known_in s)) ss
as_far first left [] = refl
as_far first left (Counted s ∷ ss) = ap (λ n. cond (not (not (is_known s))) (1 + n) 0) (as_far first (drop (reads s) left) ss)
as_far first left (Until end ∷ ss) = ap (λ n. 1 + n) (as_far first (drop (count_until first end left) left) ss)

pub known_at_any_time : (times : List ℕ) (ss : List TimedStep) → first_unsupported_of (counted times ss) ≡ first_unsupported_in ss
known_at_any_time times ss =
    ap (λ n. cond (nat_lt n (length (counted times ss))) (Some n) None) (as_far (first_of times) times ss)
    ∙ ap (λ m. cond (nat_lt (position_or_len (λ s. not (is_known_in s)) ss) m) (Some (position_or_len (λ s. not (is_known_in s)) ss)) None) (as_long (first_of times) times ss)
