-- In formats 1 and 2 each text is one step.
use Rattle.std.proofs.Common.{◌≡◌, ℕ, ◌+◌, ◌-◌, ◌≤◌, Bool, true, false, cond, List, [], ◌∷◌, length, Option, Some, None, is_none, Err, option_map, option_and_then, refl, sym, ap, ◌∙◌, arith}
use Rattle.std.specs.Prelude.{not, nat_le, if◌then◌else◌}
use Rattle.std.specs.List.{position_or_len}
use Rattle.std.specs.Option.{option_or}
use Rattle.std.proofs.lemmas.Bool.{le-leb}
use Rattle.maglev_texts.specs.Parsing.{pieces}
use Rattle.scenario_keys.specs.Lookups.{all_of}
use Rattle.scenario.specs.Steps.{PlainStep, kind_of, step_of, allows}
use Rattle.scenario.specs.Told.{PlainTold, once, count_said, allows_told, newer_in, told_by, told_by_words, told_of, after, said_before, steps_of}
use Rattle.scenario.specs.Alike.{step_of_words, step_for, one_by_one, TextsAreSteps}
use Rattle.scenario.specs.declared.step.Kind.{Kind}
use Rattle.scenario_keys.specs.declared.formats.Format.{Format}
use Rattle.scenario_keys.specs.declared.formats.Format.TheVariants.{One, Two, Three}
use Rattle.scenario.specs.declared.told.StepRules.{StepRules}

-- no star is said
no_star : (f : Format) (k : Kind) (words : List (List ℕ)) → (f ≡ Three → ⊥) → newer_in f k words ≡ None
no_star One k words other = refl
no_star Two k words other = refl
no_star Three k words other = absurd (other refl)

or_none : (o : Option PlainStep) (p : Option PlainTold) → p ≡ None → option_or (option_map (λ s. once s) o) p ≡ option_map (λ s. once s) o
or_none None p h = h
or_none (Some s) p h = refl

of_kind : (rules : StepRules) (words : List (List ℕ)) (o : Option Kind) → (rules.format ≡ Three → ⊥)
    → option_and_then (λ k. told_by rules k words) o ≡ option_map (λ s. once s) (option_and_then (λ k. step_of rules.nodes rules.workers k words) o)
of_kind rules words None other = refl
of_kind rules words (Some k) other = or_none (step_of rules.nodes rules.workers k words) (newer_in rules.format k words) (no_star rules.format k words other)

of_words : (rules : StepRules) (words : List (List ℕ)) → (rules.format ≡ Three → ⊥) → told_by_words rules words ≡ option_map (λ s. once s) (step_of_words rules.nodes rules.workers words)
of_words rules [] other = refl
of_words rules (word ∷ words) other = of_kind rules words (kind_of word) other

kept_by : (rules : StepRules) (room : ℕ) (s : PlainStep) (a : Bool) → allows rules.played s ≡ a → nat_le 1 room ≡ true
    → (if a then (if nat_le 1 room then Some (once s) else None) else None) ≡ option_map (λ s. once s) (if a then Some s else None)
kept_by rules room s false e g = refl
kept_by rules room s true e g = ap (λ (b : Bool). if b then Some (once s) else None) g

kept : (rules : StepRules) (room : ℕ) (o : Option PlainStep) → nat_le 1 room ≡ true
    → option_and_then (λ t. if allows_told rules.played t then (if nat_le (count_said rules.nodes t) room then Some t else None) else None) (option_map (λ s. once s) o)
    ≡ option_map (λ s. once s) (option_and_then (λ step. if allows rules.played step then Some step else None) o)
kept rules room None g = refl
kept rules room (Some s) g = kept_by rules room s (allows rules.played s) refl g

one_told : (rules : StepRules) (room : ℕ) (text : List ℕ) → (rules.format ≡ Three → ⊥) → 1 ≤ room → told_of rules room text ≡ option_map (λ s. once s) (step_for rules text)
unfolding told_of
one_told rules room text other some =
    ap (option_and_then (λ t. if allows_told rules.played t then (if nat_le (count_said rules.nodes t) room then Some t else None) else None)) (of_words rules (pieces 32 text) other)
    ∙ kept rules room (step_of_words rules.nodes rules.workers (pieces 32 text)) (le-leb 1 room some)

-- one text and the others
abbrev counted_on : Option PlainStep → ℕ → ℕ
counted_on o n = cond (not (is_none o)) (1 + n) 0

place_of : (rules : StepRules) (text : List ℕ) (texts : List (List ℕ)) (o : Option PlainStep) → step_for rules text ≡ o
    → position_or_len (λ t. is_none (step_for rules t)) (text ∷ texts) ≡ counted_on o (position_or_len (λ t. is_none (step_for rules t)) texts)
place_of rules text texts o h = ap (λ (p : Option PlainStep). counted_on p (position_or_len (λ t. is_none (step_for rules t)) texts)) h

bad_after : (rules : StepRules) (text : List ℕ) (texts : List (List ℕ)) (s : PlainStep) (r : Option (List PlainStep)) → step_for rules text ≡ Some s
    → after 1 (s ∷ []) (one_by_one rules texts r) ≡ one_by_one rules (text ∷ texts) (option_map (λ rest. s ∷ rest) r)
bad_after rules text texts s (Some rest) h = refl
bad_after rules text texts s None h = ap Err (sym (place_of rules text texts (Some s) h))

first_one : (rules : StepRules) (room : ℕ) (text : List ℕ) (texts : List (List ℕ)) (o : Option PlainStep) → step_for rules text ≡ o
    → ((left : ℕ) → left ≡ room - 1 → steps_of rules left texts ≡ one_by_one rules texts (all_of (step_for rules) texts))
    → said_before rules.nodes room (option_map (λ s. once s) o) (λ left. steps_of rules left texts) ≡ one_by_one rules (text ∷ texts) (option_and_then (λ b. option_map (λ rest. b ∷ rest) (all_of (step_for rules) texts)) o)
first_one rules room text texts None h later = ap Err (sym (place_of rules text texts None h))
first_one rules room text texts (Some s) h later = ap (after 1 (s ∷ [])) (later (room - 1) refl) ∙ bad_after rules text texts s (all_of (step_for rules) texts) h

in_room : (rules : StepRules) (room : ℕ) (texts : List (List ℕ)) → (rules.format ≡ Three → ⊥) → length texts ≤ room → steps_of rules room texts ≡ one_by_one rules texts (all_of (step_for rules) texts)
in_room rules room [] other few = refl
in_room rules room (text ∷ texts) other few =
    ap (λ o. said_before rules.nodes room o (λ left. steps_of rules left texts)) (one_told rules room text other (omega arith))
    ∙ first_one rules room text texts (step_for rules text) refl (λ left e. in_room rules left texts other (omega arith))

pub texts_are_steps : TextsAreSteps
texts_are_steps rules texts other few = in_room rules 100000 texts other few
