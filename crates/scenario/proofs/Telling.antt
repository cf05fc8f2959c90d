-- What texts say one after another.
use Rattle.std.proofs.Common.{◌≡◌, ℕ, suc, ◌+◌, ◌-◌, ◌<◌, ◌≤◌, Bool, true, false, List, ◌∷◌, ◌++◌, map, length, Option, Some, None, Result, Ok, Err, option_and_then, refl, sym, ap, ◌∙◌, subst, arith, add-one, append_assoc, drop, get_or, option_map, String, Global, string_bytes}
use Rattle.std.specs.Prelude.{nat_le, if◌then◌else◌}
use Rattle.std.proofs.lemmas.Bool.{leb-true}
use Rattle.std.proofs.lemmas.List.{length-map, length-append}
use Rattle.std.proofs.lemmas.List.FromFn.{length-map-range_with_len}
use Rattle.std.proofs.Math.Seq.{drop-cons}
use Rattle.timed_steps.specs.declared.TimedStep.{TimedStep}
use Rattle.maglev_texts.specs.Parsing.{pieces}
use Rattle.scenario.specs.Steps.{PlainStep, plain_timed}
use Rattle.scenario.specs.Told.{PlainTold, once, each, at_node, plain_told, steps_said, count_said, allows_told, told_by_words, told_of, after, said_before, steps_of}
use Rattle.scenario.specs.declared.told.Told.{Told}
use Rattle.scenario.specs.declared.told.StepRules.{StepRules}

after_more : (n : ℕ) (done said : List PlainStep) (r : Result (List PlainStep) ℕ) → after n done (after 1 said r) ≡ after (n + 1) (done ++ said) r
after_more n done said (Ok rest) = let e : done ++ (said ++ rest) ≡ (done ++ said) ++ rest = sym (append_assoc done said rest) in ap Ok e
after_more n done said (Err k) = let e : n + (1 + k) ≡ n + 1 + k = omega arith in ap Err e

-- how many steps are said
pub said_length : (nodes : ℕ) (t : PlainTold) → length (steps_said nodes t) ≡ count_said nodes t
said_length nodes (once s) = refl
said_length nodes (each e) = length-map-range_with_len (at_node e) 0 nodes

-- what is said has room, and may be
pub record Fits (rules : StepRules) (room : ℕ) (t : PlainTold) : Type 0 where
  pub few : count_said rules.nodes t ≤ room
  pub allowed : allows_told rules.played t ≡ true

fits_by : (rules : StepRules) (room : ℕ) (t u : PlainTold) (a b : Bool) → allows_told rules.played t ≡ a → nat_le (count_said rules.nodes t) room ≡ b → (if a then (if b then Some t else None) else None) ≡ Some u → Fits rules room u
fits_by rules room t u false b e g h = absurd cc
fits_by rules room t u true false e g h = absurd cc
fits_by rules room t u true true e g h =
    let same : t ≡ u = cc in
    rw (← same) (record { few = leb-true (count_said rules.nodes t) room g; allowed = e })

fits_in : (rules : StepRules) (room : ℕ) (u : PlainTold) (o : Option PlainTold)
    → option_and_then (λ t. if allows_told rules.played t then (if nat_le (count_said rules.nodes t) room then Some t else None) else None) o ≡ Some u → Fits rules room u
fits_in rules room u None h = absurd cc
fits_in rules room u (Some t) h = fits_by rules room t u (allows_told rules.played t) (nat_le (count_said rules.nodes t) room) refl refl h

pub told_fits : (rules : StepRules) (room : ℕ) (text : List ℕ) (t : PlainTold) → told_of rules room text ≡ Some t → Fits rules room t
unfolding told_of
told_fits rules room text t h = fits_in rules room t (told_by_words rules (pieces 32 text)) h

-- a text that says none of a scenario's steps
pub bad_text : (rules : StepRules) (room n : ℕ) (done : List PlainStep) (text : List ℕ) (texts : List (List ℕ)) → told_of rules room text ≡ None → after n done (steps_of rules room (text ∷ texts)) ≡ Err n
bad_text rules room n done text texts h =
    let e : n + 0 ≡ n = omega arith in
    ap (λ o. after n done (said_before rules.nodes room o (λ left. steps_of rules left texts))) h ∙ ap Err e

-- a text whose steps are added
pub record Added (rules : StepRules) (n : ℕ) (steps : List TimedStep) (texts : List (List ℕ)) (whole : Result (List PlainStep) ℕ) : Type 0 where
  pub few : length steps ≤ 100000
  pub said : after n (map plain_timed steps) (steps_of rules (100000 - length steps) texts) ≡ whole

pub one_more : (rules : StepRules) (n : ℕ) (text : List ℕ) (texts : List (List ℕ)) (old new : List TimedStep) (t : PlainTold) (whole : Result (List PlainStep) ℕ)
    → Added rules n old (text ∷ texts) whole → told_of rules (100000 - length old) text ≡ Some t → map plain_timed new ≡ map plain_timed old ++ steps_said rules.nodes t → Added rules (n + 1) new texts whole
one_more rules n text texts old new t whole before told added =
    let fits : Fits rules (100000 - length old) t = told_fits rules (100000 - length old) text t told in
    let long : length new ≡ length old + count_said rules.nodes t =
    sym (length-map new plain_timed) ∙ ap length added ∙ length-append (map plain_timed old) (steps_said rules.nodes t) ∙ ap (λ k. k + length (steps_said rules.nodes t)) (length-map old plain_timed) ∙ ap (λ k. length old + k) (said_length rules.nodes t) in
    let few : count_said rules.nodes t ≤ 100000 - length old = fits.few in
    let low : length old ≤ 100000 = before.few in
    let left : 100000 - length old - count_said rules.nodes t ≡ 100000 - length new = omega arith in
    record {
      few = omega arith;
      said = ap (λ done. after (n + 1) done (steps_of rules (100000 - length new) texts)) added
          ∙ ap (λ room. after (n + 1) (map plain_timed old ++ steps_said rules.nodes t) (steps_of rules room texts)) (sym left)
          ∙ sym (after_more n (map plain_timed old) (steps_said rules.nodes t) (steps_of rules (100000 - length old - count_said rules.nodes t) texts))
          ∙ sym (ap (λ o. after n (map plain_timed old) (said_before rules.nodes (100000 - length old) o (λ left. steps_of rules left texts))) told)
          ∙ before.said;
    }

-- the same of the texts of a slice
pub text_taken : (rules : StepRules) (n room : ℕ) (bytes : List ℕ) (texts : List (String Global)) (text : String Global) (old new : List TimedStep) (o : Option Told) (t : Told) (whole : Result (List PlainStep) ℕ)
    → n < length texts → text ≡ get_or texts n text → bytes ≡ string_bytes text → room ≡ 100000 - length old → Added rules n old (map string_bytes (drop n texts)) whole
    → option_map plain_told o ≡ told_of rules room bytes → o ≡ Some t → map plain_timed new ≡ map plain_timed old ++ steps_said rules.nodes (plain_told t) → Added rules (n + 1) new (map string_bytes (drop (n + 1) texts)) whole
text_taken rules n room bytes texts text old new o t whole inside here same left before told some added =
    let rest : drop n texts ≡ text ∷ drop (n + 1) texts = rw add-one (drop-cons texts n text inside ∙ ap (λ (x : String Global). x ∷ drop (suc n) texts) (sym here)) in
    let all : map string_bytes (drop n texts) ≡ string_bytes text ∷ map string_bytes (drop (n + 1) texts) = ap (map string_bytes) rest in
    let start : Added rules n old (string_bytes text ∷ map string_bytes (drop (n + 1) texts)) whole = subst (λ (l : List (List ℕ)). Added rules n old l whole) all before in
    let said : told_of rules (100000 - length old) (string_bytes text) ≡ Some (plain_told t) =
    ap (λ (k : ℕ). told_of rules k (string_bytes text)) (sym left) ∙ ap (told_of rules room) (sym same) ∙ sym told ∙ ap (option_map plain_told) some in
    one_more rules n (string_bytes text) (map string_bytes (drop (n + 1) texts)) old new (plain_told t) whole start said added
