use Rattle.std.proofs.Common.{◌≡◌, [], ◌++◌, ◌∙◌, ap, codes, refl, drop, rules, List, ℕ}
use Rattle.std.specs.Fmt.{decimal}
use Rattle.std.proofs.lemmas.List.{drop_all}
use Rattle.std.proofs.lemmas.Str.{IsAscii-append}
use Rattle.run_report.specs.Lines.{event_text, outcome_text}
use Rattle.run_report.proofs.Ascii.{ascii_from_test}
use Rattle.run_report.proofs.lines.put_line.Goals as goal

pub returns-clause-written : goal.returns-clause-written
returns-clause-written c =
    let none : drop {A = ℕ} 128 c.args.line.now ≡ [] = drop_all 128 c.args.line.now (search rules) in
    let end = c.put_word-at.ensures.written ∙ ap (λ (t : List ℕ). codes "\n" ++ t) none in
    let said = c.put_word-at-2.ensures.written ∙ ap (λ (t : List ℕ). codes ": " ++ t) (c.put_outcome-at.ensures.written ∙ ap (λ (t : List ℕ). outcome_text c.args.outcome.now ++ t) end) in
    let rest = c.put_word-at-3.ensures.written ∙ ap (λ (t : List ℕ). codes " " ++ t) (c.put_event-at.ensures.written ∙ ap (λ (t : List ℕ). event_text c.args.event.now ++ t) said) in
    c.put_u64.ensures.written ∙ ap (λ (t : List ℕ). decimal c.args.number ++ t) rest

pub returns-clause-ascii : goal.returns-clause-ascii
returns-clause-ascii c =
    let said = IsAscii-append (outcome_text c.args.outcome.now) (codes "\n") c.put_outcome-at.ensures.ascii (ascii_from_test (codes "\n") refl) in
    let after = IsAscii-append (codes ": ") _ (ascii_from_test (codes ": ") refl) said in
    let rest = IsAscii-append (event_text c.args.event.now) _ c.put_event-at.ensures.ascii after in
    IsAscii-append (decimal c.args.number) _ c.put_u64.ensures.ascii (IsAscii-append (codes " ") _ (ascii_from_test (codes " ") refl) rest)
