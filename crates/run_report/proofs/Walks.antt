-- One line more of what is written.
use Rattle.std.proofs.Common.{◌≡◌, ℕ, ◌+◌, List, [], ◌∷◌, ◌++◌, map, length, get_or, refl, ap, sym, ◌∙◌, append_assoc, ◌⊎◌, inl, inr, arith}
use Rattle.std.proofs.lemmas.List.{append-nil}
use Rattle.std.proofs.lemmas.List.FromFn.{fill_by_all}
use Rattle.std.specs.List.{flat_map, zip, range_with_len}
use Rattle.cluster_node.specs.declared.events.LogEntry.{LogEntry}
use Rattle.cluster_node.specs.declared.outcomes.Cause.{Cause}
use Rattle.run_report.specs.Lines.{line_text, lines_from}
use Rattle.run_report.specs.Report.{causes, drop_line, drops_text}

-- the lines of some causes, each with its count
abbrev pub drop_lines : List Cause → List ℕ → List ℕ
drop_lines cs counts = flat_map (λ p. drop_line p.0 p.1) (zip cs counts)

-- each cause has the count at its place
pub by_number : (counts : List ℕ) → length counts ≡ 13 → drop_lines causes counts ≡ drops_text counts
unfolding drops_text
by_number counts h =
    let f : ℕ → ℕ = λ k. get_or counts k 0 in
    let whole : counts ≡ map f (range_with_len 0 13) = fill_by_all f counts 13 0 h (λ k low. refl) in
    ap (λ (ns : List ℕ). drop_lines causes ns) whole

-- a listing with one event more
pub lines_push : (k : ℕ) (history : List LogEntry) (said : LogEntry) → lines_from k (history ++ said ∷ []) ≡ lines_from k history ++ line_text (k + length history) said
lines_push k [] said = append-nil (line_text k said) ∙ ap (λ (n : ℕ). line_text n said) (let e : k ≡ k + 0 = omega arith in e)
lines_push k (first ∷ history) said =
    ap (λ (rest : List ℕ). line_text k first ++ rest) (lines_push (k + 1) history said ∙ ap (λ (n : ℕ). lines_from (k + 1) history ++ line_text n said) (let e : k + 1 + length history ≡ k + length (first ∷ history) = omega arith in e))
    ∙ sym (append_assoc (line_text k first) (lines_from (k + 1) history) (line_text (k + length (first ∷ history)) said))

pub drop_more : (cs ds : List Cause) (ns ms : List ℕ) (cause : Cause) (count : ℕ) (old new whole : List ℕ) → cs ≡ cause ∷ ds → ns ≡ count ∷ ms → new ≡ old ++ drop_line cause count → old ++ drop_lines cs ns ≡ whole → new ++ drop_lines ds ms ≡ whole
drop_more cs ds ns ms cause count old new whole front back grown e =
    let step : drop_lines cs ns ≡ drop_line cause count ++ drop_lines ds ms = rw (front, back) refl in
    rw grown (append_assoc old (drop_line cause count) (drop_lines ds ms) ∙ (ap (λ (rest : List ℕ). old ++ rest) (sym step) ∙ e))

no_lines : (cs : List Cause) (ns : List ℕ) → (cs ≡ []) ⊎ (ns ≡ []) → drop_lines cs ns ≡ []
no_lines cs ns (inl h) = rw h refl
no_lines [] ns (inr h) = refl
no_lines (c ∷ cs) ns (inr h) = rw h refl

pub drops_end : (cs : List Cause) (ns : List ℕ) (text whole : List ℕ) → (cs ≡ []) ⊎ (ns ≡ []) → text ++ drop_lines cs ns ≡ whole → text ≡ whole
drops_end cs ns text whole h e = sym (append-nil text) ∙ (ap (λ (rest : List ℕ). text ++ rest) (sym (no_lines cs ns h)) ∙ e)
