-- The ordinal of one record more.
use Rattle.std.proofs.Common.{◌≡◌, ℕ, ◌≤◌, ◌<◌, List, [], ◌∷◌, ◌++◌, length, get_or, Option, sym, ap, ◌∙◌, arith, length-append, ⊎_elim, ◌⊎◌, inl, inr}
use Rattle.std.proofs.lemmas.List.{get_or_push, get_or_past, get_or_append_left}
use Rattle.std.specs.Prelude.{◌==◌, slice_index}
use Rattle.std.proofs.lemmas.Bool.{cases_eq, cases_lt, cond-true, cond-false, eq-eqb, ne_eqb}
use Rattle.connection_starts.specs.declared.segment.Segment.{Segment}
use Rattle.connection_starts.specs.declared.ordinals.Ordinals.{Ordinals}
use Rattle.connection_starts.specs.Ordinals.{newest_ordinal, segments_of, ordinal_at}
use Rattle.connection_starts.specs.Known.{AreOrdinals}

past_one : (ns : List ℕ) (n k : ℕ) → (k ≡ length ns → ⊥) → length ns ≤ k → length (ns ++ n ∷ []) ≤ k
past_one ns n k ne high = ⊎_elim (λ (e : k ≡ length ns). absurd (ne e)) (λ (no : k ≡ length ns → ⊥). omega (arith, length-append ns (n ∷ []), high, no)) (cases_eq k (length ns))

module _ (idle : Option ℕ) (segment : Option Segment) (past : List (Option Segment)) where
  at_newest : (k : ℕ) → k ≡ length past → ordinal_at idle (segment ∷ past) k ≡ newest_ordinal idle segment (segments_of past)
  at_newest k e = cond-true (k == length past) (newest_ordinal idle segment (segments_of past)) (ordinal_at idle past k) (eq-eqb k (length past) e)

  at_rest : (k : ℕ) → (k ≡ length past → ⊥) → ordinal_at idle (segment ∷ past) k ≡ ordinal_at idle past k
  at_rest k ne = cond-false (k == length past) (newest_ordinal idle segment (segments_of past)) (ordinal_at idle past k) (ne_eqb k (length past) ne)

  -- an ordinal that is 0 needn't be put
  pub put_none : (o : Ordinals) (n : ℕ) → AreOrdinals idle past o → n ≡ newest_ordinal idle segment (segments_of past) → n ≡ 0 → AreOrdinals idle (segment ∷ past) o
  put_none o n h is none = record {
    each = λ k. ⊎_elim
        (λ (e : k ≡ length past). beyond k (let low : length o.all.items ≤ k = omega (arith, h.short, e) in low) ∙ sym (at_newest k e ∙ sym is ∙ none))
        (λ (ne : k ≡ length past → ⊥). h.each k ∙ sym (at_rest k ne)) (cases_eq k (length past));
    short = omega (arith, h.short);
  }
    where
      beyond : (k : ℕ) → length o.all.items ≤ k → get_or o.all.items k 0 ≡ 0
      beyond k low = get_or_past o.all.items k 0 low

  -- a number behind others stands at its place, and at no other
  other_place : (ns : List ℕ) (n k : ℕ) → (k ≡ length ns → ⊥) → get_or (ns ++ n ∷ []) k 0 ≡ get_or ns k 0
  other_place ns n k ne = ⊎_elim (λ (low : k < length ns). get_or_append_left ns (n ∷ []) 0 k low)
      (λ (high : length ns ≤ k).
      get_or_past (ns ++ n ∷ []) k 0 (let more = length-append ns (n ∷ []) in let e : length (ns ++ n ∷ []) ≤ k = past_one ns n k ne high in e) ∙ sym (get_or_past ns k 0 high))
      (cases_lt k (length ns))

  -- one that isn't is put behind the others
  pub put_one : (o padded new : Ordinals) (n : ℕ) → AreOrdinals idle past o → n ≡ newest_ordinal idle segment (segments_of past) → length padded.all.items ≡ length past
      → ((k : ℕ) → slice_index padded.all.items k ≡ slice_index o.all.items k) → new.all.items ≡ padded.all.items ++ n ∷ [] → AreOrdinals idle (segment ∷ past) new
  put_one o padded new n h is long same pushed = record {
    each = λ k. ap (λ (ns : List ℕ). get_or ns k 0) pushed ∙ go k (cases_eq k (length past));
    short = omega (arith, ap length pushed, length-append padded.all.items (n ∷ []), long);
  }
    where
      go : (k : ℕ) → (k ≡ length past) ⊎ (k ≡ length past → ⊥) → get_or (padded.all.items ++ n ∷ []) k 0 ≡ ordinal_at idle (segment ∷ past) k
      go k (inl e) = get_or_push padded.all.items n 0 k (long ∙ sym e) ∙ is ∙ sym (at_newest k e)
      go k (inr ne) = other_place padded.all.items n k (λ e. ne (e ∙ long)) ∙ same k ∙ h.each k ∙ sym (at_rest k ne)
