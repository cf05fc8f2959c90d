-- A split more in a walk over them.
use Rattle.std.proofs.Common.{◌≡◌, ℕ, Bool, suc, ◌+◌, ◌-◌, ◌<◌, List, [], ◌∷◌, ◌++◌, length, get_or, drop, reverse, None, Result, Ok, Err, refl, sym, ap, ◌∙◌, append_assoc, arith, ◌⊎◌, inl, inr}
use Rattle.std.specs.Prelude.{OnOk}
use Rattle.std.specs.List.{flat_map, sum_by}
use Rattle.cluster_node.specs.declared.events.LogEntry.{LogEntry}
use Rattle.std.proofs.Math.Seq.{drop-cons}
use Rattle.std.proofs.lemmas.List.Sums.{sum_by-cons}
use Rattle.std.proofs.lemmas.List.{append-nil, reverse-append, reverse-reverse}
use Rattle.cluster_node.specs.declared.events.Event.{Event}
use Rattle.cluster_node.specs.declared.outcomes.Outcome.{Outcome}
use Rattle.run_report.specs.declared.cause.SplitCause.{SplitCause}
use Rattle.run_report.specs.declared.cause.SplitCause.TheVariants.{Down, Moved, Drained}
use Rattle.run_report.specs.declared.sending.Split.{Split}
use Rattle.run_report.specs.Splits.{said_of}
use Rattle.run_report.specs.Texts.{split_line, split_counts, drained_line, counts_text, text_of}
use Rattle.run_report.specs.Causes.{Lookups, cause_of, down_one, moved_one, drained_one, down_count, moved_count, drained_count, does_anybody_drain}

rest_of : {X : Type 0} (xs : List X) (i : ℕ) (x : X) → i < length xs → x ≡ get_or xs i x → drop i xs ≡ x ∷ drop (i + 1) xs
rest_of xs i x low is = drop-cons xs i x low ∙ ap (λ y. y ∷ drop (suc i) xs) (sym is) ∙ ap (λ (n : ℕ). x ∷ drop n xs) (let e : suc i ≡ i + 1 = omega arith in e)

pub lines_more : {X : Type 0} (f : X → List ℕ) (xs : List X) (i : ℕ) (x : X) (old new whole : List ℕ) → i < length xs → x ≡ get_or xs i x → new ≡ old ++ f x
    → old ++ flat_map f (drop i xs) ≡ whole → new ++ flat_map f (drop (i + 1) xs) ≡ whole
lines_more f xs i x old new whole low is grown e =
    ap (λ (text : List ℕ). text ++ flat_map f (drop (i + 1) xs)) grown ∙ append_assoc old (f x) (flat_map f (drop (i + 1) xs))
    ∙ ap (λ (ys : List _). old ++ flat_map f ys) (sym (rest_of xs i x low is)) ∙ e

pub sum_more : {X : Type 0} (f : X → ℕ) (xs : List X) (i : ℕ) (x : X) (count whole : ℕ) → i < length xs → x ≡ get_or xs i x
    → count + sum_by f (drop i xs) ≡ whole → count + f x + sum_by f (drop (i + 1) xs) ≡ whole
sum_more f xs i x count whole low is e =
    let step : sum_by f (drop i xs) ≡ f x + sum_by f (drop (i + 1) xs) = ap (λ ys. sum_by f ys) (rest_of xs i x low is) ∙ sum_by-cons f x (drop (i + 1) xs) in
    omega (arith, step, e)

-- each split has one cause
one_cause : (c : SplitCause) → down_one c + moved_one c + drained_one c ≡ 1
one_cause Down = refl
one_cause Moved = refl
one_cause Drained = refl

pub causes_add_up : (lookups : Lookups) (ps : List Split) → down_count lookups ps + moved_count lookups ps + drained_count lookups ps ≡ length ps
causes_add_up lookups [] = refl
causes_add_up lookups (p ∷ ps) =
    let h : down_count lookups ps + moved_count lookups ps + drained_count lookups ps ≡ length ps = causes_add_up lookups ps in
    let d : down_count lookups (p ∷ ps) ≡ down_one (cause_of lookups p) + down_count lookups ps = sum_by-cons (λ q. down_one (cause_of lookups q)) p ps in
    let m : moved_count lookups (p ∷ ps) ≡ moved_one (cause_of lookups p) + moved_count lookups ps = sum_by-cons (λ q. moved_one (cause_of lookups q)) p ps in
    let l : drained_count lookups (p ∷ ps) ≡ drained_one (cause_of lookups p) + drained_count lookups ps = sum_by-cons (λ q. drained_one (cause_of lookups q)) p ps in
    let o : down_one (cause_of lookups p) + moved_one (cause_of lookups p) + drained_one (cause_of lookups p) ≡ 1 = one_cause (cause_of lookups p) in
    omega (arith, h, d, m, l, o)

-- the counts, by those of the splits and of the causes
counts_same : (lookups : Lookups) (ps : List Split) (flows split down drained : ℕ) (drains : Bool)
    → split ≡ length ps → down ≡ down_count lookups ps → drained ≡ drained_count lookups ps → drains ≡ does_anybody_drain lookups.versions
    → split_counts flows split down (split - (down + drained)) ++ drained_line drains drained ≡ counts_text lookups flows ps
counts_same lookups ps flows split down drained drains few low gone some =
    ap (λ (n : ℕ). split_counts flows split down n ++ drained_line drains drained) rest
    ∙ ap (λ (n : ℕ). split_counts flows split n (moved_count lookups ps) ++ drained_line drains drained) low
    ∙ ap (λ (n : ℕ). split_counts flows n (down_count lookups ps) (moved_count lookups ps) ++ drained_line drains drained) few
    ∙ ap (λ (n : ℕ). split_counts flows (length ps) (down_count lookups ps) (moved_count lookups ps) ++ drained_line drains n) gone
    ∙ ap (λ (t : Bool). split_counts flows (length ps) (down_count lookups ps) (moved_count lookups ps) ++ drained_line t (drained_count lookups ps)) some
  where
    rest : split - (down + drained) ≡ moved_count lookups ps
    rest =
        let whole : down_count lookups ps + moved_count lookups ps + drained_count lookups ps ≡ length ps = causes_add_up lookups ps in
        omega (arith, whole, few, low, gone)

-- the counts, by those of the splits and of the causes
pub counts_told : {E : Type 0} (lookups : Lookups) (r : Result (Unit {0}) E) (ps : List Split) (flows split down drained : ℕ) (drains : Bool) (old new : List ℕ)
    → split ≡ length ps → down ≡ down_count lookups ps → drained ≡ drained_count lookups ps → drains ≡ does_anybody_drain lookups.versions
    → OnOk r (new ≡ old ++ (split_counts flows split down (split - (down + drained)) ++ drained_line drains drained)) → OnOk r (new ≡ old ++ counts_text lookups flows ps)
counts_told lookups (Ok done) ps flows split down drained drains old new few low gone some h =
    h ∙ ap (λ (text : List ℕ). old ++ text) (counts_same lookups ps flows split down drained drains few low gone some)
counts_told lookups (Err fault) ps flows split down drained drains old new few low gone some h = tt

-- the lines, and behind them the counts
pub text_told : {E : Type 0} (lookups : Lookups) (r : Result (Unit {0}) E) (ps : List Split) (flows split down drained : ℕ) (drains : Bool) (old lines new : List ℕ)
    → split ≡ length ps → down ≡ down_count lookups ps → drained ≡ drained_count lookups ps → drains ≡ does_anybody_drain lookups.versions → lines ≡ old ++ flat_map (split_line lookups) ps
    → OnOk r (new ≡ lines ++ (split_counts flows split down (split - (down + drained)) ++ drained_line drains drained)) → OnOk r (new ≡ old ++ text_of lookups flows ps)
text_told {E} lookups r ps flows split down drained drains old lines new few low gone some made grown = ok r grown
  where
    all : lines ++ (split_counts flows split down (split - (down + drained)) ++ drained_line drains drained) ≡ old ++ text_of lookups flows ps
    all = ap (λ (text : List ℕ). text ++ (split_counts flows split down (split - (down + drained)) ++ drained_line drains drained)) made
        ∙ append_assoc old (flat_map (split_line lookups) ps) (split_counts flows split down (split - (down + drained)) ++ drained_line drains drained)
        ∙ ap (λ (text : List ℕ). old ++ (flat_map (split_line lookups) ps ++ text)) (counts_same lookups ps flows split down drained drains few low gone some)

    ok : (s : Result (Unit {0}) E) → OnOk s (new ≡ lines ++ (split_counts flows split down (split - (down + drained)) ++ drained_line drains drained)) → OnOk s (new ≡ old ++ text_of lookups flows ps)
    ok (Ok done) h = h ∙ all
    ok (Err fault) h = tt

-- a text of numbers that are those of a record
pub of_record : {E A B : Type 0} (r : Result (Unit {0}) E) (text : A → B → List ℕ) (a a' : A) (b b' : B) (old new : List ℕ) → a ≡ a' → b ≡ b' → OnOk r (new ≡ old ++ text a b) → OnOk r (new ≡ old ++ text a' b')
of_record {A = A} {B = B} (Ok done) text a a' b b' old new p q h = h ∙ ap (λ (x : A). old ++ text x b) p ∙ ap (λ (y : B). old ++ text a' y) q
of_record (Err fault) text a a' b b' old new p q h = tt

-- ---- a history event by event

pub said_more : (past : List LogEntry) (es fs : List Event) (os ps : List Outcome) (e : Event) (o : Outcome) (whole : List LogEntry) → es ≡ e ∷ fs → os ≡ o ∷ ps
    → reverse past ++ said_of es os ≡ whole → reverse (record { event = e; packet = None; outcome = o } ∷ past) ++ said_of fs ps ≡ whole
said_more past es fs os ps e o whole front back h =
    let s : LogEntry = record { event = e; packet = None; outcome = o } in
    ap (λ (l : List LogEntry). l ++ said_of fs ps) (reverse-append (s ∷ []) past) ∙ append_assoc (reverse past) (s ∷ []) (said_of fs ps)
    ∙ ap (λ (l : List LogEntry). reverse past ++ l) (sym step) ∙ h
  where
    step : said_of es os ≡ record { event = e; packet = None; outcome = o } ∷ said_of fs ps
    step = ap (λ (l : List Event). said_of l os) front ∙ ap (λ (l : List Outcome). said_of (e ∷ fs) l) back

none_said : (es : List Event) (os : List Outcome) → (es ≡ []) ⊎ (os ≡ []) → said_of es os ≡ []
none_said es os (inl h) = ap (λ (l : List Event). said_of l os) h
none_said [] os (inr h) = refl
none_said (e ∷ es) os (inr h) = ap (λ (l : List Outcome). said_of (e ∷ es) l) h

pub said_end : (past : List LogEntry) (es : List Event) (os : List Outcome) (whole : List LogEntry) → (es ≡ []) ⊎ (os ≡ []) → reverse past ++ said_of es os ≡ whole → past ≡ reverse whole
said_end past es os whole none h =
    let all : reverse past ≡ whole = sym (append-nil (reverse past)) ∙ ap (λ (l : List LogEntry). reverse past ++ l) (sym (none_said es os none)) ∙ h in
    sym (reverse-reverse past) ∙ ap reverse all

-- the same behind the events before
pub said_behind : (first past : List LogEntry) (es : List Event) (os : List Outcome) (more : List LogEntry) → (es ≡ []) ⊎ (os ≡ []) → reverse past ++ said_of es os ≡ reverse first ++ more → past ≡ reverse more ++ first
said_behind first past es os more none h =
    said_end past es os (reverse first ++ more) none h ∙ reverse-append (reverse first) more ∙ ap (λ (l : List LogEntry). reverse more ++ l) (reverse-reverse first)
