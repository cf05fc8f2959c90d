-- The texts of the changes.
use Rattle.std.proofs.Common.{◌≡◌, ℕ, ◌+◌, ◌<◌, List, [], ◌∷◌, ◌++◌, length, map, take, drop, get_or, Option, Result, Ok, Err, refl, sym, ap, ◌∙◌, append_assoc, codes, cond}
use Rattle.std.specs.Prelude.{OnOk}
use Rattle.std.specs.List.{flat_map, count_by}
use Rattle.std.proofs.lemmas.List.Sums.{sum_by-cons}
use Rattle.std.proofs.lemmas.List.{take_more, map-append}
use Rattle.run_report.specs.declared.cause.SplitCause.{SplitCause}
use Rattle.run_report.specs.Report.{count_line}
use Rattle.run_report.specs.Causes.{Lookups, cause_of}
use Rattle.run_report.specs.Texts.{split_words, counts_text}
use Rattle.run_report.proofs.SplitWalks.{lines_more}
use Rattle.connection_changes.specs.declared.causes.Change.{Change}
use Rattle.connection_changes.specs.declared.causes.ChangeCause.{ChangeCause}
use Rattle.connection_changes.specs.Changes.{cause_between, cause_in, same_cause, changes_by}
use Rattle.connection_changes.specs.Texts.{places_of, change_line, places_in, causes, cause_line, summary_in}
use Rattle.connection_changes.specs.Turns.{Reckoning}

-- a line, as the code puts it together
pub line_told : (lookups : Lookups) (idle : Option ℕ) (c : Change) (slot : ℕ) (moved : SplitCause) (cause : ChangeCause) (old new : List ℕ) → slot ≡ lookups.slot c.split.later.flow → moved ≡ cause_of lookups c.split
    → cause ≡ cause_between moved idle c.first c.later → new ≡ old ++ (split_words c.split slot moved ++ places_of c.first c.later cause) → new ≡ old ++ change_line lookups idle c
line_told lookups idle c slot moved cause old new s m k is =
    is
    ∙ ap (λ (n : ℕ). old ++ (split_words c.split n moved ++ places_of c.first c.later cause)) s
    ∙ ap (λ (d : ChangeCause). old ++ (split_words c.split (lookups.slot c.split.later.flow) moved ++ places_of c.first c.later d)) k
    ∙ ap (λ (d : SplitCause). old ++ (split_words c.split (lookups.slot c.split.later.flow) d ++ places_of c.first c.later (cause_between d idle c.first c.later))) m

-- the lines, and behind them the counts
pub places_told : {E : Type 0} (r : Result (Unit {0}) E) (lookups : Lookups) (idle : Option ℕ) (all : Reckoning) (old lines new : List ℕ) → lines ≡ old ++ flat_map (change_line lookups idle) all.changes
    → OnOk r (new ≡ lines ++ counts_text lookups all.connections all.splits) → OnOk r (new ≡ old ++ places_in lookups idle all)
unfolding places_in
places_told (Ok u) lookups idle all old lines new put h =
    h ∙ ap (λ (t : List ℕ). t ++ counts_text lookups all.connections all.splits) put
    ∙ append_assoc old (flat_map (change_line lookups idle) all.changes) (counts_text lookups all.connections all.splits)
places_told (Err e) lookups idle all old lines new put h = tt

-- a text of what is told that is a record's
pub of_record : {E : Type 0} (r : Result (Unit {0}) E) (text : Reckoning → List ℕ) (a b : Reckoning) (old new : List ℕ) → a ≡ b → OnOk r (new ≡ old ++ text a) → OnOk r (new ≡ old ++ text b)
of_record (Ok u) text a b old new same h = h ∙ ap (λ (r : Reckoning). old ++ text r) same
of_record (Err e) text a b old new same h = tt

-- one more cause
pub causes_more : {X Y : Type 0} (f : X → Y) (xs : List X) (i : ℕ) (x : X) (old new : List Y) (y : Y) → i < length xs → x ≡ get_or xs i x → y ≡ f x → new ≡ old ++ y ∷ [] → old ≡ map f (take i xs) → new ≡ map f (take (i + 1) xs)
causes_more f xs i x old new y low is made pushed was =
    pushed ∙ ap (λ ys. ys ++ y ∷ []) was ∙ ap (λ z. map f (take i xs) ++ z ∷ []) (made ∙ ap f is)
    ∙ sym (ap (λ ys. map f ys) (take_more xs i x low) ∙ map-append f (take i xs) (get_or xs i x ∷ []))

counted : (lookups : Lookups) (idle : Option ℕ) (cs : List Change) (cause : ChangeCause) → count_by (λ c. same_cause cause c) (map (λ c. cause_in lookups idle c) cs) ≡ changes_by lookups idle cs cause
counted lookups idle [] cause = refl
counted lookups idle (c ∷ cs) cause =
    sum_by-cons (λ x. cond (same_cause cause x) 1 0) (cause_in lookups idle c) (map (λ d. cause_in lookups idle d) cs)
    ∙ ap (λ (n : ℕ). cond (same_cause cause (cause_in lookups idle c)) 1 0 + n) (counted lookups idle cs cause)
    ∙ sym (sum_by-cons (λ d. cond (same_cause cause (cause_in lookups idle d)) 1 0) c cs)

each_piece : {X : Type 0} (f g : X → List ℕ) → ((x : X) → f x ≡ g x) → (xs : List X) → flat_map f xs ≡ flat_map g xs
each_piece f g same [] = refl
each_piece f g same (x ∷ xs) = ap (λ (t : List ℕ). t ++ flat_map f xs) (same x) ∙ ap (λ (t : List ℕ). g x ++ t) (each_piece f g same xs)

abbrev lines_by : List ChangeCause → List ℕ
lines_by made = flat_map (λ cause. cause_line cause (count_by (λ c. same_cause cause c) made)) causes

-- the summary, line by line
pub summary_told : {E : Type 0} (r : Result (Unit {0}) E) (lookups : Lookups) (idle : Option ℕ) (all : Reckoning) (made : List ChangeCause) (old one two three new : List ℕ)
    → made ≡ map (λ c. cause_in lookups idle c) all.changes
    → one ≡ old ++ count_line (codes "connections") all.connections → two ≡ one ++ count_line (codes "changed") all.changed → three ≡ two ++ count_line (codes "changes") (length all.changes)
    → OnOk r (new ≡ three ++ flat_map (λ cause. cause_line cause (count_by (λ c. same_cause cause c) made)) causes) → OnOk r (new ≡ old ++ summary_in lookups idle all)
unfolding summary_in
summary_told (Err e) lookups idle all made old one two three new is p q s h = tt
summary_told (Ok u) lookups idle all made old one two three new is p q s h =
    h ∙ ap (λ (t : List ℕ). t ++ lines_by made) (s ∙ ap (λ (t : List ℕ). t ++ count_line (codes "changes") (length all.changes)) (q ∙ ap (λ (t : List ℕ). t ++ count_line (codes "changed") all.changed) p))
    ∙ append_assoc ((old ++ count_line (codes "connections") all.connections) ++ count_line (codes "changed") all.changed) (count_line (codes "changes") (length all.changes)) (lines_by made)
    ∙ append_assoc (old ++ count_line (codes "connections") all.connections) (count_line (codes "changed") all.changed) (count_line (codes "changes") (length all.changes) ++ lines_by made)
    ∙ append_assoc old (count_line (codes "connections") all.connections) (count_line (codes "changed") all.changed ++ (count_line (codes "changes") (length all.changes) ++ lines_by made))
    ∙ ap (λ (t : List ℕ). old ++ (count_line (codes "connections") all.connections ++ (count_line (codes "changed") all.changed ++ (count_line (codes "changes") (length all.changes) ++ t)))) tail_is
  where
    tail_is : lines_by made ≡ flat_map (λ cause. cause_line cause (changes_by lookups idle all.changes cause)) causes
    tail_is = each_piece (λ cause. cause_line cause (count_by (λ c. same_cause cause c) made)) (λ cause. cause_line cause (changes_by lookups idle all.changes cause))
        (λ cause. ap (λ (n : ℕ). cause_line cause n) (ap (λ (xs : List ChangeCause). count_by (λ c. same_cause cause c) xs) is ∙ counted lookups idle all.changes cause)) causes

-- one more line of a cause
pub cause_more : (made : List ChangeCause) (i : ℕ) (x : ChangeCause) (count : ℕ) (old new whole : List ℕ) → i < length causes → x ≡ get_or causes i x → new ≡ old ++ cause_line x count → count ≡ count_by (λ c. same_cause x c) made
    → old ++ flat_map (λ cause. cause_line cause (count_by (λ c. same_cause cause c) made)) (drop i causes) ≡ whole → new ++ flat_map (λ cause. cause_line cause (count_by (λ c. same_cause cause c) made)) (drop (i + 1) causes) ≡ whole
cause_more made i x count old new whole low is grown counts h =
    lines_more (λ cause. cause_line cause (count_by (λ c. same_cause cause c) made)) causes i x old new whole low is (grown ∙ ap (λ (n : ℕ). old ++ cause_line x n) counts) h
