-- The lines, as the code puts them together.
use Rattle.std.proofs.Common.{◌≡◌, ℕ, ◌+◌, ◌-◌, ◌<◌, List, ◌++◌, length, map, drop, get_or, Option, Result, Ok, Err, ap, ◌∙◌, append_assoc, arith}
use Rattle.std.specs.Prelude.{OnOk}
use Rattle.std.specs.List.{flat_map}
use Rattle.cluster_node.specs.declared.outcomes.Cause.{Cause}
use Rattle.run_report.specs.declared.cause.SplitCause.{SplitCause}
use Rattle.run_report.specs.declared.sending.Split.{Split}
use Rattle.run_report.specs.Causes.{Lookups, cause_of, down_count, moved_count, drained_count}
use Rattle.run_report.specs.Report.{causes, count_of}
use Rattle.run_report.proofs.SplitWalks.{lines_more, causes_add_up}
use Rattle.connection_changes.specs.declared.causes.Change.{Change}
use Rattle.connection_changes.specs.declared.causes.ChangeCause.{ChangeCause}
use Rattle.connection_changes.specs.Changes.{cause_between, cause_in}
use Rattle.connection_changes.specs.Turns.{Reckoning}
use Rattle.json_lines.specs.Splits.{split_line, split_json, counts_line, counts_json, told_json}
use Rattle.json_lines.specs.Places.{change_line, change_json, places_in}
use Rattle.json_lines.specs.Reports.{drop_member}
use Rattle.json_lines.specs.Summaries.{summary_line, summary_in}

-- the line of a split
pub split_told : (lookups : Lookups) (p : Split) (slot : ℕ) (cause : SplitCause) (old new : List ℕ) → slot ≡ lookups.slot p.later.flow → cause ≡ cause_of lookups p
    → new ≡ old ++ split_line p slot cause → new ≡ old ++ split_json lookups p
split_told lookups p slot cause old new s c is =
    is ∙ ap (λ (n : ℕ). old ++ split_line p n cause) s ∙ ap (λ (d : SplitCause). old ++ split_line p (lookups.slot p.later.flow) d) c

-- the line of a change
pub change_told : (lookups : Lookups) (idle : Option ℕ) (c : Change) (slot : ℕ) (cause : SplitCause) (why : ChangeCause) (old new : List ℕ) → slot ≡ lookups.slot c.split.later.flow
    → cause ≡ cause_of lookups c.split → why ≡ cause_between cause idle c.first c.later → new ≡ old ++ change_line c slot cause why → new ≡ old ++ change_json lookups idle c
change_told lookups idle c slot cause why old new s k w is =
    is ∙ ap (λ (n : ℕ). old ++ change_line c n cause why) s ∙ ap (λ (d : ChangeCause). old ++ change_line c (lookups.slot c.split.later.flow) cause d) w
    ∙ ap (λ (d : SplitCause). old ++ change_line c (lookups.slot c.split.later.flow) d (cause_between d idle c.first c.later)) k

-- the counts, by those of the splits and of the causes
pub counts_told : {E : Type 0} (r : Result (Unit {0}) E) (lookups : Lookups) (ps : List Split) (flows split down drained : ℕ) (old new : List ℕ)
    → split ≡ length ps → down ≡ down_count lookups ps → drained ≡ drained_count lookups ps
    → OnOk r (new ≡ old ++ counts_line flows split down (split - (down + drained)) drained) → OnOk r (new ≡ old ++ counts_json lookups flows ps)
counts_told (Err e) lookups ps flows split down drained old new few low gone h = tt
counts_told (Ok u) lookups ps flows split down drained old new few low gone h =
    h ∙ ap (λ (n : ℕ). old ++ counts_line flows split down n drained) rest
    ∙ ap (λ (n : ℕ). old ++ counts_line flows split n (moved_count lookups ps) drained) low
    ∙ ap (λ (n : ℕ). old ++ counts_line flows n (down_count lookups ps) (moved_count lookups ps) drained) few
    ∙ ap (λ (n : ℕ). old ++ counts_line flows (length ps) (down_count lookups ps) (moved_count lookups ps) n) gone
  where
    rest : split - (down + drained) ≡ moved_count lookups ps
    rest =
        let whole : down_count lookups ps + moved_count lookups ps + drained_count lookups ps ≡ length ps = causes_add_up lookups ps in
        omega (arith, whole, few, low, gone)

-- the lines of the splits, and behind them the counts
pub splits_told : {E : Type 0} (r : Result (Unit {0}) E) (lookups : Lookups) (flows : ℕ) (ps : List Split) (old lines new : List ℕ) → lines ≡ old ++ flat_map (split_json lookups) ps
    → OnOk r (new ≡ lines ++ counts_json lookups flows ps) → OnOk r (new ≡ old ++ told_json lookups flows ps)
unfolding told_json
splits_told (Err e) lookups flows ps old lines new put h = tt
splits_told (Ok u) lookups flows ps old lines new put h =
    h ∙ ap (λ (t : List ℕ). t ++ counts_json lookups flows ps) put ∙ append_assoc old (flat_map (split_json lookups) ps) (counts_json lookups flows ps)

-- the same of the changes
pub places_told : {E : Type 0} (r : Result (Unit {0}) E) (lookups : Lookups) (idle : Option ℕ) (all : Reckoning) (old lines new : List ℕ) → lines ≡ old ++ flat_map (change_json lookups idle) all.changes
    → OnOk r (new ≡ lines ++ counts_json lookups all.connections all.splits) → OnOk r (new ≡ old ++ places_in lookups idle all)
unfolding places_in
places_told (Err e) lookups idle all old lines new put h = tt
places_told (Ok u) lookups idle all old lines new put h =
    h ∙ ap (λ (t : List ℕ). t ++ counts_json lookups all.connections all.splits) put
    ∙ append_assoc old (flat_map (change_json lookups idle) all.changes) (counts_json lookups all.connections all.splits)

-- one more cause of a drop
pub drop_more : (dropped : List ℕ) (i : ℕ) (x : Cause) (count : ℕ) (old new whole : List ℕ) → i < length causes → x ≡ get_or causes i x → count ≡ count_of dropped x → new ≡ old ++ drop_member x count
    → old ++ flat_map (λ cause. drop_member cause (count_of dropped cause)) (drop i causes) ≡ whole → new ++ flat_map (λ cause. drop_member cause (count_of dropped cause)) (drop (i + 1) causes) ≡ whole
drop_more dropped i x count old new whole low is counts grown h =
    lines_more (λ cause. drop_member cause (count_of dropped cause)) causes i x old new whole low is (grown ∙ ap (λ (n : ℕ). old ++ drop_member x n) counts) h

-- the summary, by its causes
pub summary_told : {E : Type 0} (r : Result (Unit {0}) E) (lookups : Lookups) (idle : Option ℕ) (all : Reckoning) (made : List ChangeCause) (old new : List ℕ)
    → made ≡ map (λ c. cause_in lookups idle c) all.changes
    → OnOk r (new ≡ old ++ summary_line all.connections all.changed (length all.changes) made) → OnOk r (new ≡ old ++ summary_in lookups idle all)
unfolding summary_in
summary_told (Err e) lookups idle all made old new is h = tt
summary_told (Ok u) lookups idle all made old new is h = h ∙ ap (λ (ds : List ChangeCause). old ++ summary_line all.connections all.changed (length all.changes) ds) is

-- a text of numbers that are those of a record
pub of_record : {E A B : Type 0} (r : Result (Unit {0}) E) (text : A → B → List ℕ) (a a' : A) (b b' : B) (old new : List ℕ) → a ≡ a' → b ≡ b' → OnOk r (new ≡ old ++ text a b) → OnOk r (new ≡ old ++ text a' b')
of_record {A = A} {B = B} (Ok done) text a a' b b' old new p q h = h ∙ ap (λ (x : A). old ++ text x b) p ∙ ap (λ (y : B). old ++ text a' y) q
of_record (Err fault) text a a' b b' old new p q h = tt

-- and one of what is told of connections
pub of_reckoning : {E : Type 0} (r : Result (Unit {0}) E) (text : Reckoning → List ℕ) (a b : Reckoning) (old new : List ℕ) → a ≡ b → OnOk r (new ≡ old ++ text a) → OnOk r (new ≡ old ++ text b)
of_reckoning (Ok u) text a b old new same h = h ∙ ap (λ (r : Reckoning). old ++ text r) same
of_reckoning (Err e) text a b old new same h = tt
