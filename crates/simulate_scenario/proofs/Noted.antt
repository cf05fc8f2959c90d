-- What is kept of a record that has one event more.
use Rattle.std.proofs.Common.{◌≡◌, ℕ, zero, suc, ◌+◌, Bool, true, false, List, [], ◌∷◌, ◌++◌, length, reverse, string_bytes, Option, Some, None, Result, refl, sym, ap, ◌∙◌, append_assoc, subst, arith, not}
use Rattle.std.specs.Prelude.{◌==◌, ◌||◌, ◌&&◌, if◌then◌else◌, slice_get, OnOk}
use Rattle.std.proofs.lemmas.List.{append-nil, reverse-append, length-reverse}
use Rattle.std.proofs.lemmas.Bool.{eqb-true, eq-eqb, true≢false}
use Rattle.std.proofs.lemmas.Result.{on_ok_weaker}
use Rattle.cluster_node.specs.declared.events.LogEntry.{LogEntry}
use Rattle.cluster_node.specs.declared.outcomes.Outcome.{Outcome}
use Rattle.cluster_core.specs.Histories.{outcomes_of}
use Rattle.event_trace.specs.declared.counts.Counts.{Counts}
use Rattle.event_trace.specs.Counting.{CountsAre, totals_by}
use Rattle.event_trace.proofs.Counted.{counted_turned, outcomes_turned}
use Rattle.run_report.specs.declared.book.SplitBook.{SplitBook}
use Rattle.run_report.specs.Books.{IsBookOf, IsBookOf}
use Rattle.run_report.specs.Splits.{sent_by, sent_at}
use Rattle.run_report.specs.declared.sending.Sending.{Sending}
use Rattle.simulate_scenario.specs.declared.notes.Notebook.{Notebook}
use Rattle.simulate_scenario.specs.declared.asking.Query.{Query}
use Rattle.simulate_scenario.specs.declared.asking.TwoEvents.{TwoEvents}
use Rattle.simulate_scenario.specs.declared.asking.Wanted.{Wanted}
use Rattle.simulate_scenario.specs.declared.asking.Query.TheVariants.{Report, Events}
use Rattle.simulate_scenario.specs.Notebooks.{Lists, ListsIf, BookIf, NotedChangesIf, ChangesIf, KeepsMore, KeepsBooks, KeepsTwo, AreOf}
use Rattle.json_lines.specs.declared.forms.Form.{Form}
use Rattle.json_lines.specs.declared.forms.Form.TheVariants.{Plain, Json}
use Rattle.json_lines.specs.Forms.{event_as, listing_as}
use Rattle.json_lines.proofs.Listed.{listing_push}
use Rattle.simulate_scenario.specs.Asked.{begun, begun_for, event_if, lines_of_two, is_plain, is_report_alone, is_report_of_changes, asked_shares, shares_in, keeps_splits, keeps_changes, keeps_only_changes}
use Rattle.connection_changes.specs.declared.book.ChangeBook.{ChangeBook}
use Rattle.connection_changes.specs.Books.{IsNotedChangeBookOf, IsChangeBookOf}
use Rattle.traffic_shares.specs.declared.books.ShareBooks.{ShareBooks}
use Rattle.traffic_shares.specs.Books.{AreShareBooksOf}
use Rattle.simulate_scenario.specs.Answers.{totals_in}

-- of no events there are no lines
pub begun_listed : (form : Form) → begun form ++ listing_as form [] ≡ begun form
begun_listed Plain = refl
begun_listed Json = append-nil (begun Json)

none_listed : (n : Notebook) (form : Form) → n.number ≡ 0 → string_bytes n.lines ≡ begun form → (list : Bool) → ListsIf form list [] n
none_listed n Plain k l true = record { number = k; lines = l }
none_listed n Json k l true = record { number = k; lines = l ∙ sym (append-nil (begun Json)) }
none_listed n form k l false = l

none_booked : (b : SplitBook (Unit {0})) → IsBookOf [] b → (splits : Bool) → BookIf splits [] b
none_booked b h true = h
none_booked b h false = tt

none_changed : (b : ChangeBook) → IsNotedChangeBookOf [] b → (changes : Bool) → NotedChangesIf changes [] b
none_changed b h true = h
none_changed b h false = tt

pub none_noted : (n : Notebook) (asked : Query) → n.is_plain ≡ is_report_alone asked → n.only_changes ≡ is_report_of_changes asked → CountsAre [] n.counts → n.number ≡ 0 → string_bytes n.lines ≡ begun_for asked → IsBookOf [] n.book → IsNotedChangeBookOf [] n.changes → AreShareBooksOf (shares_in asked) [] n.shares → n.one ≡ None → n.other ≡ None → n.first ≡ None → n.later ≡ None → AreOf asked [] n
none_noted n (Report wanted) e f c k l b d a o p q r =
    (c, (none_listed n wanted.form k l wanted.list, none_booked n.book b (keeps_splits (keeps_changes wanted.places wanted.summary) wanted.splits), none_changed n.changes d (keeps_changes wanted.places wanted.summary), a), e, f)
none_noted n (Events two) e f c k l b d a o p q r = record { number = k; lines = l; one_is = o; other_is = p; first_is = q; later_is = r }

-- the lines are the same
pub lists_same : (form : Form) (list : Bool) (past : List LogEntry) (n m : Notebook) → m.number ≡ n.number → m.lines ≡ n.lines → ListsIf form list past n → ListsIf form list past m
lists_same form true past n m e f l = record { number = e ∙ l.number; lines = ap string_bytes f ∙ l.lines }
lists_same form false past n m e f l = ap string_bytes f ∙ l

-- the book of splits is the record's where no changes are kept, and that of the changes where they are
pub own_splits : (changes splits : Bool) (past : List LogEntry) (b : SplitBook (Unit {0})) → changes ≡ false → splits ≡ true → BookIf (keeps_splits changes splits) past b → IsBookOf past b
own_splits false true past b e f h = h
own_splits false false past b e f h = absurd cc
own_splits true splits past b e f h = absurd cc

pub kept_changes : (changes : Bool) (past : List LogEntry) (d : ChangeBook) → changes ≡ true → ChangesIf changes past d → IsChangeBookOf past d
kept_changes true past d e h = h
kept_changes false past d e h = absurd cc

-- where the report alone is wanted nothing more is kept
pub plain_more : (w : Wanted) (past : List LogEntry) (s : LogEntry) (n m : Notebook) → is_plain w ≡ true → m.number ≡ n.number → m.lines ≡ n.lines → m.shares ≡ n.shares → KeepsMore w past n → KeepsMore w (s ∷ past) m
plain_more w past s n m plain e f g k = go w.list w.splits w.places w.backends w.nodes w.summary plain k
  where
    go : (l t p a b u : Bool) → not (l || t || p || a || b || u) ≡ true
        → ListsIf w.form l past n × BookIf (keeps_splits (keeps_changes p u) t) past n.book × NotedChangesIf (keeps_changes p u) past n.changes × AreShareBooksOf (record { backends = a; nodes = b }) past n.shares
        → ListsIf w.form l (s ∷ past) m × BookIf (keeps_splits (keeps_changes p u) t) (s ∷ past) m.book × NotedChangesIf (keeps_changes p u) (s ∷ past) m.changes × AreShareBooksOf (record { backends = a; nodes = b }) (s ∷ past) m.shares
    go false false false false false false h k = (ap string_bytes f ∙ k.0, tt, tt, record { these = ap (λ (x : ShareBooks). x.asked) g ∙ k.3.these; backends = tt; nodes = tt })
    go true t p a b u h k = absurd cc
    go false true p a b u h k = absurd cc
    go false false true a b u h k = absurd cc
    go false false false true b u h k = absurd cc
    go false false false false true u h k = absurd cc
    go false false false false false true h k = absurd cc

-- where nothing but the changes is kept they alone grow
pub changes_more : {E : Type 0} (r : Result (Unit {0}) E) (w : Wanted) (past : List LogEntry) (s : LogEntry) (n m : Notebook) → keeps_only_changes w ≡ true → m.number ≡ n.number → m.lines ≡ n.lines → m.shares ≡ n.shares
    → (IsNotedChangeBookOf past n.changes → OnOk r (IsNotedChangeBookOf (s ∷ past) m.changes)) → KeepsMore w past n → OnOk r (KeepsMore w (s ∷ past) m)
changes_more r w past s n m only e f g more k = go w.list w.splits w.places w.backends w.nodes w.summary only k
  where
    shares : AreShareBooksOf (record { backends = false; nodes = false }) past n.shares → AreShareBooksOf (record { backends = false; nodes = false }) (s ∷ past) m.shares
    shares h = record { these = ap (λ (x : ShareBooks). x.asked) g ∙ h.these; backends = tt; nodes = tt }

    go : (l t p a b u : Bool) → (not (l || a || b) && keeps_changes p u) ≡ true
        → ListsIf w.form l past n × BookIf (keeps_splits (keeps_changes p u) t) past n.book × NotedChangesIf (keeps_changes p u) past n.changes × AreShareBooksOf (record { backends = a; nodes = b }) past n.shares
        → OnOk r (ListsIf w.form l (s ∷ past) m × BookIf (keeps_splits (keeps_changes p u) t) (s ∷ past) m.book × NotedChangesIf (keeps_changes p u) (s ∷ past) m.changes × AreShareBooksOf (record { backends = a; nodes = b }) (s ∷ past) m.shares)
    go false t true false false u h k = on_ok_weaker r (λ changes. (ap string_bytes f ∙ k.0, tt, changes, shares k.3)) (more k.2)
    go false t false false false true h k = on_ok_weaker r (λ changes. (ap string_bytes f ∙ k.0, tt, changes, shares k.3)) (more k.2)
    go false t false false false false h k = absurd cc
    go true t p a b u h k = absurd cc
    go false t p true b u h k = absurd cc
    go false t p false true u h k = absurd cc

-- each of the four, one after another
pub more_told : {E : Type 0} (r : Result (Unit {0}) E) (w : Wanted) (past : List LogEntry) (s : LogEntry) (n a b d f : Notebook) (splits changes : Bool) → KeepsMore w past n
    → splits ≡ keeps_splits (keeps_changes w.places w.summary) w.splits → changes ≡ keeps_changes w.places w.summary
    → (ListsIf w.form w.list past n → ListsIf w.form w.list (s ∷ past) a) → a.book ≡ n.book → a.changes ≡ n.changes → a.shares ≡ n.shares
    → (BookIf splits past a.book → BookIf splits (s ∷ past) b.book) → b.number ≡ a.number → b.lines ≡ a.lines → b.changes ≡ a.changes → b.shares ≡ a.shares
    → (NotedChangesIf changes past b.changes → NotedChangesIf changes (s ∷ past) d.changes) → d ≡ record b { changes = d.changes }
    → (AreShareBooksOf (asked_shares w) past d.shares → OnOk r (AreShareBooksOf (asked_shares w) (s ∷ past) f.shares)) → f ≡ record d { shares = f.shares } → OnOk r (KeepsMore w (s ∷ past) f)
more_told {E} r w past s n a b d f splits changes k splits_is changes_is lists a_book a_changes a_shares books b_number b_lines b_changes b_shares change d_is share f_is = on_ok_weaker r (λ shares. (listed, booked, changed, shares)) (share shares_before)
  where
    before : NotedChangesIf changes past b.changes
    before = subst (λ (x : ChangeBook). NotedChangesIf changes past x) (sym (b_changes ∙ a_changes)) (subst (λ (t : Bool). NotedChangesIf t past n.changes) (sym changes_is) k.2)

    shares_before : AreShareBooksOf (asked_shares w) past d.shares
    shares_before = subst (λ (x : ShareBooks). AreShareBooksOf (asked_shares w) past x) (sym (ap (λ (x : Notebook). x.shares) d_is ∙ b_shares ∙ a_shares)) k.3

    listed : ListsIf w.form w.list (s ∷ past) f
    listed = lists_same w.form w.list (s ∷ past) a f
        (ap (λ (x : Notebook). x.number) f_is ∙ ap (λ (x : Notebook). x.number) d_is ∙ b_number) (ap (λ (x : Notebook). x.lines) f_is ∙ ap (λ (x : Notebook). x.lines) d_is ∙ b_lines) (lists k.0)

    booked : BookIf (keeps_splits (keeps_changes w.places w.summary) w.splits) (s ∷ past) f.book
    booked = subst (λ (x : SplitBook (Unit {0})). BookIf (keeps_splits (keeps_changes w.places w.summary) w.splits) (s ∷ past) x) (sym (ap (λ (x : Notebook). x.book) f_is ∙ ap (λ (x : Notebook). x.book) d_is))
        (subst (λ (t : Bool). BookIf t (s ∷ past) b.book) splits_is
        (books (subst (λ (x : SplitBook (Unit {0})). BookIf splits past x) (sym a_book) (subst (λ (t : Bool). BookIf t past n.book) (sym splits_is) k.1))))

    changed : NotedChangesIf (keeps_changes w.places w.summary) (s ∷ past) f.changes
    changed = subst (λ (x : ChangeBook). NotedChangesIf (keeps_changes w.places w.summary) (s ∷ past) x) (sym (ap (λ (x : Notebook). x.changes) f_is)) (subst (λ (t : Bool). NotedChangesIf t (s ∷ past) d.changes) changes_is (change before))

-- the listing has one line more
pub listing_more : (form : Form) (past : List LogEntry) (s : LogEntry) (number : ℕ) → number ≡ length past
    → (begun form ++ listing_as form (reverse past)) ++ event_as form number s ≡ begun form ++ listing_as form (reverse (s ∷ past))
listing_more form past s number is = append_assoc (begun form) (listing_as form (reverse past)) (event_as form number s) ∙ ap (λ (text : List ℕ). begun form ++ text) one_more
  where
    one_more : listing_as form (reverse past) ++ event_as form number s ≡ listing_as form (reverse (s ∷ past))
    one_more =
        ap (λ (k : ℕ). listing_as form (reverse past) ++ event_as form k s) (is ∙ sym (length-reverse past) ∙ (let e : length (reverse past) ≡ 0 + length (reverse past) = omega arith in e))
        ∙ sym (listing_push form (reverse past) s)
        ∙ ap (λ (h : List LogEntry). listing_as form h) (sym (reverse-append (s ∷ []) past))

pub lists_more : (form : Form) (past : List LogEntry) (s : LogEntry) (n m : Notebook) → Lists form past n → m.number ≡ n.number + 1 → string_bytes m.lines ≡ string_bytes n.lines ++ event_as form n.number s → Lists form (s ∷ past) m
lists_more form past s n m l e f = record {
  number = omega (arith, e, l.number);
  lines = f ∙ ap (λ (text : List ℕ). text ++ event_as form n.number s) l.lines ∙ listing_more form past s n.number l.number;
}

-- an outcome behind others
at_end : (os : List Outcome) (o : Outcome) → slice_get (os ++ o ∷ []) (length os) ≡ Some o
at_end [] o = refl
at_end (x ∷ os) o = at_end os o

not_at_end : (os : List Outcome) (o : Outcome) (k : ℕ) → (k ≡ length os → ⊥) → slice_get (os ++ o ∷ []) k ≡ slice_get os k
not_at_end [] o zero h = absurd (h refl)
not_at_end [] o (suc k) h = refl
not_at_end (x ∷ os) o zero h = refl
not_at_end (x ∷ os) o (suc k) h = not_at_end os o k (λ e. h (ap suc e))

outcomes_more : (past : List LogEntry) (s : LogEntry) → outcomes_of (reverse (s ∷ past)) ≡ outcomes_of (reverse past) ++ s.outcome ∷ []
outcomes_more past s = outcomes_turned (s ∷ past) ∙ reverse-append (s.outcome ∷ []) (outcomes_of past) ∙ ap (λ (l : List Outcome). l ++ s.outcome ∷ []) (sym (outcomes_turned past))

outcomes_length : (past : List LogEntry) → length (outcomes_of (reverse past)) ≡ length past
outcomes_length past = ap length (outcomes_turned past) ∙ length-reverse (outcomes_of past) ∙ same past
  where
    same : (l : List LogEntry) → length (outcomes_of l) ≡ length l
    same [] = refl
    same (s ∷ l) = ap suc (same l)

kept_more : (past : List LogEntry) (s : LogEntry) (number asked : ℕ) (was : Option Outcome) → number ≡ length past → was ≡ slice_get (outcomes_of (reverse past)) asked
    → (if number == asked then Some s.outcome else was) ≡ slice_get (outcomes_of (reverse (s ∷ past))) asked
kept_more past s number asked was e f = go (number == asked) refl
  where
    go : (b : Bool) → (number == asked) ≡ b → (if b then Some s.outcome else was) ≡ slice_get (outcomes_of (reverse (s ∷ past))) asked
    go true h =
        let at : length (outcomes_of (reverse past)) ≡ asked = outcomes_length past ∙ sym e ∙ eqb-true number asked h in
        sym (ap (λ (k : ℕ). slice_get (outcomes_of (reverse past) ++ s.outcome ∷ []) k) (sym at) ∙ at_end (outcomes_of (reverse past)) s.outcome) ∙ ap (λ (l : List Outcome). slice_get l asked) (sym (outcomes_more past s))
    go false h =
        f ∙ sym (not_at_end (outcomes_of (reverse past)) s.outcome asked (λ k. true≢false (sym (eq-eqb number asked (e ∙ sym (outcomes_length past) ∙ sym k)) ∙ h))) ∙ ap (λ (l : List Outcome). slice_get l asked) (sym (outcomes_more past s))

sends_more : (past : List LogEntry) (s : LogEntry) (number asked : ℕ) (was : Option Sending) → number ≡ length past → was ≡ sent_at past asked
    → (if asked == number then sent_by number s.event s.outcome else was) ≡ sent_at (s ∷ past) asked
sends_more past s number asked was e f =
    ap (λ k. if asked == k then sent_by k s.event s.outcome else was) e
    ∙ ap (λ (w : Option Sending). if asked == length past then sent_by (length past) s.event s.outcome else w) f

pub keeps_more : (two : TwoEvents) (past : List LogEntry) (s : LogEntry) (n m : Notebook) → KeepsTwo two past n → m.number ≡ n.number + 1 → string_bytes m.lines ≡ string_bytes n.lines ++ event_if two n.number s
    → m.one ≡ (if n.number == two.one then Some s.outcome else n.one) → m.other ≡ (if n.number == two.other then Some s.outcome else n.other)
    → m.first ≡ (if two.one == n.number then sent_by n.number s.event s.outcome else n.first) → m.later ≡ (if two.other == n.number then sent_by n.number s.event s.outcome else n.later)
    → KeepsTwo two (s ∷ past) m
keeps_more two past s n m k e l f g h i = record {
  number = omega (arith, e, k.number);
  lines = l ∙ ap (λ (text : List ℕ). text ++ event_if two n.number s) k.lines ∙ ap (λ (j : ℕ). lines_of_two two past ++ event_if two j s) k.number;
  one_is = f ∙ kept_more past s n.number two.one n.one k.number k.one_is;
  other_is = g ∙ kept_more past s n.number two.other n.other k.number k.other_is;
  first_is = h ∙ sends_more past s n.number two.one n.first k.number k.first_is;
  later_is = i ∙ sends_more past s n.number two.other n.later k.number k.later_is;
}

-- the books answer what was noted
pub settled : {E : Type 0} (r : Result (Unit {0}) E) (w : Wanted) (past : List LogEntry) (n b : Notebook) (changes : Bool) → KeepsMore w past n
    → changes ≡ keeps_changes w.places w.summary → (NotedChangesIf changes past n.changes → OnOk r (ChangesIf changes past b.changes)) → b ≡ record n { changes = b.changes } → OnOk r (KeepsBooks w past b)
settled {E} r w past n b changes k changes_is change b_is = on_ok_weaker r (λ changed. (booked, subst (λ (t : Bool). ChangesIf t past b.changes) changes_is changed, shares)) (change noted)
  where
    noted : NotedChangesIf changes past n.changes
    noted = subst (λ (t : Bool). NotedChangesIf t past n.changes) (sym changes_is) k.2

    booked : BookIf (keeps_splits (keeps_changes w.places w.summary) w.splits) past b.book
    booked = subst (λ (x : SplitBook (Unit {0})). BookIf (keeps_splits (keeps_changes w.places w.summary) w.splits) past x) (sym (ap (λ (x : Notebook). x.book) b_is)) k.1

    shares : AreShareBooksOf (asked_shares w) past b.shares
    shares = subst (λ (x : ShareBooks). AreShareBooksOf (asked_shares w) past x) (sym (ap (λ (x : Notebook). x.shares) b_is)) k.3

-- the totals of a history, by the counts of its record
pub totals_told : (past : List LogEntry) (c : Counts) → CountsAre (outcomes_of past) c → totals_by c ≡ totals_in (outcomes_of (reverse past))
totals_told past c h = of_fields (outcomes_of (reverse past)) (subst (λ (l : List Outcome). CountsAre l c) (sym (outcomes_turned past)) (counted_turned (outcomes_of past) c h))
  where
    of_fields : (os : List Outcome) → CountsAre os c → totals_by c ≡ totals_in os
    of_fields os h = rw (sym h.received, sym h.forwarded, sym h.dropped, sym h.placed, sym h.taken, sym h.refused) refl
