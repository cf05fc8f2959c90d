-- What is kept of the events is that of one event more.
use Rattle.std.proofs.Common.{◌≡◌, ℕ, ◌+◌, ◌<◌, Bool, true, false, List, [], ◌∷◌, ◌++◌, length, take, get_or, Option, None, Result, Ok, Err, refl, sym, ap, ◌∙◌, subst, arith, cond, not, ◌⊎◌, inl, inr, append_assoc}
use Rattle.std.specs.Prelude.{◌||◌, OnOk, if◌then◌else◌}
use Rattle.std.specs.List.{list_any}
use Rattle.std.specs.HashSet.{contains, hash_set_len}
use Rattle.std.proofs.lemmas.Bool.{false≢true, false_from_ne_true}
use Rattle.std.proofs.lemmas.List.{append-nil, take_more}
use Rattle.five_tuple.specs.declared.Flow.{Flow}
use Rattle.connection_table.specs.Touches.{same_flow}
use Rattle.connection_table.proofs.Standing.{same_flow-true, same_flow-refl}
use Rattle.cluster_node.specs.declared.events.LogEntry.{LogEntry}
use Rattle.run_report.specs.declared.noted.Beside.{Beside}
use Rattle.run_report.specs.declared.sending.Sending.{Sending}
use Rattle.run_report.specs.declared.sending.Split.{Split}
use Rattle.run_report.specs.Books.{IsSettledAs, IsBookOf}
use Rattle.run_report.specs.Noting.{noted_by, noted_with, besides_noted}
use Rattle.run_report.specs.Splits.{sent_by, splits_of}
use Rattle.connection_changes.specs.declared.book.ChangeBook.{ChangeBook}
use Rattle.connection_changes.specs.declared.causes.Change.{Change}
use Rattle.connection_changes.specs.declared.changed.ChangedFlows.{ChangedFlows}
use Rattle.connection_changes.specs.declared.sites.Site.{Site}
use Rattle.connection_changes.specs.Sites.{site_in}
use Rattle.connection_changes.specs.Changes.{changed_with}
use Rattle.connection_changes.specs.Books.{AreClocksOf, AreChanged, placed_changes, placed_of, IsNotedChangeBookOf, IsChangeBookOf}
use Rattle.connection_changes.proofs.Steps.{changed_append, changed_whole, changes_placed}

-- ---- a flow among the changed ones

other_way : (x y : Flow) → same_flow x y ≡ false → same_flow y x ≡ false
other_way x y h = false_from_ne_true (same_flow y x) (λ e. false≢true (sym h ∙ ap (λ (z : Flow). same_flow x z) (same_flow-true y x e) ∙ same_flow-refl x))

pub changed_put : (xs : List Flow) (flow : Flow) (added : Bool) (a b : ChangedFlows) → AreChanged xs a
    → ((x : Flow) → contains same_flow b.flows x ≡ cond (same_flow flow x) true (contains same_flow a.flows x))
    → added ≡ not (contains same_flow a.flows flow) → hash_set_len b.flows ≡ hash_set_len a.flows + (if added then 1 else 0)
    → AreChanged (if list_any (same_flow flow) xs then xs else flow ∷ xs) b
changed_put xs flow added a b was puts new len = go (list_any (same_flow flow) xs) refl
  where
    more : (t : Bool) → list_any (same_flow flow) xs ≡ t → hash_set_len b.flows ≡ length xs + (if not t then 1 else 0)
    more t known = len ∙ ap (λ (n : ℕ). n + (if added then 1 else 0)) was.count ∙ ap (λ (u : Bool). length xs + (if u then 1 else 0)) (new ∙ ap not (was.each flow ∙ known))

    old : list_any (same_flow flow) xs ≡ true → (x : Flow) (t : Bool) → same_flow flow x ≡ t → cond t true (contains same_flow a.flows x) ≡ list_any (same_flow x) xs
    old known x true e = sym (subst (λ (y : Flow). list_any (same_flow y) xs ≡ true) (same_flow-true flow x e) known)
    old known x false e = was.each x

    fresh : (x : Flow) (t : Bool) → same_flow flow x ≡ t → cond t true (contains same_flow a.flows x) ≡ list_any (same_flow x) (flow ∷ xs)
    fresh x true e = sym (ap (λ (u : Bool). u || list_any (same_flow x) xs) (ap (λ (y : Flow). same_flow y flow) (sym (same_flow-true flow x e)) ∙ same_flow-refl flow))
    fresh x false e = was.each x ∙ sym (ap (λ (u : Bool). u || list_any (same_flow x) xs) (other_way flow x e))

    go : (t : Bool) → list_any (same_flow flow) xs ≡ t → AreChanged (if t then xs else flow ∷ xs) b
    go true known = record {
      each = λ x. puts x ∙ old known x (same_flow flow x) refl;
      count = let n : hash_set_len b.flows ≡ length xs + 0 = more true known in omega (arith, n);
    }
    go false known = record {
      each = λ x. puts x ∙ fresh x (same_flow flow x) refl;
      count = let n : hash_set_len b.flows ≡ length xs + 1 = more false known in omega (arith, n);
    }

-- the flows of one split more
pub changed_more : (ps : List Split) (i : ℕ) (p : Split) (xs : List Flow) (c : ChangedFlows) → i < length ps → p ≡ get_or ps i p
    → AreChanged (if list_any (same_flow p.later.flow) (changed_with (take i ps) xs) then changed_with (take i ps) xs else p.later.flow ∷ changed_with (take i ps) xs) c → AreChanged (changed_with (take (i + 1) ps) xs) c
changed_more ps i p xs c low is h = subst (λ (ys : List Flow). AreChanged ys c) same h
  where
    same : changed_with (p ∷ []) (changed_with (take i ps) xs) ≡ changed_with (take (i + 1) ps) xs
    same =
        sym (changed_append (take i ps) (p ∷ []) xs) ∙ ap (λ (q : Split). changed_with (take i ps ++ q ∷ []) xs) is
        ∙ sym (ap (λ (qs : List Split). changed_with qs xs) (take_more ps i p low))

-- one change more
pub change_more : (cs : List Change) (ps qs : List Split) (bs ds : List (Beside Site)) (p : Split) (b : Beside Site) (more whole : List Change) → ps ≡ p ∷ qs → bs ≡ b ∷ ds
    → more ≡ cs ++ record { split = p; first = b.first; later = b.later } ∷ [] → cs ++ placed_changes ps bs ≡ whole → more ++ placed_changes qs ds ≡ whole
change_more cs ps qs bs ds p b more whole front back pushed h =
    ap (λ (l : List Change). l ++ placed_changes qs ds) pushed ∙ append_assoc cs (record { split = p; first = b.first; later = b.later } ∷ []) (placed_changes qs ds)
    ∙ ap (λ (l : List Change). cs ++ l) (sym step) ∙ h
  where
    step : placed_changes ps bs ≡ record { split = p; first = b.first; later = b.later } ∷ placed_changes qs ds
    step = ap (λ (l : List Split). placed_changes l bs) front ∙ ap (λ (l : List (Beside Site)). placed_changes (p ∷ qs) l) back

none_placed : (ps : List Split) (bs : List (Beside Site)) → (ps ≡ []) ⊎ (bs ≡ []) → placed_changes ps bs ≡ []
none_placed ps bs (inl h) = ap (λ (l : List Split). placed_changes l bs) h
none_placed [] bs (inr h) = refl
none_placed (p ∷ ps) bs (inr h) = ap (λ (l : List (Beside Site)). placed_changes (p ∷ ps) l) h

pub changes_end : (cs : List Change) (ps : List Split) (bs : List (Beside Site)) (whole : List Change) → (ps ≡ []) ⊎ (bs ≡ []) → cs ++ placed_changes ps bs ≡ whole → cs ≡ whole
changes_end cs ps bs whole none h = sym (append-nil cs) ∙ ap (λ (l : List Change). cs ++ l) (sym (none_placed ps bs none)) ∙ h

-- ---- the book

-- one event more is noted
pub event_noted : {E : Type 0} (r : Result (Unit {0}) E) (s : LogEntry) (past : List LogEntry) (number : ℕ) (site : Site) (b : ChangeBook) (new : ChangeBook) → number ≡ length past
    → site ≡ site_in (s ∷ past) s.outcome → AreClocksOf (s ∷ past) new.clocks → OnOk r (IsBookOf (s ∷ past) new.splits)
    → OnOk r (IsSettledAs (noted_by number s.event s.outcome site (placed_of past)) new.splits) → OnOk r (IsNotedChangeBookOf (s ∷ past) new)
event_noted (Err e) s past number site b new at here clocks splits placed = tt
event_noted (Ok u) s past number site b new at here clocks splits placed = record {
  splits = splits;
  placed = subst (λ (k : ℕ). IsSettledAs (noted_by k s.event s.outcome (site_in (s ∷ past) s.outcome) (placed_of past)) new.splits) at
      (subst (λ (x : Site). IsSettledAs (noted_by number s.event s.outcome x (placed_of past)) new.splits) here placed);
  clocks = clocks;
}

-- an event by which nothing was sent
pub unsent_noted : {E : Type 0} (r : Result (Unit {0}) E) (s : LogEntry) (past : List LogEntry) (new : ChangeBook) → sent_by (length past) s.event s.outcome ≡ None → AreClocksOf (s ∷ past) new.clocks
    → OnOk r (IsBookOf (s ∷ past) new.splits) → OnOk r (IsSettledAs (placed_of past) new.splits) → OnOk r (IsNotedChangeBookOf (s ∷ past) new)
unsent_noted r s past new none clocks splits placed =
    event_noted r s past (length past) (site_in (s ∷ past) s.outcome) new new refl refl clocks splits
    (subst (λ (o : Option Sending). OnOk r (IsSettledAs (noted_with o (site_in (s ∷ past) s.outcome) (placed_of past)) new.splits)) (sym none) placed)

-- what was noted is settled
pub settled : (past : List LogEntry) (b : ChangeBook) (splits : List Split) (sites : List (Beside Site)) → IsBookOf past b.splits → splits ≡ splits_of past → sites ≡ besides_noted (placed_of past)
    → b.changes.items ≡ placed_changes splits sites → AreChanged (changed_with splits []) b.changed → IsChangeBookOf past b
settled past b splits sites book these there made among = record {
  splits = book;
  changed = subst (λ (xs : List Flow). AreChanged xs b.changed) (ap (λ (ps : List Split). changed_with ps []) these ∙ changed_whole past) among;
  changes = made ∙ ap (λ (ps : List Split). placed_changes ps sites) these ∙ ap (λ (bs : List (Beside Site)). placed_changes (splits_of past) bs) there ∙ changes_placed past;
}
