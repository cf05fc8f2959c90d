-- What a book has after one event more.
use Rattle.std.proofs.Common.{◌≡◌, ℕ, ◌+◌, ◌<◌, Bool, true, false, List, [], ◌∷◌, ◌++◌, length, take, reverse, get_or, cond, Option, Some, None, Result, Ok, Err, refl, sym, ap, ◌∙◌, subst, arith}
use Rattle.std.specs.Prelude.{◌==◌, OnOk, unwrap_or, if◌then◌else◌}
use Rattle.std.specs.BTreeMap.{BTreeMap, get, is_at}
use Rattle.std.specs.Ordering.{nat_cmp, is_eq}
use Rattle.std.proofs.lemmas.Bool.{eqb-true}
use Rattle.std.proofs.lemmas.Bool.Decides.{nat_tests}
use Rattle.std.proofs.lemmas.List.{take_more, reverse-append}
use Rattle.five_tuple.specs.declared.Flow.{Flow}
use Rattle.pool_versions.specs.declared.backend.Backend.{Backend}
use Rattle.cluster_node.specs.declared.events.Event.{Event}
use Rattle.cluster_node.specs.declared.events.Event.TheVariants.{Install, Arrive, Serve, Restart}
use Rattle.cluster_node.specs.declared.events.LogEntry.{LogEntry}
use Rattle.cluster_node.specs.declared.outcomes.Outcome.{Outcome}
use Rattle.cluster_node.specs.declared.outcomes.Outcome.TheVariants.{Installed, Placed, Forward, Dropped, Restarted, Refused}
use Rattle.connection_changes.specs.Sites.{begun_by, life_with, life_of}
use Rattle.summary_book.specs.declared.book.SummaryBook.{SummaryBook}
use Rattle.summary_book.specs.declared.sent.Sent.{Sent}
use Rattle.summary_book.specs.Books.{sents_of, life_in, life_at, HasSents, IsNotedSummaryOf}
use Rattle.summary_book.specs.Looks.{AreSeen}
use Rattle.summary_book.specs.Sents.{sent_by}

-- ---- lives

is_same : (a b : ℕ) → is_eq (nat_cmp a b) ≡ (a == b)
is_same a b = grind (arith, nat_tests)

-- a node's life begins
pub life_put : (node life : ℕ) (old new : BTreeMap ℕ ℕ) → ((q : ℕ) → get nat_cmp new q ≡ cond (is_at (nat_cmp node) q) (Some life) (get nat_cmp old q)) → life ≡ unwrap_or (get nat_cmp old node) 0 + 1
    → (n : ℕ) → unwrap_or (get nat_cmp new n) 0 ≡ life_with (Some node) n (unwrap_or (get nat_cmp old n) 0)
life_put node life old new put is n =
    ap (λ (o : Option ℕ). unwrap_or o 0) (put n) ∙ ap (λ (b : Bool). unwrap_or (cond b (Some life) (get nat_cmp old n)) 0) (is_same node n) ∙ go (node == n) refl
  where
    go : (b : Bool) → (node == n) ≡ b → unwrap_or (cond b (Some life) (get nat_cmp old n)) 0 ≡ (if b then unwrap_or (get nat_cmp old n) 0 + 1 else unwrap_or (get nat_cmp old n) 0)
    go true e = is ∙ ap (λ (k : ℕ). unwrap_or (get nat_cmp old k) 0 + 1) (eqb-true node n e)
    go false e = refl

-- an event that sends a packet begins no life
begun_none : (e : Event) (n w k : ℕ) (x : Flow) (b : Backend) (v : ℕ) → begun_by e (Forward n w k x b v) ≡ None
begun_none (Install m u) n w k x b v = refl
begun_none (Arrive m i marks) n w k x b v = refl
begun_none (Serve m u i r) n w k x b v = refl
begun_none (Restart m) n w k x b v = refl

none_begun : (e : Event) (o : Outcome) (life : ℕ) (sent : Sent) → sent_by e o life ≡ Some sent → begun_by e o ≡ None
none_begun e Installed life sent h = absurd cc
none_begun e (Placed w f) life sent h = absurd cc
none_begun e (Forward n w k x b v) life sent h = begun_none e n w k x b v
none_begun e (Dropped k c) life sent h = absurd cc
none_begun e (Restarted l) life sent h = absurd cc
none_begun e (Refused r) life sent h = absurd cc

-- ---- sends

abbrev sents_with : Option Sent → List Sent → List Sent
sents_with None ss = ss
sents_with (Some s) ss = s ∷ ss

sents_more : (s : LogEntry) (past : List LogEntry) (b : SummaryBook) → ((n : ℕ) → life_in b n ≡ life_of past n)
    → sents_of (s ∷ past) ≡ sents_with (sent_by s.event s.outcome (life_at b s.outcome)) (sents_of past)
sents_more s past b lives = go s.outcome refl
  where
    more : Outcome → List Sent
    more o = sents_of (record s { outcome = o } ∷ past)

    go : (o : Outcome) → s.outcome ≡ o → more o ≡ sents_with (sent_by s.event o (life_at b o)) (sents_of past)
    go Installed e = refl
    go (Placed w f) e = refl
    go (Forward n w k x y v) e =
        ap (λ (l : ℕ). sents_with (sent_by s.event (Forward n w k x y v) l) (sents_of past))
        (ap (λ (begun : Option ℕ). life_with begun n (life_of past n)) (begun_none s.event n w k x y v) ∙ sym (lives n))
    go (Dropped k c) e = refl
    go (Restarted l) e = refl
    go (Refused r) e = refl

-- an event that sent nothing
pub unsent_noted : {E : Type 0} (r : Result (Unit {0}) E) (s : LogEntry) (past : List LogEntry) (old new : SummaryBook) → IsNotedSummaryOf past old → None ≡ sent_by s.event s.outcome (life_at old s.outcome)
    → OnOk r ((n : ℕ) → life_in new n ≡ life_with (begun_by s.event s.outcome) n (life_in old n)) → new ≡ record old { lives = new.lives } → OnOk r (IsNotedSummaryOf (s ∷ past) new)
unsent_noted (Err e) s past old new h none lives rest = tt
unsent_noted (Ok u) s past old new h none lives rest = record {
  sents = record {
    done = h.sents.done;
    seen = subst (λ (b : SummaryBook). AreSeen h.sents.done b.seen) (sym rest) h.sents.seen;
    whole = ap (λ (b : SummaryBook). reverse b.waiting.items ++ h.sents.done) rest ∙ h.sents.whole
        ∙ ap (λ (o : Option Sent). sents_with o (sents_of past)) none ∙ sym (sents_more s past old h.lives);
  };
  lives = λ n. lives n ∙ ap (λ (l : ℕ). life_with (begun_by s.event s.outcome) n l) (h.lives n);
}

-- an event that sent a packet
pub sent_noted : {E : Type 0} (r : Result (Unit {0}) E) (s : LogEntry) (past : List LogEntry) (old new : SummaryBook) (sent : Sent) → IsNotedSummaryOf past old
    → Some sent ≡ sent_by s.event s.outcome (life_at old s.outcome) → OnOk r (HasSents (sent ∷ sents_of past) new) → new.lives ≡ old.lives → OnOk r (IsNotedSummaryOf (s ∷ past) new)
sent_noted (Err e) s past old new sent h is had same = tt
sent_noted (Ok u) s past old new sent h is had same = record {
  sents = subst (λ (ss : List Sent). HasSents ss new) (ap (λ (o : Option Sent). sents_with o (sents_of past)) is ∙ sym (sents_more s past old h.lives)) had;
  lives = λ n. ap (λ (m : BTreeMap ℕ ℕ). unwrap_or (get nat_cmp m n) 0) same ∙ h.lives n
      ∙ ap (λ (begun : Option ℕ). life_with begun n (life_of past n)) (sym (none_begun s.event s.outcome (life_at old s.outcome) sent (sym is)));
}

-- ---- what waits

-- the sends that come after some
pub take_next : (xs : List Sent) (n : ℕ) (x : Sent) (done : List Sent) → n < length xs → x ≡ get_or xs n x → x ∷ (reverse (take n xs) ++ done) ≡ reverse (take (n + 1) xs) ++ done
take_next xs n x done low is =
    sym (ap (λ (ys : List Sent). reverse ys ++ done) (take_more xs n x low ∙ ap (λ (y : Sent). take n xs ++ y ∷ []) (sym is))
    ∙ ap (λ (ys : List Sent). ys ++ done) (reverse-append (take n xs) (x ∷ [])))

-- one more waits
pub waits_more : (all done waiting more : List Sent) (sent : Sent) → reverse waiting ++ done ≡ all → more ≡ waiting ++ sent ∷ [] → reverse more ++ done ≡ sent ∷ all
waits_more all done waiting more sent had is =
    ap (λ (ys : List Sent). reverse ys ++ done) is ∙ ap (λ (ys : List Sent). ys ++ done) (reverse-append waiting (sent ∷ [])) ∙ ap (λ (ys : List Sent). sent ∷ ys) had

-- nothing waits any more
pub all_taken : {E : Type 0} (r : Result (Unit {0}) E) (all : List Sent) (b : SummaryBook) → OnOk r (AreSeen all b.seen) → OnOk r (b.waiting.items ≡ []) → OnOk r (HasSents all b)
all_taken (Err e) all b seen none = tt
all_taken (Ok u) all b seen none = record { done = all; seen = seen; whole = ap (λ (ws : List Sent). reverse ws ++ all) none }
