-- What noted sends tell is what their record tells.
use Rattle.std.proofs.Common.{◌≡◌, ℕ, ◌+◌, Bool, true, false, List, [], ◌∷◌, ◌++◌, length, map, Option, Some, None, Result, Ok, Err, refl, sym, ap, ◌∙◌, subst, arith}
use Rattle.std.specs.Prelude.{option_map, is_some, OnOk, if◌then◌else◌}
use Rattle.std.proofs.lemmas.List.{append-nil}
use Rattle.five_tuple.specs.declared.Flow.{Flow}
use Rattle.connection_table.specs.Touches.{same_flow}
use Rattle.selection.specs.Readied.{same_backend}
use Rattle.selection.proofs.Among.{is_same}
use Rattle.pool_versions.specs.declared.backend.Backend.{Backend}
use Rattle.cluster_node.specs.declared.events.LogEntry.{LogEntry}
use Rattle.run_report.specs.declared.book.SplitBook.{SplitBook}
use Rattle.run_report.specs.declared.last_sends.LastSends.{LastSends}
use Rattle.run_report.specs.declared.noted.Beside.{Beside}
use Rattle.run_report.specs.declared.noted.Noted.{Noted}
use Rattle.run_report.specs.declared.sending.Sending.{Sending}
use Rattle.run_report.specs.declared.sending.Split.{Split}
use Rattle.run_report.specs.Splits.{sent_by, last_after, last_sent, split_after, split_by, splits_of, flows_with, flows_of}
use Rattle.run_report.specs.Noting.{last_noted, split_with, beside_with, splits_noted, count_noted, noted_with, noted_by, sends_with, sends_of}
use Rattle.run_report.specs.Books.{AreLast, with_send, RenewedAs, IsSettledAs, IsBookOf}

-- ---- what sends tell without what is kept beside them

abbrev last_in : List Sending → Flow → Option Sending
last_in [] x = None
last_in (s ∷ ss) x = if same_flow s.flow x then Some s else last_in ss x

abbrev splits_in : List Sending → List Split
splits_in [] = []
splits_in (s ∷ ss) = splits_in ss ++ split_after (last_in ss s.flow) s

abbrev count_in : List Sending → ℕ
count_in [] = 0
count_in (s ∷ ss) = count_in ss + (if is_some (last_in ss s.flow) then 0 else 1)

module _ {T : Type 0} where
  abbrev bare : List (Noted T) → List Sending
  bare ns = map (λ n. n.sending) ns

  last_bare : (ns : List (Noted T)) (x : Flow) → option_map (λ n. n.sending) (last_noted ns x) ≡ last_in (bare ns) x
  last_bare [] x = refl
  last_bare (n ∷ ns) x = go (last_bare ns x) (same_flow n.sending.flow x)
    where
      go : option_map (λ m. m.sending) (last_noted ns x) ≡ last_in (bare ns) x → (b : Bool)
          → option_map (λ m. m.sending) (if b then Some n else last_noted ns x) ≡ (if b then Some n.sending else last_in (bare ns) x)
      go older true = refl
      go older false = older

  split_bare : (o : Option (Noted T)) (n : Noted T) → split_with o n ≡ split_after (option_map (λ m. m.sending) o) n.sending
  split_bare None n = refl
  split_bare (Some m) n = refl

  splits_bare : (ns : List (Noted T)) → splits_noted ns ≡ splits_in (bare ns)
  splits_bare [] = refl
  splits_bare (n ∷ ns) =
      ap (λ (ps : List Split). ps ++ split_with (last_noted ns n.sending.flow) n) (splits_bare ns)
      ∙ ap (λ (qs : List Split). splits_in (bare ns) ++ qs) (split_bare (last_noted ns n.sending.flow) n)
      ∙ ap (λ (o : Option Sending). splits_in (bare ns) ++ split_after o n.sending) (last_bare ns n.sending.flow)

  some_bare : (o : Option (Noted T)) → is_some o ≡ is_some (option_map (λ m. m.sending) o)
  some_bare None = refl
  some_bare (Some m) = refl

  count_bare : (ns : List (Noted T)) → count_noted ns ≡ count_in (bare ns)
  count_bare [] = refl
  count_bare (n ∷ ns) =
      ap (λ (k : ℕ). k + (if is_some (last_noted ns n.sending.flow) then 0 else 1)) (count_bare ns)
      ∙ ap (λ (b : Bool). count_in (bare ns) + (if b then 0 else 1)) (some_bare (last_noted ns n.sending.flow))
      ∙ ap (λ (o : Option Sending). count_in (bare ns) + (if is_some o then 0 else 1)) (last_bare ns n.sending.flow)

-- ---- the sends of a record

last_record : (past : List LogEntry) (x : Flow) → last_in (sends_of past) x ≡ last_sent past x
last_record [] x = refl
last_record (s ∷ past) x = go (last_record past x) (sent_by (length past) s.event s.outcome)
  where
    go : last_in (sends_of past) x ≡ last_sent past x → (o : Option Sending) → last_in (sends_with o (sends_of past)) x ≡ last_after x o (last_sent past x)
    go older None = older
    go older (Some t) = ap (λ (p : Option Sending). if same_flow t.flow x then Some t else p) older

splits_record : (past : List LogEntry) → splits_in (sends_of past) ≡ splits_of past
splits_record [] = refl
splits_record (s ∷ past) = go (splits_record past) (sent_by (length past) s.event s.outcome)
  where
    go : splits_in (sends_of past) ≡ splits_of past → (o : Option Sending) → splits_in (sends_with o (sends_of past)) ≡ splits_of past ++ split_by (λ x. last_sent past x) o
    go older None = older ∙ sym (append-nil (splits_of past))
    go older (Some t) = ap (λ (ps : List Split). ps ++ split_after (last_in (sends_of past) t.flow) t) older ∙ ap (λ (p : Option Sending). splits_of past ++ split_after p t) (last_record past t.flow)

count_record : (past : List LogEntry) → count_in (sends_of past) ≡ length (flows_of past)
count_record [] = refl
count_record (s ∷ past) = go (count_record past) (sent_by (length past) s.event s.outcome)
  where
    one : (b : Bool) (x : Flow) → length (flows_of past) + (if b then 0 else 1) ≡ length (if b then flows_of past else x ∷ flows_of past)
    one true x = omega arith
    one false x = omega arith

    go : count_in (sends_of past) ≡ length (flows_of past) → (o : Option Sending) → count_in (sends_with o (sends_of past)) ≡ length (flows_with (λ x. last_sent past x) o (flows_of past))
    go older None = older
    go older (Some t) =
        ap (λ (k : ℕ). k + (if is_some (last_in (sends_of past) t.flow) then 0 else 1)) older
        ∙ ap (λ (p : Option Sending). length (flows_of past) + (if is_some p then 0 else 1)) (last_record past t.flow)
        ∙ one (is_some (last_sent past t.flow)) t.flow

-- ---- the book

module _ {T : Type 0} where
  pub splits_told : (past : List LogEntry) (all : List (Noted T)) → bare all ≡ sends_of past → splits_noted all ≡ splits_of past
  splits_told past all is = splits_bare all ∙ ap (λ (ss : List Sending). splits_in ss) is ∙ splits_record past

  pub last_told : (past : List LogEntry) (all : List (Noted T)) → bare all ≡ sends_of past → (x : Flow) → option_map (λ n. n.sending) (last_noted all x) ≡ last_sent past x
  last_told past all is x = last_bare all x ∙ ap (λ (ss : List Sending). last_in ss x) is ∙ last_record past x

  pub settled_is : (past : List LogEntry) (b : SplitBook T) (all : List (Noted T)) → bare all ≡ sends_of past → b.number ≡ length past → IsSettledAs all b → IsBookOf past b
  settled_is past b all is number s = record {
    number = number;
    all = all;
    settled = s;
    sends = is;
    flows = s.flows ∙ count_bare all ∙ ap (λ (ss : List Sending). count_in ss) is ∙ count_record past;
    splits = s.splits ∙ splits_told past all is;
  }

  bare_more : (o : Option Sending) (beside : T) (all : List (Noted T)) (ss : List Sending) → bare all ≡ ss → bare (noted_with o beside all) ≡ sends_with o ss
  bare_more None beside all ss h = h
  bare_more (Some t) beside all ss h = ap (λ (rest : List Sending). t ∷ rest) h

  -- one event more
  pub noted_more : (s : LogEntry) (past : List LogEntry) (a b : SplitBook T) (beside : T) → IsBookOf past a → b.number ≡ a.number + 1
      → ((all : List (Noted T)) → IsSettledAs all a → IsSettledAs (noted_by a.number s.event s.outcome beside all) b) → IsBookOf (s ∷ past) b
  noted_more s past a b beside h more settled =
      let number : a.number ≡ length past = h.number in
      settled_is (s ∷ past) b (noted_by a.number s.event s.outcome beside h.all)
      (bare_more (sent_by a.number s.event s.outcome) beside h.all (sends_of past) h.sends ∙ ap (λ (k : ℕ). sends_with (sent_by k s.event s.outcome) (sends_of past)) number)
      (omega (arith, more, number)) (settled h.all h.settled)

  -- one event more by which nothing was sent
  pub unsent_more : (s : LogEntry) (past : List LogEntry) (a : SplitBook T) (number : ℕ) → IsBookOf past a → sent_by (length past) s.event s.outcome ≡ None → number ≡ a.number + 1
      → IsBookOf (s ∷ past) (record a { number = number })
  unsent_more s past a number h none more =
      let before : a.number ≡ length past = h.number in
      settled_is (s ∷ past) (record a { number = number }) h.all (h.sends ∙ sym (ap (λ (o : Option Sending). sends_with o (sends_of past)) none)) (omega (arith, more, before))
      (record { last = h.settled.last; flows = h.settled.flows; splits = h.settled.splits; besides = h.settled.besides })

  -- one send more is compared
  pub settled_more : (done : List (Noted T)) (later : Noted T) (a b : SplitBook T) → IsSettledAs done a → AreLast (with_send (λ x. last_noted done x) later) b.last
      → length b.last.sends ≡ length a.last.sends + (if is_some (last_noted done later.sending.flow) then 0 else 1)
      → b.splits.items ≡ a.splits.items ++ split_with (last_noted done later.sending.flow) later → b.besides.items ≡ a.besides.items ++ beside_with (last_noted done later.sending.flow) later
      → IsSettledAs (later ∷ done) b
  settled_more done later a b s last flows splits besides = record {
    last = last_same (with_send (λ x. last_noted done x) later) (λ x. last_noted (later ∷ done) x) (λ x. refl) b.last last;
    flows = flows ∙ ap (λ (k : ℕ). k + (if is_some (last_noted done later.sending.flow) then 0 else 1)) s.flows;
    splits = splits ∙ ap (λ (ps : List Split). ps ++ split_with (last_noted done later.sending.flow) later) s.splits;
    besides = besides ∙ ap (λ (bs : List (Beside T)). bs ++ beside_with (last_noted done later.sending.flow) later) s.besides;
  }
    where
      last_same : (f g : Flow → Option (Noted T)) → ((x : Flow) → f x ≡ g x) → (l : LastSends T) → AreLast f l → AreLast g l
      last_same f g same l h = record { each = λ x. h.each x ∙ ap (λ (o : Option (Noted T)). option_map Some o) (same x) }

  -- a send to the same backend is no split
  no_split : (o : Option (Noted T)) (first later : Noted T) → o ≡ Some first → first.sending.backend ≡ later.sending.backend → (split_with o later ≡ []) × (beside_with o later ≡ [])
  no_split o first later is same = (
    ap (λ (p : Option (Noted T)). split_with p later) is ∙ ap (λ (b : Bool). if b then [] else record { first = first.sending; later = later.sending } ∷ []) one,
    ap (λ (p : Option (Noted T)). beside_with p later) is ∙ ap (λ (b : Bool). if b then [] else record { first = first.beside; later = later.beside } ∷ []) one,
  )
    where
      one : same_backend first.sending.backend later.sending.backend ≡ true
      one = ap (λ (b : Backend). same_backend b later.sending.backend) same ∙ is_same later.sending.backend

  pub renewed : (o : Option Sending) (beside : T) (done : List (Noted T)) (a : SplitBook T) (last : LastSends T) → IsSettledAs done a → RenewedAs (λ x. last_noted done x) o beside a.last last
      → IsSettledAs (noted_with o beside done) (record a { last = last })
  renewed None beside done a last s h = absurd h
  renewed (Some sending) beside done a last s h =
      let later : Noted T = record { sending = sending; beside = beside } in
      let none = no_split (last_noted done later.sending.flow) h.0 later h.1 h.2 in
      settled_more done later a (record a { last = last }) s h.3
      (h.4 ∙ (let e : length a.last.sends ≡ length a.last.sends + 0 = omega arith in e) ∙ ap (λ (o : Option (Noted T)). length a.last.sends + (if is_some o then 0 else 1)) (sym h.1))
      (sym (ap (λ (qs : List Split). a.splits.items ++ qs) none.0 ∙ append-nil a.splits.items)) (sym (ap (λ (bs : List (Beside T)). a.besides.items ++ bs) none.1 ∙ append-nil a.besides.items))

  pub not_renewed : (done : List (Noted T)) (a : SplitBook T) (last : LastSends T) → IsSettledAs done a → last ≡ a.last → IsSettledAs done (record a { last = last })
  not_renewed done a last s same = record {
    last = subst (λ (l : LastSends T). AreLast (λ x. last_noted done x) l) (sym same) s.last;
    flows = ap (λ (l : LastSends T). length l.sends) same ∙ s.flows;
    splits = s.splits;
    besides = s.besides;
  }

  pub came_first : (done : List (Noted T)) (later : Noted T) (a : SplitBook T) (last : LastSends T) → IsSettledAs done a → AreLast (with_send (λ x. last_noted done x) later) last
      → length last.sends ≡ length a.last.sends + (if is_some (last_noted done later.sending.flow) then 0 else 1) → last_noted done later.sending.flow ≡ None → IsSettledAs (later ∷ done) (record a { last = last })
  came_first done later a last s h flows none =
      settled_more done later a (record a { last = last }) s h flows
      (sym (ap (λ (o : Option (Noted T)). a.splits.items ++ split_with o later) none ∙ append-nil a.splits.items)) (sym (ap (λ (o : Option (Noted T)). a.besides.items ++ beside_with o later) none ∙ append-nil a.besides.items))

  pub compared : {E : Type 0} (r : Result (Unit {0}) E) (done : List (Noted T)) (first later : Noted T) (a : SplitBook T) (last : LastSends T) (b : SplitBook T) → IsSettledAs done a
      → AreLast (with_send (λ x. last_noted done x) later) last → length last.sends ≡ length a.last.sends + (if is_some (last_noted done later.sending.flow) then 0 else 1)
      → last_noted done later.sending.flow ≡ Some first → OnOk r (b.splits.items ≡ a.splits.items ++ split_with (Some first) later) → OnOk r (b.besides.items ≡ a.besides.items ++ beside_with (Some first) later)
      → b.last ≡ last → OnOk r (IsSettledAs (later ∷ done) b)
  compared (Err e) done first later a last b s h flows is splits besides same = tt
  compared (Ok u) done first later a last b s h flows is splits besides same =
      settled_more done later a b s (subst (λ (l : LastSends T). AreLast (with_send (λ x. last_noted done x) later) l) (sym same) h) (ap (λ (l : LastSends T). length l.sends) same ∙ flows)
      (splits ∙ ap (λ (o : Option (Noted T)). a.splits.items ++ split_with o later) (sym is)) (besides ∙ ap (λ (o : Option (Noted T)). a.besides.items ++ beside_with o later) (sym is))
