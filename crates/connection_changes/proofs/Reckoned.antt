-- A send more among those of connections.
use Rattle.std.proofs.Common.{◌≡◌, ℕ, ◌+◌, Bool, true, false, List, [], ◌∷◌, ◌++◌, length, map, Option, Some, None, Result, Ok, Err, refl, sym, ap, ◌∙◌, subst, cond, arith}
use Rattle.std.specs.Prelude.{◌&&◌, ◌||◌, not, OnOk, is_some, if◌then◌else◌}
use Rattle.std.specs.HashMap.{get, hash_map_len}
use Rattle.std.specs.HashSet.{contains, hash_set_len}
use Rattle.std.proofs.lemmas.List.{append-nil, map-append}
use Rattle.std.proofs.lemmas.Option.{same_Some, none-some}
use Rattle.five_tuple.specs.declared.Flow.{Flow}
use Rattle.selection.specs.Readied.{same_backend}
use Rattle.run_report.specs.declared.noted.Noted.{Noted}
use Rattle.run_report.specs.declared.sending.Split.{Split}
use Rattle.connection_changes.specs.declared.causes.Change.{Change}
use Rattle.connection_changes.specs.declared.sites.Site.{Site}
use Rattle.connection_changes.specs.declared.turned.Connection.{Connection}
use Rattle.connection_changes.specs.declared.turned.TurnedBook.{TurnedBook}
use Rattle.connection_changes.specs.Turns.{Reckoning, is_of, last_of, last_before, is_change, change_by, change_with, changes_by_turn, has_changed, changed_by}
use Rattle.connection_changes.specs.TurnedBooks.{same_connection, AreTurned, IsTurnedBookOf}
use Rattle.connection_changes.specs.Books.{AreClocksOf, placed_of}
use Rattle.connection_changes.specs.Sites.{site_in}
use Rattle.connection_starts.specs.declared.ordinals.Ordinals.{Ordinals}
use Rattle.connection_starts.specs.Captures.{answered}
use Rattle.cluster_node.specs.declared.events.LogEntry.{LogEntry}
use Rattle.run_report.specs.declared.sending.Sending.{Sending}
use Rattle.run_report.specs.Splits.{sent_by}
use Rattle.run_report.specs.Noting.{noted_with}

abbrev made : ℕ → ℕ → List Split → List Change → Reckoning
made a b ps cs = record { connections = a; changed = b; splits = ps; changes = cs }

pub same_reckoning : (a a' b b' : ℕ) (ps qs : List Split) (cs ds : List Change) → a ≡ a' → b ≡ b' → ps ≡ qs → cs ≡ ds
    → made a b ps cs ≡ made a' b' qs ds
same_reckoning a a' b b' ps qs cs ds one two three four =
    ap (λ (n : ℕ). made n b ps cs) one ∙ ap (λ (n : ℕ). made a' n ps cs) two ∙ ap (λ (xs : List Split). made a' b' xs cs) three ∙ ap (λ (xs : List Change). made a' b' qs xs) four

module _ (turn : ℕ → ℕ) (ns : List (Noted Site)) (later : Noted Site) where
  abbrev key : Connection
  key = record { flow = later.sending.flow; ordinal = turn later.beside.packet }

  abbrev before : Option (Noted Site)
  before = last_before turn ns later

  last_put : (old new : TurnedBook) → ((q : Connection) → get same_connection old.last q ≡ last_of turn ns q.flow q.ordinal)
      → ((q : Connection) → get same_connection new.last q ≡ cond (same_connection key q) (Some later) (get same_connection old.last q))
      → (q : Connection) → get same_connection new.last q ≡ last_of turn (later ∷ ns) q.flow q.ordinal
  last_put old new h put q = put q ∙ go (same_connection key q)
    where
      go : (b : Bool) → cond b (Some later) (get same_connection old.last q) ≡ (if b then Some later else last_of turn ns q.flow q.ordinal)
      go true = refl
      go false = h q

  none_changed : is_change before later ≡ false → (x : Flow) (j : ℕ) → has_changed turn (later ∷ ns) x j ≡ has_changed turn ns x j
  none_changed stayed x j = ap (λ (c : Bool). (is_of turn x j later && c) || has_changed turn ns x j) stayed ∙ go (is_of turn x j later)
    where
      go : (b : Bool) → ((b && false) || has_changed turn ns x j) ≡ has_changed turn ns x j
      go true = refl
      go false = refl

  none_counted : is_change before later ≡ false → changed_by turn (later ∷ ns) ≡ changed_by turn ns
  none_counted stayed =
      ap (λ (c : Bool). changed_by turn ns + (if c && not (has_changed turn ns later.sending.flow (turn later.beside.packet)) then 1 else 0)) stayed
      ∙ (let e : changed_by turn ns + 0 ≡ changed_by turn ns = omega arith in e)

  quiet : (o : Option (Noted Site)) → is_change o later ≡ false → change_with o later ≡ []
  quiet None h = refl
  quiet (Some first) h = go (same_backend first.sending.backend later.sending.backend) h
    where
      go : (b : Bool) → not b ≡ false → (if b then [] else change_by first later ∷ []) ≡ []
      go true h = refl
      go false h = absurd cc

  -- the connection goes on with the same backend, or begins
  pub stays : (old new : TurnedBook) → AreTurned turn ns old → ((q : Connection) → get same_connection new.last q ≡ cond (same_connection key q) (Some later) (get same_connection old.last q))
      → hash_map_len new.last ≡ hash_map_len old.last + (if is_some before then 0 else 1) → is_change before later ≡ false
      → new.changed ≡ old.changed → new.splits ≡ old.splits → new.changes ≡ old.changes → AreTurned turn (later ∷ ns) new
  stays old new h put len stayed changed splits changes = record {
    last = last_put old new h.last put;
    connections = len ∙ ap (λ (k : ℕ). k + (if is_some before then 0 else 1)) h.connections;
    each = λ q. ap (λ s. contains same_connection s q) changed ∙ h.each q ∙ sym (none_changed stayed q.flow q.ordinal);
    changed = ap hash_set_len changed ∙ h.changed ∙ sym (none_counted stayed);
    splits = ap (λ v. v.items) splits ∙ h.splits ∙ ap (λ (cs : List Change). map (λ c. c.split) cs) (sym same);
    changes = ap (λ v. v.items) changes ∙ h.changes ∙ sym same;
  }
    where
      same : changes_by_turn turn (later ∷ ns) ≡ changes_by_turn turn ns
      same = ap (λ (cs : List Change). changes_by_turn turn ns ++ cs) (quiet before stayed) ∙ append-nil (changes_by_turn turn ns)

  one_with : (o : Option (Noted Site)) (first : Noted Site) → o ≡ Some first → is_change o later ≡ true → change_with o later ≡ change_by first later ∷ []
  one_with None first h moved = absurd (none-some first h)
  one_with (Some f) first h moved = go (same_backend f.sending.backend later.sending.backend) moved ∙ ap (λ (n : Noted Site). change_by n later ∷ []) (same_Some f first h)
    where
      go : (b : Bool) → not b ≡ true → (if b then [] else change_by f later ∷ []) ≡ change_by f later ∷ []
      go true h = absurd cc
      go false h = refl

  -- the connection goes on with another backend
  pub differs : {E : Type 0} (r : Result (Unit {0}) E) (old put new : TurnedBook) (c : Connection) (first : Noted Site) (found : Option (Noted Site)) → AreTurned turn ns old → c ≡ key
      → ((q : Connection) → get same_connection put.last q ≡ cond (same_connection c q) (Some later) (get same_connection old.last q))
      → found ≡ get same_connection old.last c → hash_map_len put.last ≡ hash_map_len old.last + (if is_some found then 0 else 1) → found ≡ Some first
      → not (same_backend first.sending.backend later.sending.backend) ≡ true → new.last ≡ put.last
      → OnOk r ((q : Connection) → contains same_connection new.changed q ≡ (if same_connection c q then true else contains same_connection old.changed q))
      → OnOk r (hash_set_len new.changed ≡ hash_set_len old.changed + (if contains same_connection old.changed c then 0 else 1))
      → OnOk r (new.splits.items ≡ old.splits.items ++ (change_by first later).split ∷ []) → OnOk r (new.changes.items ≡ old.changes.items ++ change_by first later ∷ []) → OnOk r (AreTurned turn (later ∷ ns) new)
  differs (Err e) old put new c first found h k puts was len is apart rest each count splits more = tt
  differs (Ok u) old put new c first found h k puts was len is apart rest each count splits more = record {
    last = λ q. ap (λ m. get same_connection m q) rest ∙ last_put old put h.last (λ x. puts x ∙ ap (λ (d : Connection). cond (same_connection d x) (Some later) (get same_connection old.last x)) k) q;
    connections = ap hash_map_len rest ∙ len ∙ ap (λ (o : Option (Noted Site)). hash_map_len old.last + (if is_some o then 0 else 1)) same_before ∙ ap (λ (n : ℕ). n + (if is_some before then 0 else 1)) h.connections;
    each = λ q. each q ∙ ap (λ (d : Connection). if same_connection d q then true else contains same_connection old.changed q) k ∙ changed_at q (same_connection key q)
        ∙ sym (ap (λ (b : Bool). (is_of turn q.flow q.ordinal later && b) || has_changed turn ns q.flow q.ordinal) moved);
    changed = count ∙ ap (λ (n : ℕ). n + (if contains same_connection old.changed c then 0 else 1)) h.changed
        ∙ ap (λ (b : Bool). changed_by turn ns + (if b then 0 else 1)) (ap (λ (d : Connection). contains same_connection old.changed d) k ∙ h.each key)
        ∙ other_way (has_changed turn ns key.flow key.ordinal)
        ∙ sym (ap (λ (b : Bool). changed_by turn ns + (if b && not (has_changed turn ns key.flow key.ordinal) then 1 else 0)) moved);
    splits = splits ∙ ap (λ (ps : List Split). ps ++ (change_by first later).split ∷ []) h.splits
        ∙ sym (map-append (λ d. d.split) (changes_by_turn turn ns) (change_by first later ∷ [])) ∙ ap (λ (cs : List Change). map (λ d. d.split) cs) (sym same);
    changes = more ∙ ap (λ (cs : List Change). cs ++ change_by first later ∷ []) h.changes ∙ sym same;
  }
    where
      same_before : found ≡ before
      same_before = was ∙ ap (λ (d : Connection). get same_connection old.last d) k ∙ h.last key

      moved : is_change before later ≡ true
      moved = ap (λ (o : Option (Noted Site)). is_change o later) (sym same_before ∙ is) ∙ apart

      same : changes_by_turn turn (later ∷ ns) ≡ changes_by_turn turn ns ++ change_by first later ∷ []
      same = ap (λ (cs : List Change). changes_by_turn turn ns ++ cs) (one_with before first (sym same_before ∙ is) moved)

      changed_at : (q : Connection) (b : Bool) → (if b then true else contains same_connection old.changed q) ≡ ((b && true) || has_changed turn ns q.flow q.ordinal)
      changed_at q true = refl
      changed_at q false = h.each q

      other_way : (b : Bool) → changed_by turn ns + (if b then 0 else 1) ≡ changed_by turn ns + (if true && not b then 1 else 0)
      other_way true = refl
      other_way false = refl

-- one event more that sent something
pub sent_more : (o : Ordinals) (past : List LogEntry) (s : LogEntry) (old sent new : TurnedBook) (number : ℕ) (sending : Sending) (site : Site) → IsTurnedBookOf o past old → sent.ordinals ≡ old.ordinals
    → number ≡ old.number + 1 → sent_by old.number s.event s.outcome ≡ Some sending → AreClocksOf (s ∷ past) sent.clocks → site ≡ site_in (s ∷ past) s.outcome
    → new ≡ record sent { number = number } → (AreTurned (λ k. answered o k) (placed_of past) old → AreTurned (λ k. answered o k) (record { sending = sending; beside = site } ∷ placed_of past) sent)
    → IsTurnedBookOf o (s ∷ past) new
sent_more o past s old sent new number sending site h same next is clocks here made turned =
    subst (λ (b : TurnedBook). IsTurnedBookOf o (s ∷ past) b) (sym made) (record {
      ordinals = same ∙ h.ordinals;
      number = let n : number ≡ old.number + 1 = next in let m : old.number ≡ length past = h.number in omega (arith, n, m);
      clocks = record { times = clocks.times; lives = clocks.lives; clocks = clocks.clocks };
      turned = let t = subst (λ (ns : List (Noted Site)). AreTurned (λ k. answered o k) ns sent) placed (turned h.turned) in
          record { last = t.last; connections = t.connections; each = t.each; changed = t.changed; splits = t.splits; changes = t.changes };
    })
  where
    placed : record { sending = sending; beside = site } ∷ placed_of past ≡ placed_of (s ∷ past)
    placed =
        ap (λ (x : Site). noted_with (Some sending) x (placed_of past)) here
        ∙ sym (ap (λ (q : Option Sending). noted_with q (site_in (s ∷ past) s.outcome) (placed_of past)) (sym (ap (λ (k : ℕ). sent_by k s.event s.outcome) h.number) ∙ is))
