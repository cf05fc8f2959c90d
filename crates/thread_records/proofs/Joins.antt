-- What is said of one node doesn't matter to another.
use Rattle.std.proofs.Common.{◌≡◌, ℕ, ◌+◌, ◌<◌, ◌≤◌, Bool, List, [], ◌∷◌, ◌++◌, take, length, get_or, suc, zero, Some, refl, sym, ap, ◌∙◌, subst, arith, append_assoc, Result, Ok, Err}
use Rattle.std.specs.Prelude.{nat_lt, if◌then◌else◌, slice_get, IfOk}
use Rattle.std.proofs.lemmas.Bool.{eq-eqb, ne_eqb}
use Rattle.std.proofs.lemmas.List.{take_more, append-nil}
use Rattle.cluster_node.specs.declared.packets.Packet.{Packet}
use Rattle.cluster_node.specs.declared.events.Event.{Event}
use Rattle.cluster_node.specs.declared.events.LogEntry.{LogEntry}
use Rattle.cluster_node.specs.declared.outcomes.Outcome.{Outcome}
use Rattle.cluster_node.specs.declared.outcomes.Outcome.TheVariants.{Refused}
use Rattle.cluster_node.specs.declared.outcomes.Reason.TheVariants.{NoNode}
use Rattle.cluster_node.specs.Rules.{Rules}
use Rattle.cluster_node.specs.Record.{node_verdict}
use Rattle.cluster_node.specs.Records.{node_of, of_node}
use Rattle.cluster_core.specs.Runs.{verdict, say, verdicts, packet_of}
use Rattle.thread_records.specs.declared.nodes.NodeRecord.{NodeRecord}
use Rattle.thread_records.specs.Histories.{said_on, past_of, AreOf}
use Rattle.thread_records.specs.Joins.{all_events, all_outcomes, EachTold}
use Rattle.thread_records.specs.Runs.{AreRuns}
use Rattle.thread_records.specs.declared.command.Command.{Command}
use Rattle.thread_records.proofs.Histories.{said_append, verdicts_append}

module _ (rules : Rules) (packets : List Packet) where
  -- an event's verdict depends on what was said of its node alone
  same_verdict : (a b : List LogEntry) (e : Event) → of_node (node_of e) a ≡ of_node (node_of e) b → verdict rules a e (packet_of packets e) ≡ verdict rules b e (packet_of packets e)
  same_verdict a b e h = ap (λ (l : List LogEntry). if nat_lt (node_of e) rules.nodes then node_verdict rules l e (packet_of packets e) else Refused NoNode) h

  one_more : (n : ℕ) (a b : List LogEntry) (e : Event) → node_of e ≡ n → of_node n a ≡ of_node n b → of_node n (say rules a e (packet_of packets e) ∷ a) ≡ of_node n (say rules b e (packet_of packets e) ∷ b)
  one_more n a b e own h =
      let v : verdict rules a e (packet_of packets e) ≡ verdict rules b e (packet_of packets e) = same_verdict a b e (subst (λ (m : ℕ). of_node m a ≡ of_node m b) (sym own) h) in
      ap (λ (c : Bool). if c then say rules a e (packet_of packets e) ∷ of_node n a else of_node n a) (eq-eqb (node_of e) n own)
      ∙ ap (λ (o : Outcome). record { event = e; packet = packet_of packets e; outcome = o } ∷ of_node n a) v
      ∙ ap (λ (l : List LogEntry). say rules b e (packet_of packets e) ∷ l) h
      ∙ ap (λ (c : Bool). if c then say rules b e (packet_of packets e) ∷ of_node n b else of_node n b) (sym (eq-eqb (node_of e) n own))

  verdicts_apart : (n : ℕ) (a b : List LogEntry) (es : List Event) → AreOf n es → of_node n a ≡ of_node n b → verdicts rules a packets es ≡ verdicts rules b packets es
  verdicts_apart n a b [] own h = refl
  verdicts_apart n a b (e ∷ es) own h =
      ap (λ (o : Outcome). o ∷ verdicts rules (say rules a e (packet_of packets e) ∷ a) packets es) (same_verdict a b e (subst (λ (m : ℕ). of_node m a ≡ of_node m b) (sym own.0) h))
      ∙ ap (λ (os : List Outcome). verdict rules b e (packet_of packets e) ∷ os) (verdicts_apart n (say rules a e (packet_of packets e) ∷ a) (say rules b e (packet_of packets e) ∷ b) es own.1 (one_more n a b e own.0 h))

  said_apart : (n : ℕ) (a b : List LogEntry) (es : List Event) → AreOf n es → of_node n a ≡ of_node n b → of_node n (said_on rules a packets es) ≡ of_node n (said_on rules b packets es)
  said_apart n a b [] own h = h
  said_apart n a b (e ∷ es) own h = said_apart n (say rules a e (packet_of packets e) ∷ a) (say rules b e (packet_of packets e) ∷ b) es own.1 (one_more n a b e own.0 h)

  -- and says nothing of another node
  said_other : (n m : ℕ) (past : List LogEntry) (es : List Event) → AreOf n es → (n ≡ m → ⊥) → of_node m (said_on rules past packets es) ≡ of_node m past
  said_other n m past [] own ne = refl
  said_other n m past (e ∷ es) own ne =
      said_other n m (say rules past e (packet_of packets e) ∷ past) es own.1 ne
      ∙ ap (λ (c : Bool). if c then say rules past e (packet_of packets e) ∷ of_node m past else of_node m past) (ne_eqb (node_of e) m (λ s. ne (sym own.0 ∙ s)))

  -- the nodes' histories, one after another
  whole_after : (k : ℕ) (past : List LogEntry) (rs : List NodeRecord) → ((m : ℕ) → k ≤ m → of_node m past ≡ []) → EachTold rules packets k rs → verdicts rules past packets (all_events rs) ≡ all_outcomes rs
  whole_after k past [] none t = refl
  whole_after k past (r ∷ rs) none t =
      verdicts_append rules past packets r.events.items (all_events rs)
      ∙ ap (λ (os : List Outcome). os ++ verdicts rules (said_on rules past packets r.events.items) packets (all_events rs)) (verdicts_apart k past [] r.events.items t.0 (none k (omega arith)) ∙ sym t.1)
      ∙ ap (λ (os : List Outcome). r.outcomes.items ++ os) (whole_after (k + 1) (said_on rules past packets r.events.items) rs (λ m h. said_other k m past r.events.items t.0 (λ e. absurd (omega arith)) ∙ none m (omega arith)) t.2)

  pub whole : (rs : List NodeRecord) → EachTold rules packets 0 rs → all_outcomes rs ≡ verdicts rules [] packets (all_events rs)
  whole rs t = sym (whole_after 0 [] rs (λ m h. refl) t)

  -- later nodes' histories say nothing of an earlier node
  later : (k m : ℕ) (past : List LogEntry) (rs : List NodeRecord) → m < k → EachTold rules packets k rs → of_node m (said_on rules past packets (all_events rs)) ≡ of_node m past
  later k m past [] h t = refl
  later k m past (r ∷ rs) h t =
      ap (of_node m) (said_append rules past packets r.events.items (all_events rs))
      ∙ later (k + 1) m (said_on rules past packets r.events.items) rs (omega arith) t.2
      ∙ said_other k m past r.events.items t.0 (λ e. absurd (omega arith))

  own_after : (k i : ℕ) (past : List LogEntry) (rs : List NodeRecord) (r : NodeRecord) → ((m : ℕ) → k ≤ m → of_node m past ≡ []) → EachTold rules packets k rs → slice_get rs i ≡ Some r → of_node (k + i) (said_on rules past packets (all_events rs)) ≡ past_of rules packets (k + i) r.events.items
  own_after k i past [] r none t h = absurd (cc)
  own_after k zero past (q ∷ rs) r none t h =
      let s : q ≡ r = cc in
      let z : k + 0 ≡ k = omega arith in
      ap (λ (n : ℕ). of_node n (said_on rules past packets (q.events.items ++ all_events rs))) z
      ∙ ap (of_node k) (said_append rules past packets q.events.items (all_events rs))
      ∙ later (k + 1) k (said_on rules past packets q.events.items) rs (omega arith) t.2
      ∙ said_apart k past [] q.events.items t.0 (none k (omega arith))
      ∙ ap (λ (p : NodeRecord). past_of rules packets k p.events.items) s
      ∙ ap (λ (n : ℕ). past_of rules packets n r.events.items) (sym z)
  own_after k (suc i) past (q ∷ rs) r none t h =
      let s : k + suc i ≡ (k + 1) + i = omega arith in
      ap (λ (n : ℕ). of_node n (said_on rules past packets (q.events.items ++ all_events rs))) s
      ∙ ap (of_node (k + 1 + i)) (said_append rules past packets q.events.items (all_events rs))
      ∙ own_after (k + 1) i (said_on rules past packets q.events.items) rs r (λ m lt. said_other k m past q.events.items t.0 (λ e. absurd (omega arith)) ∙ none m (omega arith)) t.2 h
      ∙ ap (λ (n : ℕ). past_of rules packets n r.events.items) (sym s)

  pub own : (rs : List NodeRecord) (n : ℕ) (r : NodeRecord) → EachTold rules packets 0 rs → slice_get rs n ≡ Some r → past_of rules packets n (all_events rs) ≡ past_of rules packets n r.events.items
  own rs n r t h =
      let z : 0 + n ≡ n = omega arith in
      ap (λ (m : ℕ). past_of rules packets m (all_events rs)) (sym z) ∙ own_after 0 n [] rs r (λ m h. refl) t h ∙ ap (λ (m : ℕ). past_of rules packets m r.events.items) z

pub events_more : (rs : List NodeRecord) (i : ℕ) (d : NodeRecord) → i < length rs → all_events (take (i + 1) rs) ≡ all_events (take i rs) ++ (get_or rs i d).events.items
events_more rs i d h = ap all_events (take_more rs i d h) ∙ push (take i rs) (get_or rs i d)
  where
    push : (qs : List NodeRecord) (r : NodeRecord) → all_events (qs ++ r ∷ []) ≡ all_events qs ++ r.events.items
    push [] r = append-nil r.events.items
    push (q ∷ qs) r = ap (λ (l : List Event). q.events.items ++ l) (push qs r) ∙ sym (append_assoc q.events.items (all_events qs) r.events.items)

pub outcomes_more : (rs : List NodeRecord) (i : ℕ) (d : NodeRecord) → i < length rs → all_outcomes (take (i + 1) rs) ≡ all_outcomes (take i rs) ++ (get_or rs i d).outcomes.items
outcomes_more rs i d h = ap all_outcomes (take_more rs i d h) ∙ push (take i rs) (get_or rs i d)
  where
    push : (qs : List NodeRecord) (r : NodeRecord) → all_outcomes (qs ++ r ∷ []) ≡ all_outcomes qs ++ r.outcomes.items
    push [] r = append-nil r.outcomes.items
    push (q ∷ qs) r = ap (λ (l : List Outcome). q.outcomes.items ++ l) (push qs r) ∙ sym (append_assoc q.outcomes.items (all_outcomes qs) r.outcomes.items)

pub both_ok : {A E : Type 0} {P Q R : A → Type 0} (r : Result A E) → ((a : A) → P a → Q a → R a) → IfOk r P → IfOk r Q → IfOk r R
both_ok (Ok a) f p q = f a p q
both_ok (Err e) f p q = p

pub all_ok : {A E : Type 0} {P Q R S T : A → Type 0} (r : Result A E) → ((a : A) → P a → Q a → R a → S a → T a) → IfOk r P → IfOk r Q → IfOk r R → IfOk r S → IfOk r T
all_ok (Ok a) f p q s t = f a p q s t
all_ok (Err e) f p q s t = p

-- runs are told
pub runs_told : (rules : Rules) (packets : List Packet) (ring k : ℕ) (cs : List (List Command)) (rs : List NodeRecord) → AreRuns rules packets ring k cs rs → EachTold rules packets k rs
runs_told rules packets ring k [] [] t = tt
runs_told rules packets ring k [] (r ∷ rs) t = absurd t
runs_told rules packets ring k (c ∷ cs) [] t = tt
runs_told rules packets ring k (c ∷ cs) (r ∷ rs) t = (t.0.own, t.0.told, runs_told rules packets ring (k + 1) cs rs t.1)
