-- The nodes' histories with the packets that arrivals name, one after another.
use Rattle.std.proofs.Common.{◌≡◌, ℕ, zero, suc, ◌+◌, ◌<◌, List, [], ◌∷◌, ◌++◌, length, take, drop, get_or, reverse, Some, None, refl, sym, ap, ◌∙◌, append_assoc, arith, ◌⊎◌, inl, inr}
use Rattle.std.specs.Prelude.{slice_get}
use Rattle.std.proofs.lemmas.List.{append-nil, reverse-append, reverse-reverse, drop_more}
use Rattle.std.proofs.lemmas.Option.{slice_get_within, get_or_from_slice_get, none-some}
use Rattle.std.proofs.lemmas.List.Elements.{All-take}
use Rattle.cluster_node.specs.declared.packets.Packet.{Packet}
use Rattle.cluster_node.specs.declared.events.Event.{Event}
use Rattle.cluster_node.specs.declared.events.LogEntry.{LogEntry}
use Rattle.cluster_node.specs.declared.outcomes.Outcome.{Outcome}
use Rattle.cluster_core.specs.Runs.{packet_of}
use Rattle.thread_records.specs.declared.nodes.NodeRecord.{NodeRecord}
use Rattle.thread_records.specs.Joins.{all_events, all_outcomes}
use Rattle.thread_records.proofs.Joins.{events_more, outcomes_more}
use Rattle.run_scenario.specs.Runs.{said_with}
use Rattle.run_scenario.specs.PrivateHistories.{AreEven, said_whole}
use Rattle.run_scenario.proofs.OneByOne.{all_even}

module _ (packets : List Packet) where
  -- what is said by two histories one after the other
  whole_append : (es fs : List Event) (os ps : List Outcome) → length os ≡ length es → said_with packets (es ++ fs) (os ++ ps) ≡ said_with packets es os ++ said_with packets fs ps
  whole_append [] fs [] ps h = refl
  whole_append [] fs (o ∷ os) ps h = absurd (omega arith)
  whole_append (e ∷ es) fs [] ps h = absurd (omega arith)
  whole_append (e ∷ es) fs (o ∷ os) ps h = ap (λ (l : List LogEntry). record { event = e; packet = packet_of packets e; outcome = o } ∷ l) (whole_append es fs os ps (omega arith))

  pub whole_more : (rs : List NodeRecord) (i : ℕ) (r : NodeRecord) → i < length rs → r ≡ get_or rs i r → AreEven rs → said_whole packets (take (i + 1) rs) ≡ reverse (said_with packets r.events.items r.outcomes.items) ++ said_whole packets (take i rs)
  whole_more rs i r lt is even =
      let es = all_events (take i rs) in
      let os = all_outcomes (take i rs) in
      ap (λ (l : List Event). reverse (said_with packets l (all_outcomes (take (i + 1) rs)))) (events_more rs i r lt ∙ ap (λ (q : NodeRecord). es ++ q.events.items) (sym is))
      ∙ ap (λ (l : List Outcome). reverse (said_with packets (es ++ r.events.items) l)) (outcomes_more rs i r lt ∙ ap (λ (q : NodeRecord). os ++ q.outcomes.items) (sym is))
      ∙ ap (λ (l : List LogEntry). reverse l) (whole_append es r.events.items os r.outcomes.items (all_even (take i rs) (All-take (λ (q : NodeRecord). length q.outcomes.items ≡ length q.events.items) i rs even)))
      ∙ reverse-append (said_with packets es os) (said_with packets r.events.items r.outcomes.items)

  -- one event more of a node
  pub event_more : (past : List LogEntry) (es fs : List Event) (os ps : List Outcome) (e : Event) (o : Outcome) (whole : List LogEntry) → es ≡ e ∷ fs → os ≡ o ∷ ps
      → reverse past ++ said_with packets es os ≡ whole → reverse (record { event = e; packet = packet_of packets e; outcome = o } ∷ past) ++ said_with packets fs ps ≡ whole
  event_more past es fs os ps e o whole front back h =
      let s : LogEntry = record { event = e; packet = packet_of packets e; outcome = o } in
      let step : said_with packets es os ≡ s ∷ said_with packets fs ps = ap (λ (l : List Event). said_with packets l os) front ∙ ap (λ (l : List Outcome). said_with packets (e ∷ fs) l) back in
      ap (λ (l : List LogEntry). l ++ said_with packets fs ps) (reverse-append (s ∷ []) past) ∙ append_assoc (reverse past) (s ∷ []) (said_with packets fs ps)
      ∙ ap (λ (l : List LogEntry). reverse past ++ l) (sym step) ∙ h

  none_said : (es : List Event) (os : List Outcome) → (es ≡ []) ⊎ (os ≡ []) → said_with packets es os ≡ []
  none_said es os (inl h) = ap (λ (l : List Event). said_with packets l os) h
  none_said [] os (inr h) = refl
  none_said (e ∷ es) os (inr h) = ap (λ (l : List Outcome). said_with packets (e ∷ es) l) h

  -- the same behind the events before
  pub event_end : (first past : List LogEntry) (es : List Event) (os : List Outcome) (more : List LogEntry) → (es ≡ []) ⊎ (os ≡ []) → reverse past ++ said_with packets es os ≡ reverse first ++ more → past ≡ reverse more ++ first
  event_end first past es os more none h =
      let all : reverse past ≡ reverse first ++ more = sym (append-nil (reverse past)) ∙ ap (λ (l : List LogEntry). reverse past ++ l) (sym (none_said es os none)) ∙ h in
      sym (reverse-reverse past) ∙ ap reverse all ∙ reverse-append (reverse first) more ∙ ap (λ (l : List LogEntry). reverse more ++ l) (reverse-reverse first)

-- a list from a place on, where something stands there
pub drop_at : {A : Type 0} → (xs : List A) (k : ℕ) (x : A) → slice_get xs k ≡ Some x → drop k xs ≡ x ∷ drop (k + 1) xs
drop_at {A} xs k x h = drop_more xs k x (slice_get_within xs k x h) ∙ ap (λ (y : A). y ∷ drop (k + 1) xs) (get_or_from_slice_get xs k x x h)

-- and where nothing does
pub drop_past : {A : Type 0} → (xs : List A) (k : ℕ) → slice_get xs k ≡ None → drop k xs ≡ []
drop_past [] zero h = refl
drop_past [] (suc k) h = refl
drop_past (x ∷ xs) zero h = absurd (none-some x (sym h))
drop_past (x ∷ xs) (suc k) h = drop_past xs k h
