-- Versions are prepared when they are first installed, and stay so.
use Rattle.std.proofs.Common.{◌≡◌, ℕ, Bool, true, false, cond, List, [], ◌∷◌, Option, Some, None, refl, sym, ap, ◌∙◌, subst}
use Rattle.std.specs.Prelude.{◌==◌, ◌||◌, if◌then◌else◌, nat_lt, is_some}
use Rattle.std.specs.List.{list_any}
use Rattle.std.specs.Option.{option_and_then}
use Rattle.std.proofs.lemmas.Bool.{false≢true, true≢false, eqb-true, eq-eqb, ne_eqb}
use Rattle.five_tuple.specs.declared.Flow.{Flow}
use Rattle.pool_versions.specs.declared.service.Version.{Version}
use Rattle.pool_versions.specs.Pool.{Pools, version_at}
use Rattle.selection.specs.Candidates.{candidates_under}
use Rattle.selection.specs.Readied.{Readied, readied_version}
use Rattle.selection.proofs.Versions.{ups_for_readied}
use Rattle.forwarder.specs.Serving.{Pick}
use Rattle.cluster_node.specs.Rules.{Rules}
use Rattle.cluster_node.specs.declared.events.LogEntry.{LogEntry}
use Rattle.cluster_node.specs.declared.packets.Packet.{Packet}
use Rattle.cluster_node.specs.declared.events.Event.{Event}
use Rattle.cluster_node.specs.declared.events.Event.TheVariants.{Install, Arrive, Serve, Restart}
use Rattle.cluster_node.specs.declared.outcomes.Outcome.{Outcome}
use Rattle.cluster_node.specs.declared.outcomes.Outcome.TheVariants.{Installed, Refused}
use Rattle.cluster_node.specs.declared.outcomes.Reason.TheVariants.{NoNode, NotNewer}
use Rattle.cluster_node.specs.Record.{accepted, installed_by, installed_of, newest_of, install_verdict, node_verdict, prepared_at, IsKnown, IsPrepared, ArePrepared}
use Rattle.cluster_core.specs.Setups.{Fixed, rules_for}
use Rattle.cluster_core.specs.Runs.{verdict, say, AreGood, prepared_with, prepared_above, prepared_if, prepared_for, is_known_in}
use Rattle.cluster_node.specs.Records.{node_of, of_node}

-- the version that an event installs, if the catalogue has it and it is above the node's newest, is prepared
abbrev pub NewIsPrepared : {S : Type 0} → (S → ℕ → Pick) → Rules → ℕ → List (Readied S) → Event → Type 0
NewIsPrepared pick_of rules newest versions (Install n v) = rules.known v ≡ true → nat_lt newest v ≡ true → IsPrepared pick_of rules versions v
NewIsPrepared pick_of rules newest versions (Arrive n k marks) = Unit {0}
NewIsPrepared pick_of rules newest versions (Serve n w v r) = Unit {0}
NewIsPrepared pick_of rules newest versions (Restart n) = Unit {0}

-- what an event of a node of this newest version leaves of the versions prepared
pub record MorePrepared {S : Type 0} (pick_of : S → ℕ → Pick) (rules : Rules) (newest : ℕ) (had versions : List (Readied S)) (e : Event) : Type 0 where
  pub good : AreGood pick_of rules versions
  pub kept : (v : ℕ) → IsPrepared pick_of rules had v → IsPrepared pick_of rules versions v
  pub new : NewIsPrepared pick_of rules newest versions e

-- an event that prepares nothing
pub none_more : {S : Type 0} (pick_of : S → ℕ → Pick) (rules : Rules) (newest : ℕ) (had : List (Readied S)) (e : Event) → AreGood pick_of rules had → NewIsPrepared pick_of rules newest had e → MorePrepared pick_of rules newest had had e
none_more pick_of rules newest had e good new = record { good = good; kept = λ v h. h; new = new }

newer_if : (b : Bool) → accepted (if b then Installed else Refused NotNewer) ≡ true → b ≡ true
newer_if true h = refl
newer_if false h = absurd (false≢true h)

newer_if_accepted : (known : Bool) (newest v : ℕ) → accepted (install_verdict known newest v) ≡ true → nat_lt newest v ≡ true
newer_if_accepted true newest v h = newer_if (nat_lt newest v) h
newer_if_accepted false newest v h = absurd (false≢true h)

known_if_accepted : (known : Bool) (newest v : ℕ) → accepted (install_verdict known newest v) ≡ true → known ≡ true
known_if_accepted true newest v h = refl
known_if_accepted false newest v h = absurd (false≢true h)

module _ {S : Type 0} (pick_of : S → ℕ → Pick) (rules : Rules) (versions : List (Readied S)) where
  one_more : (v : ℕ) (vs : List ℕ) → ArePrepared pick_of rules versions vs → IsPrepared pick_of rules versions v → ArePrepared pick_of rules versions (v ∷ vs)
  one_more v vs all here u h = go (v == u) refl h
    where
      go : (b : Bool) → (v == u) ≡ b → b || list_any (λ j. j == u) vs ≡ true → IsPrepared pick_of rules versions u
      go true e k = subst (λ (j : ℕ). IsPrepared pick_of rules versions j) (eqb-true v u e) here
      go false e k = all u k

  if_more : (b : Bool) (v : ℕ) (vs : List ℕ) → ArePrepared pick_of rules versions vs → (b ≡ true → IsPrepared pick_of rules versions v) → ArePrepared pick_of rules versions (if b then v ∷ vs else vs)
  if_more true v vs all here = one_more v vs all (here refl)
  if_more false v vs all here = all

  -- the versions installed with one more event of the node
  by_event : (had : List LogEntry) (e : Event) (x : Option Packet) → NewIsPrepared pick_of rules (newest_of had) versions e → ArePrepared pick_of rules versions (installed_of had) → ArePrepared pick_of rules versions (installed_by e (node_verdict rules had e x) (installed_of had))
  by_event had (Install n v) x new all = if_more (accepted (install_verdict (rules.known v) (newest_of had) v)) v (installed_of had) all (λ h. new (known_if_accepted (rules.known v) (newest_of had) v h) (newer_if_accepted (rules.known v) (newest_of had) v h))
  by_event had (Arrive n k marks) x new all = all
  by_event had (Serve n w v r) x new all = all
  by_event had (Restart n) x new all = all

  refused_leaves : (e : Event) (vs : List ℕ) → installed_by e (Refused NoNode) vs ≡ vs
  refused_leaves (Install n v) vs = refl
  refused_leaves (Arrive n k marks) vs = refl
  refused_leaves (Serve n w v r) vs = refl
  refused_leaves (Restart n) vs = refl

  by_verdict : (past : List LogEntry) (e : Event) (x : Option Packet) → NewIsPrepared pick_of rules (newest_of (of_node (node_of e) past)) versions e → ArePrepared pick_of rules versions (installed_of (of_node (node_of e) past)) → (b : Bool) → ArePrepared pick_of rules versions (installed_by e (if b then node_verdict rules (of_node (node_of e) past) e x else Refused NoNode) (installed_of (of_node (node_of e) past)))
  by_verdict past e x new all true = by_event (of_node (node_of e) past) e x new all
  by_verdict past e x new all false = subst (λ (vs : List ℕ). ArePrepared pick_of rules versions vs) (sym (refused_leaves e (installed_of (of_node (node_of e) past)))) all

  of_other : (past : List LogEntry) (e : Event) (x : Option Packet) (n : ℕ) → ArePrepared pick_of rules versions (installed_of (of_node n past)) → (b : Bool) → (b ≡ true → ArePrepared pick_of rules versions (installed_by e (verdict rules past e x) (installed_of (of_node n past)))) → ArePrepared pick_of rules versions (installed_of (if b then say rules past e x ∷ of_node n past else of_node n past))
  of_other past e x n all true own = own refl
  of_other past e x n all false own = all

  said_prepared : (past : List LogEntry) (e : Event) (x : Option Packet) → NewIsPrepared pick_of rules (newest_of (of_node (node_of e) past)) versions e → ((n : ℕ) → ArePrepared pick_of rules versions (installed_of (of_node n past))) → (n : ℕ) → ArePrepared pick_of rules versions (installed_of (of_node n (say rules past e x ∷ past)))
  said_prepared past e x new all n = of_other past e x n (all n) (node_of e == n) (λ h.
      subst (λ (m : ℕ). ArePrepared pick_of rules versions (installed_by e (verdict rules past e x) (installed_of (of_node m past)))) (eqb-true (node_of e) n h)
      (by_verdict past e x new (all (node_of e)) (nat_lt (node_of e) rules.nodes)))

-- all that is installed after an event is prepared
pub still_prepared : {S : Type 0} (pick_of : S → ℕ → Pick) (rules : Rules) (past : List LogEntry) (had versions : List (Readied S)) (e : Event) (x : Option Packet) → MorePrepared pick_of rules (newest_of (of_node (node_of e) past)) had versions e → ((n : ℕ) → ArePrepared pick_of rules had (installed_of (of_node n past))) → (n : ℕ) → ArePrepared pick_of rules versions (installed_of (of_node n (say rules past e x ∷ past)))
still_prepared pick_of rules past had versions e x more all n = said_prepared pick_of rules versions past e x more.new (λ m v h. more.kept v (all m v h)) n

-- an event of no node installs nothing
pub none_installed : {S : Type 0} (pick_of : S → ℕ → Pick) (rules : Rules) (past : List LogEntry) (versions : List (Readied S)) (e : Event) (x : Option Packet) → verdict rules past e x ≡ Refused NoNode → ((n : ℕ) → ArePrepared pick_of rules versions (installed_of (of_node n past))) → (n : ℕ) → ArePrepared pick_of rules versions (installed_of (of_node n (say rules past e x ∷ past)))
none_installed pick_of rules past versions e x h all n = of_other pick_of rules versions past e x n (all n) (node_of e == n)
    (λ d. subst (λ (o : Outcome). ArePrepared pick_of rules versions (installed_by e o (installed_of (of_node n past)))) (sym h)
    (subst (λ (vs : List ℕ). ArePrepared pick_of rules versions vs) (sym (refused_leaves pick_of rules versions e (installed_of (of_node n past)))) (all n)))

-- A version of the catalogue that is prepared now
module _ {S : Type 0} (pick_of : S → ℕ → Pick) (rules : Rules) (scheme : S) (size : ℕ) (w : Version) (had : List (Readied S)) where
  abbrev pub New : Readied S
  New = readied_version scheme size w

  abbrev pub Fits : Type 0
  Fits = (pick_of scheme size ≡ rules.pick) × ((x : Flow) → candidates_under w x ≡ rules.ups w.number x)

  first_is : Fits → IsPrepared pick_of rules (New ∷ had) w.number
  first_is fits = record {
    version = New;
    found = ap (λ (b : Bool). cond b (Some New) (prepared_at w.number had)) (eq-eqb w.number w.number refl);
    number = refl;
    pick = fits.0;
    ups = λ x. ups_for_readied scheme size x w ∙ fits.1 x;
  }

  behind : is_some (prepared_at w.number had) ≡ false → (v : ℕ) → IsPrepared pick_of rules had v → IsPrepared pick_of rules (New ∷ had) v
  behind none v p = record {
    version = p.version;
    found = ap (λ (b : Bool). cond b (Some New) (prepared_at v had)) (ne_eqb w.number v (λ e. true≢false (ap (λ (o : Option (Readied S)). is_some o) (sym p.found) ∙ ap (λ (k : ℕ). is_some (prepared_at k had)) (sym e) ∙ none))) ∙ p.found;
    number = p.number;
    pick = p.pick;
    ups = p.ups;
  }

  new_good : Fits → is_some (prepared_at w.number had) ≡ false → AreGood pick_of rules had → AreGood pick_of rules (New ∷ had)
  new_good fits none good v h = go (w.number == v) refl h
    where
      go : (b : Bool) → (w.number == v) ≡ b → is_some (cond b (Some New) (prepared_at v had)) ≡ true → IsPrepared pick_of rules (New ∷ had) v
      go true e k = subst (λ (u : ℕ). IsPrepared pick_of rules (New ∷ had) u) (eqb-true w.number v e) (first_is fits)
      go false e k = behind none v (good v k)

  abbrev pub After : List (Readied S)
  After = prepared_with scheme size w had

  pub prepared_more : Fits → AreGood pick_of rules had → (n newest : ℕ) → MorePrepared pick_of rules newest had (prepared_above scheme size newest w had) (Install n w.number)
  prepared_more fits good n newest = above (nat_lt newest w.number) refl
    where
      go : (b : Bool) → is_some (prepared_at w.number had) ≡ b → MorePrepared pick_of rules newest had (if b then had else New ∷ had) (Install n w.number)
      go true e = record { good = good; kept = λ v h. h; new = λ k l. good w.number e }
      go false e = record { good = new_good fits e good; kept = behind e; new = λ k l. first_is fits }

      above : (b : Bool) → nat_lt newest w.number ≡ b → MorePrepared pick_of rules newest had (if b then prepared_with scheme size w had else had) (Install n w.number)
      above true e = go (is_some (prepared_at w.number had)) refl
      above false e = none_more pick_of rules newest had (Install n w.number) good (λ k l. absurd (false≢true (sym e ∙ l)))

found_number : (v : ℕ) (ws : List Version) (w : Version) → version_at v ws ≡ Some w → w.number ≡ v
found_number v [] w h = absurd (cc)
found_number v (q ∷ ws) w h = go (found_number v ws w) (q.number == v) refl h
  where
    go : (version_at v ws ≡ Some w → w.number ≡ v) → (b : Bool) → (q.number == v) ≡ b → cond b (Some q) (version_at v ws) ≡ Some w → w.number ≡ v
    go rest true e k = let s : q ≡ w = cc in ap (λ (z : Version). z.number) (sym s) ∙ eqb-true q.number v e
    go rest false e k = rest k

-- what an event leaves prepared, of a catalogue
pub event_prepares : {S H : Type 0} (pick_of : S → ℕ → Pick) (plain_of : H → List ℕ → ℕ) (setup : Fixed S H) (pools : Pools) (scheme : S) (size newest : ℕ) (e : Event) (had : List (Readied S)) → pick_of scheme size ≡ pick_of setup.scheme setup.size → AreGood pick_of (rules_for pick_of plain_of setup pools) had
    → MorePrepared pick_of (rules_for pick_of plain_of setup pools) newest had (prepared_for scheme size pools newest e had) e
event_prepares pick_of plain_of setup pools scheme size newest (Install n v) had same good = go (version_at v pools.versions) refl
  where
    go : (o : Option Version) → version_at v pools.versions ≡ o → MorePrepared pick_of (rules_for pick_of plain_of setup pools) newest had (prepared_if scheme size newest o had) (Install n v)
    go None h = none_more pick_of (rules_for pick_of plain_of setup pools) newest had (Install n v) good (λ k l. absurd (false≢true (ap (λ (q : Option Version). is_some q) (sym h) ∙ k)))
    go (Some w) h =
        let e : w.number ≡ v = found_number v pools.versions w h in
        subst (λ (u : ℕ). MorePrepared pick_of (rules_for pick_of plain_of setup pools) newest had (prepared_above scheme size newest w had) (Install n u)) e
        (prepared_more pick_of (rules_for pick_of plain_of setup pools) scheme size w had
        (same, λ x. sym (ap (λ (q : Option Version). option_and_then (λ u. candidates_under u x) q) (ap (λ (u : ℕ). version_at u pools.versions) e ∙ h))) good n newest)
event_prepares pick_of plain_of setup pools scheme size newest (Arrive n k marks) had same good = none_more pick_of (rules_for pick_of plain_of setup pools) newest had (Arrive n k marks) good tt
event_prepares pick_of plain_of setup pools scheme size newest (Serve n w v r) had same good = none_more pick_of (rules_for pick_of plain_of setup pools) newest had (Serve n w v r) good tt
event_prepares pick_of plain_of setup pools scheme size newest (Restart n) had same good = none_more pick_of (rules_for pick_of plain_of setup pools) newest had (Restart n) good tt

-- whether the catalogue has the version that an event installs
pub is_known : {S H : Type 0} (pick_of : S → ℕ → Pick) (plain_of : H → List ℕ → ℕ) (setup : Fixed S H) (pools : Pools) (e : Event) (known : Bool) → known ≡ is_known_in pools e → IsKnown (rules_for pick_of plain_of setup pools) e known
is_known pick_of plain_of setup pools (Install n v) known h = sym h
is_known pick_of plain_of setup pools (Arrive n k marks) known h = tt
is_known pick_of plain_of setup pools (Serve n w v r) known h = tt
is_known pick_of plain_of setup pools (Restart n) known h = tt
