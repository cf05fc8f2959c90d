-- A replay over versions that were prepared before stands for its record.
use Rattle.std.proofs.Common.{◌≡◌, ℕ, ◌<◌, zero, suc, Bool, Bor, option_copied, Result, Ok, Err, true, false, cond, List, [], ◌∷◌, length, replicate, get_or, Option, Some, None, refl, sym, ap, ◌∙◌, subst, arith}
use Rattle.std.specs.Prelude.{◌==◌, ◌||◌, not, is_some, OnOk, OnErr}
use Rattle.std.specs.Option.{option_and_then}
use Rattle.std.proofs.lemmas.Bool.{false≢true, true≢false, eqb-true, eq-eqb, ne_eqb, and_parts}
use Rattle.five_tuple.specs.declared.Flow.{Flow}
use Rattle.pool_versions.specs.declared.service.Version.{Version}
use Rattle.pool_versions.specs.Pool.{Pools, version_at}
use Rattle.selection.specs.Candidates.{candidates_under}
use Rattle.selection.specs.Readied.{Readied, readied_version}
use Rattle.selection.proofs.Versions.{ups_for_readied}
use Rattle.forwarder.specs.Serving.{Pick, ups_in}
use Rattle.cluster_node.specs.Rules.{Rules}
use Rattle.cluster_node.specs.NodeView.{NodeView}
use Rattle.cluster_node.specs.Record.{prepared_at, fresh, IsPrepared}
use Rattle.cluster_node.specs.declared.events.Event.{Event}
use Rattle.cluster_node.specs.declared.events.Event.TheVariants.{Install, Arrive, Serve, Restart}
use Rattle.cluster_core.specs.Runs.{AreGood, RunStands}
use Rattle.cluster_core.specs.Setups.{Fixed, rules_for}
use Rattle.cluster_core.proofs.Nodes.{run_none}
use Rattle.cluster_core.proofs.Preparing.{MorePrepared, NewIsPrepared, none_more}
use Rattle.shared_versions.specs.PrivateHeld.{is_held, are_held}
use Rattle.shared_versions.proofs.Wanted.{numbered}

-- nothing is prepared
pub good_none : {S : Type 0} (pick_of : S → ℕ → Pick) (rules : Rules) → AreGood {S = S} pick_of rules []
good_none pick_of rules v h = absurd (false≢true h)

-- A version goes in front of others, none of which has its number.
module _ {S : Type 0} (pick_of : S → ℕ → Pick) (rules : Rules) (new : Readied S) (had : List (Readied S)) where
  in_front : pick_of new.scheme new.size ≡ rules.pick → ((x : Flow) → ups_in new x ≡ rules.ups new.number x) → IsPrepared pick_of rules (new ∷ had) new.number
  in_front pick ups = record {
    version = new;
    found = ap (λ (b : Bool). cond b (Some new) (prepared_at new.number had)) (eq-eqb new.number new.number refl);
    number = refl;
    pick = pick;
    ups = ups;
  }

  behind : is_some (prepared_at new.number had) ≡ false → (v : ℕ) → IsPrepared pick_of rules had v → IsPrepared pick_of rules (new ∷ had) v
  behind none v p = record {
    version = p.version;
    found = ap (λ (b : Bool). cond b (Some new) (prepared_at v had)) (ne_eqb new.number v (λ e. true≢false (ap (λ (o : Option (Readied S)). is_some o) (sym p.found) ∙ ap (λ (k : ℕ). is_some (prepared_at k had)) (sym e) ∙ none))) ∙ p.found;
    number = p.number;
    pick = p.pick;
    ups = p.ups;
  }

  pub good_more : pick_of new.scheme new.size ≡ rules.pick → ((x : Flow) → ups_in new x ≡ rules.ups new.number x) → is_some (prepared_at new.number had) ≡ false → AreGood pick_of rules had → AreGood pick_of rules (new ∷ had)
  good_more pick ups none good v h = go (new.number == v) refl h
    where
      go : (b : Bool) → (new.number == v) ≡ b → is_some (cond b (Some new) (prepared_at v had)) ≡ true → IsPrepared pick_of rules (new ∷ had) v
      go true e k = subst (λ (u : ℕ). IsPrepared pick_of rules (new ∷ had) u) (eqb-true new.number v e) (in_front pick ups)
      go false e k = behind none v (good v k)

-- so does one of the catalogue that was prepared for the cluster
pub good_put : {S H : Type 0} (pick_of : S → ℕ → Pick) (plain_of : H → List ℕ → ℕ) (setup : Fixed S H) (pools : Pools) (n : ℕ) (w : Version) (had : List (Readied S)) → version_at n pools.versions ≡ Some w → is_some (prepared_at n had) ≡ false
    → AreGood pick_of (rules_for pick_of plain_of setup pools) had → AreGood pick_of (rules_for pick_of plain_of setup pools) (readied_version setup.scheme setup.size w ∷ had)
good_put pick_of plain_of setup pools n w had at none good =
    let number : w.number ≡ n = numbered n pools.versions w at in
    good_more pick_of (rules_for pick_of plain_of setup pools) (readied_version setup.scheme setup.size w) had refl
    (λ x. ups_for_readied setup.scheme setup.size x w ∙ sym (ap (λ (q : Option Version). option_and_then (λ u. candidates_under u x) q) (ap (λ (k : ℕ). version_at k pools.versions) number ∙ at)))
    (ap (λ (k : ℕ). is_some (prepared_at k had)) number ∙ none) good

-- a version that an event installs is prepared, if the catalogue has it
held_new : {S H : Type 0} (pick_of : S → ℕ → Pick) (plain_of : H → List ℕ → ℕ) (setup : Fixed S H) (pools : Pools) (newest : ℕ) (versions : List (Readied S)) (e : Event) → AreGood pick_of (rules_for pick_of plain_of setup pools) versions → is_held pools versions e ≡ true → NewIsPrepared pick_of (rules_for pick_of plain_of setup pools) newest versions e
held_new pick_of plain_of setup pools newest versions (Install n v) good held = λ known newer. good v (ap (λ (b : Bool). not b || is_some (prepared_at v versions)) (sym known) ∙ held)
held_new pick_of plain_of setup pools newest versions (Arrive n k marks) good held = tt
held_new pick_of plain_of setup pools newest versions (Serve n w v r) good held = tt
held_new pick_of plain_of setup pools newest versions (Restart n) good held = tt

-- nothing more is prepared for it
pub held_more : {S H : Type 0} (pick_of : S → ℕ → Pick) (plain_of : H → List ℕ → ℕ) (setup : Fixed S H) (pools : Pools) (newest : ℕ) (versions : List (Readied S)) (e : Event) → AreGood pick_of (rules_for pick_of plain_of setup pools) versions → is_held pools versions e ≡ true → MorePrepared pick_of (rules_for pick_of plain_of setup pools) newest versions versions e
held_more pick_of plain_of setup pools newest versions e good held = none_more pick_of (rules_for pick_of plain_of setup pools) newest versions e good (held_new pick_of plain_of setup pools newest versions e good held)

-- a cluster in which nothing has happened
abbrev pub fresh_nodes_of : Rules → List NodeView
fresh_nodes_of rules = replicate rules.nodes (record { newest = 0; installed = []; cursor = 0; workers = replicate rules.workers (fresh rules.capacity rules.idle) })

pub stands_over : {S : Type 0} (pick_of : S → ℕ → Pick) (rules : Rules) (nodes : List NodeView) (versions : List (Readied S)) → 0 < rules.workers → nodes ≡ fresh_nodes_of rules → AreGood pick_of rules versions → RunStands pick_of rules [] (record { failed = false; nodes = nodes; versions = versions })
stands_over {S} pick_of rules nodes versions some is good =
    subst (λ (ms : List NodeView). RunStands pick_of rules [] (record { failed = false; nodes = ms; versions = versions })) (sym is)
    (let none = run_none {S = S} pick_of rules some in
    record {
      working = refl;
      count = none.count;
      good = good;
      prepared = λ n v h. absurd (false≢true h);
      balance = none.balance;
      each = none.each;
    })

-- each of some events is held where all are
pub each_held : {S : Type 0} (pools : Pools) (versions : List (Readied S)) (events : List Event) (i : ℕ) (d : Event) → i < length events → are_held pools versions events ≡ true → is_held pools versions (get_or events i d) ≡ true
each_held pools versions [] i d lt all = absurd (omega (arith, lt))
each_held pools versions (e ∷ es) zero d lt all = (and_parts (is_held pools versions e) (are_held pools versions es) all).0
each_held pools versions (e ∷ es) (suc i) d lt all = each_held pools versions es i d (omega (arith, lt)) (and_parts (is_held pools versions e) (are_held pools versions es) all).1

-- whether there is one doesn't depend on who owns it
pub some_copied : {X : Type 0} (o : Option (Bor X)) → is_some o ≡ is_some (option_copied o)
some_copied None = refl
some_copied (Some x) = refl

-- what a version that was put in front leaves good
pub good_after : {S E : Type 0} (pick_of : S → ℕ → Pick) (rules : Rules) (r : Result (Unit {0}) E) (new : Readied S) (had after : List (Readied S)) → OnOk r (after ≡ new ∷ had) → OnErr r (after ≡ had) → AreGood pick_of rules had → AreGood pick_of rules (new ∷ had) → AreGood pick_of rules after
good_after pick_of rules (Ok x) new had after ok err good more = subst (λ (l : List (Readied _)). AreGood pick_of rules l) (sym ok) more
good_after pick_of rules (Err e) new had after ok err good more = subst (λ (l : List (Readied _)). AreGood pick_of rules l) (sym err) good
