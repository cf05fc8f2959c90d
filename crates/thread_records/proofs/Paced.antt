-- A history that marks no worker goes on.
use Rattle.std.proofs.Common.{◌≡◌, ℕ, ◌+◌, Bool, true, false, List, [], ◌∷◌, ◌++◌, Result, Ok, Err, refl, sym, subst}
use Rattle.std.specs.Prelude.{nat_lt, if◌then◌else◌, OnOk}
use Rattle.std.proofs.lemmas.List.Elements.{All-nil, All-push}
use Rattle.cluster_node.specs.declared.events.Event.{Event}
use Rattle.cluster_node.specs.declared.events.Event.TheVariants.{Install, Arrive, Restart}
use Rattle.cluster_node.specs.declared.outcomes.Outcome.TheVariants.{Installed, Refused}
use Rattle.cluster_node.specs.declared.outcomes.Reason.TheVariants.{NotNewer}
use Rattle.thread_records.specs.declared.nodes.NodeRecord.{NodeRecord}
use Rattle.handled_list.specs.declared.handled.Handled.{Handled}
use Rattle.thread_records.specs.Histories.{serve_of}
use Rattle.thread_records.specs.Journals.{JournalView, with_event, with_install, with_serve, no_marks}
use Rattle.thread_records.specs.Ends.{with_serves, with_all_serves, with_life_ended}
use Rattle.thread_records.specs.Paced.{IsUnmarked, AreUnmarked, NoneRefused}

pub unmarked_more : (es : List Event) (e : Event) → AreUnmarked es → IsUnmarked e → AreUnmarked (es ++ e ∷ [])
unmarked_more es e had one = All-push (λ (x : Event). IsUnmarked x) es e had one

pub unmarked_install : (known : Bool) (v : ℕ) (j : JournalView) → AreUnmarked j.events → AreUnmarked (with_install known v j).events
unmarked_install false v j had = unmarked_more j.events (Install j.node v) had tt
unmarked_install true v j had = go (nat_lt j.newest v)
  where
    go : (b : Bool) → AreUnmarked (if b then with_event (record j { newest = v; installed = v ∷ j.installed }) (Install j.node v) Installed else with_event j (Install j.node v) (Refused NotNewer)).events
    go true = unmarked_more j.events (Install j.node v) had tt
    go false = unmarked_more j.events (Install j.node v) had tt

-- a packet arrived, and no worker was marked
pub unmarked_arrived : {A E : Type 0} (r : Result A E) (n k : ℕ) (es fs : List Event) → OnOk r (fs ≡ es ++ Arrive n k no_marks ∷ []) → AreUnmarked es → OnOk r (AreUnmarked fs)
unmarked_arrived (Ok x) n k es fs is had = subst (λ (l : List Event). AreUnmarked l) (sym is) (unmarked_more es (Arrive n k no_marks) had refl)
unmarked_arrived (Err e) n k es fs is had = is

unmarked_serves : (w : ℕ) (hs : List Handled) (j : JournalView) → AreUnmarked j.events → AreUnmarked (with_serves w hs j).events
unmarked_serves w [] j had = had
unmarked_serves w (h ∷ hs) j had = unmarked_serves w hs (with_serve w h j) (unmarked_more j.events (serve_of j.node w h) had tt)

pub unmarked_all_serves : (w : ℕ) (hss : List (List Handled)) (j : JournalView) → AreUnmarked j.events → AreUnmarked (with_all_serves w hss j).events
unmarked_all_serves w [] j had = had
unmarked_all_serves w (hs ∷ hss) j had = unmarked_all_serves (w + 1) hss (with_serves w hs j) (unmarked_serves w hs j had)

pub unmarked_ended : (hss : List (List Handled)) (j : JournalView) → AreUnmarked j.events → AreUnmarked (with_life_ended hss j).events
unmarked_ended hss j had =
    let served = with_all_serves 0 hss j in
    unmarked_more served.events (Restart served.node) (unmarked_all_serves 0 hss j had) tt

-- a history of no events
pub unmarked_none : AreUnmarked []
unmarked_none = All-nil (λ (x : Event). IsUnmarked x)

-- no nodes
pub none_of_none : NoneRefused []
none_of_none = All-nil (λ (r : NodeRecord). AreUnmarked r.events.items)
