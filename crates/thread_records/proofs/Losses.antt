-- What is lost where lives end, outcome by outcome.
use Rattle.std.proofs.Common.{◌≡◌, ℕ, Bool, true, false, List, [], ◌∷◌, ◌++◌, Option, Some, None, Result, Ok, Err, refl, sym, ap, ◌∙◌, subst}
use Rattle.std.specs.Prelude.{nat_lt, if◌then◌else◌, IfOk, OnOk}
use Rattle.std.proofs.lemmas.Bool.{false≢true}
use Rattle.std.proofs.lemmas.List.{append-nil}
use Rattle.forwarder.specs.declared.Choice.{Choice}
use Rattle.forwarder.specs.declared.Choice.TheVariants as choices
use Rattle.cluster_node.specs.declared.serving.Item.{Item}
use Rattle.cluster_node.specs.declared.packets.Packet.{Packet}
use Rattle.cluster_node.specs.declared.packets.Packet.TheVariants.{Good, Bad}
use Rattle.cluster_node.specs.declared.events.Event.TheVariants.{Install}
use Rattle.cluster_node.specs.declared.outcomes.Outcome.{Outcome}
use Rattle.cluster_node.specs.declared.outcomes.Outcome.TheVariants.{Installed, Placed, Forward, Dropped, Restarted, Refused}
use Rattle.cluster_node.specs.declared.outcomes.Reason.TheVariants.{UnknownVersion, NotNewer}
use Rattle.cluster_node.specs.Record.{of_choice}
use Rattle.cluster_core.specs.OutcomeCounts.{is_arrival}
use Rattle.thread_records.specs.declared.command.Command.{Command}
use Rattle.thread_records.specs.declared.command.Command.TheVariants.{Publish, Offer, Restart, Stop}
use Rattle.handled_list.specs.declared.handled.Handled.{Handled}
use Rattle.thread_records.specs.Arrivals.{ArrivesAs}
use Rattle.thread_records.specs.Histories.{outcome_of}
use Rattle.thread_records.specs.Journals.{JournalView, with_event, with_install}
use Rattle.thread_records.specs.Losses.{drained_lives, losses, LosesNone, KeepDrained}

losses_append : (os ps : List Outcome) → losses (os ++ ps) ≡ losses os ++ losses ps
losses_append [] ps = refl
losses_append (Installed ∷ os) ps = losses_append os ps
losses_append (Placed w f ∷ os) ps = losses_append os ps
losses_append (Forward n w k x b v ∷ os) ps = losses_append os ps
losses_append (Dropped k c ∷ os) ps = losses_append os ps
losses_append (Restarted l ∷ os) ps = ap (λ (ls : List ℕ). l ∷ ls) (losses_append os ps)
losses_append (Refused r ∷ os) ps = losses_append os ps

-- an outcome that is no life's end
none_more : (os : List Outcome) (o : Outcome) → losses (o ∷ []) ≡ [] → losses (os ++ o ∷ []) ≡ losses os
none_more os o none = losses_append os (o ∷ []) ∙ ap (λ (ls : List ℕ). losses os ++ ls) none ∙ append-nil (losses os)

pub restart_more : (os : List Outcome) (lost : ℕ) → losses (os ++ Restarted lost ∷ []) ≡ losses os ++ lost ∷ []
restart_more os lost = losses_append os (Restarted lost ∷ [])

pub install_loses_none : (known : Bool) (v : ℕ) (j : JournalView) → losses (with_install known v j).outcomes ≡ losses j.outcomes
install_loses_none false v j = none_more j.outcomes (Refused UnknownVersion) refl
install_loses_none true v j = go (nat_lt j.newest v)
  where
    go : (b : Bool) → losses (if b then with_event (record j { newest = v; installed = v ∷ j.installed }) (Install j.node v) Installed else with_event j (Install j.node v) (Refused NotNewer)).outcomes ≡ losses j.outcomes
    go true = none_more j.outcomes Installed refl
    go false = none_more j.outcomes (Refused NotNewer) refl

arrives_alone : (o : Outcome) → is_arrival o ≡ true → losses (o ∷ []) ≡ []
arrives_alone Installed e = refl
arrives_alone (Placed w f) e = refl
arrives_alone (Forward n w k x b v) e = refl
arrives_alone (Dropped k c) e = refl
arrives_alone (Restarted l) e = absurd (false≢true e)
arrives_alone (Refused r) e = refl

arrival_alone : (p : Option Packet) (o : Outcome) → ArrivesAs p o → losses (o ∷ []) ≡ []
arrival_alone None o is = ap (λ (x : Outcome). losses (x ∷ [])) is
arrival_alone (Some (Bad c)) o is = ap (λ (x : Outcome). losses (x ∷ [])) is.1
arrival_alone (Some (Good x l t)) o is = arrives_alone o is

arrival_loses_none : (p : Option Packet) (os ps : List Outcome) (o : Outcome) → ArrivesAs p o → ps ≡ os ++ o ∷ [] → losses ps ≡ losses os
arrival_loses_none p os ps o is e = ap losses e ∙ none_more os o (arrival_alone p o is)

pub arrived_loses_none : {E : Type 0} (r : Result Outcome E) (p : Option Packet) (os ps : List Outcome) → IfOk r (λ o. ps ≡ os ++ o ∷ []) → IfOk r (λ o. ArrivesAs p o) → OnOk r (losses ps ≡ losses os)
arrived_loses_none (Ok o) p os ps e is = arrival_loses_none p os ps o is e
arrived_loses_none (Err x) p os ps e is = tt

choice_alone : (n w : ℕ) (i : Item) (c : Choice) → losses (of_choice n w i c ∷ []) ≡ []
choice_alone n w i (choices.Forward b v) = refl
choice_alone n w i choices.NoService = refl
choice_alone n w i choices.NoBackend = refl

pub serve_loses_none : (n w : ℕ) (h : Handled) (os : List Outcome) → losses (os ++ outcome_of n w h ∷ []) ≡ losses os
serve_loses_none n w h os = none_more os (outcome_of n w h) (choice_alone n w h.item h.choice)

drained_append : (cs ds : List Command) → drained_lives (cs ++ ds) ≡ drained_lives cs ++ drained_lives ds
drained_append [] ds = refl
drained_append (Publish v ∷ cs) ds = drained_append cs ds
drained_append (Offer k ∷ cs) ds = drained_append cs ds
drained_append (Restart ∷ cs) ds = ap (λ (l : List Bool). true ∷ l) (drained_append cs ds)
drained_append (Stop ∷ cs) ds = ap (λ (l : List Bool). false ∷ l) (drained_append cs ds)

keep_push : (ds : List Bool) (ls : List ℕ) (d : Bool) (l : ℕ) → KeepDrained ds ls → LosesNone d l → KeepDrained (ds ++ d ∷ []) (ls ++ l ∷ [])
keep_push [] [] d l k n = (n, tt)
keep_push [] (m ∷ ls) d l k n = absurd k
keep_push (e ∷ ds) [] d l k n = absurd k
keep_push (e ∷ ds) (m ∷ ls) d l k n = (k.0, keep_push ds ls d l k.1 n)

-- one more command that ends no life
pub keeps_on : (cs : List Command) (c : Command) (os ps : List Outcome) → drained_lives (c ∷ []) ≡ [] → losses ps ≡ losses os → KeepDrained (drained_lives cs) (losses os) → KeepDrained (drained_lives (cs ++ c ∷ [])) (losses ps)
keeps_on cs c os ps none same k =
    let ds : drained_lives (cs ++ c ∷ []) ≡ drained_lives cs = drained_append cs (c ∷ []) ∙ ap (λ (l : List Bool). drained_lives cs ++ l) none ∙ append-nil (drained_lives cs) in
    subst (λ (l : List Bool). KeepDrained l (losses ps)) (sym ds) (subst (λ (l : List ℕ). KeepDrained (drained_lives cs) l) (sym same) k)

-- one more command that ends a life
pub keeps_ended : (cs : List Command) (c : Command) (drained : Bool) (lost : ℕ) (os ps : List Outcome) → drained_lives (c ∷ []) ≡ drained ∷ [] → losses ps ≡ losses os ++ lost ∷ [] → LosesNone drained lost → KeepDrained (drained_lives cs) (losses os) → KeepDrained (drained_lives (cs ++ c ∷ [])) (losses ps)
keeps_ended cs c drained lost os ps one more none k =
    let ds : drained_lives (cs ++ c ∷ []) ≡ drained_lives cs ++ drained ∷ [] = drained_append cs (c ∷ []) ∙ ap (λ (l : List Bool). drained_lives cs ++ l) one in
    subst (λ (l : List Bool). KeepDrained l (losses ps)) (sym ds) (subst (λ (l : List ℕ). KeepDrained (drained_lives cs ++ drained ∷ []) l) (sym more) (keep_push (drained_lives cs) (losses os) drained lost k none))
