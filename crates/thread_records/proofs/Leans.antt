-- A record as it is kept, beside the record that is meant.
use Rattle.std.proofs.Common.{◌≡◌, ℕ, ◌+◌, ◌<◌, List, [], ◌∷◌, ◌++◌, length, map, take, get_or, refl, sym, ap, ◌∙◌, subst}
use Rattle.std.specs.Global.{Vec}
use Rattle.std.proofs.lemmas.List.{map_push, take_more}
use Rattle.cluster_node.specs.declared.events.Event.{Event}
use Rattle.cluster_node.specs.declared.outcomes.Outcome.{Outcome}
use Rattle.cluster_node.specs.declared.packets.Packet.{Packet}
use Rattle.cluster_node.specs.Rules.{Rules}
use Rattle.cluster_core.specs.Runs.{verdicts}
use Rattle.outcome_list.specs.Lists.{made_by}
use Rattle.thread_records.specs.declared.command.Command.{Command}
use Rattle.thread_records.specs.declared.nodes.NodeRecord.{NodeRecord}
use Rattle.thread_records.specs.Histories.{past_of, AreOf, commands_of, is_by_lives, ServesAreAccepted, MarksAreDue, NoneWaits}
use Rattle.thread_records.specs.Losses.{drained_lives, losses, KeepDrained}
use Rattle.thread_records.specs.Merges.{lives_of, AreMerges}
use Rattle.thread_records.specs.Joins.{all_outcomes}
use Rattle.thread_records.specs.Runs.{IsRunOf, AreRuns}
use Rattle.thread_records.specs.Lean.{SameLists, AreSameLists}

pub lists_told : {A B : Type 0} (f : A → B) (vs : List (Vec A)) → map (λ v. v.items) (map (λ v. made_by f v) vs) ≡ map (λ v. map f v.items) vs
lists_told f [] = refl
lists_told {A} {B} f (v ∷ vs) = ap (λ (l : List (List B)). map f v.items ∷ l) (lists_told f vs)

-- one list more
pub told_step : {V W A : Type 0} (f : V → List A) (items : W → List A) (ws : List W) (w : W) (vs : List V) (i : ℕ) (v : V) → i < length vs → v ≡ get_or vs i v → items w ≡ f v → map items ws ≡ map f (take i vs) → map items (ws ++ w ∷ []) ≡ map f (take (i + 1) vs)
told_step {V} {W} {A} f items ws w vs i v lt is e so_far =
    map_push items ws w
    ∙ ap (λ (l : List (List A)). l ++ items w ∷ []) so_far
    ∙ ap (λ (l : List A). map f (take i vs) ++ l ∷ []) e
    ∙ sym (ap (λ (l : List V). map f l) (take_more vs i v lt) ∙ map_push f (take i vs) (get_or vs i v) ∙ ap (λ (x : V). map f (take i vs) ++ f x ∷ []) (sym is))

-- a record with the lists of one of a run is one of that run
pub same_is_run : (rules : Rules) (packets : List Packet) (n ring : ℕ) (cs : List Command) (r l : NodeRecord) → SameLists r l → IsRunOf rules packets n ring cs l → IsRunOf rules packets n ring cs r
same_is_run rules packets n ring cs r l same run = record {
  own = subst (λ (es : List Event). AreOf n es) (sym same.events) run.own;
  obeyed = ap (λ (es : List Event). commands_of es) same.events ∙ run.obeyed;
  by_lives = ap (λ (es : List Event). is_by_lives 0 es) same.events ∙ run.by_lives;
  told = same.outcomes ∙ run.told ∙ ap (λ (es : List Event). verdicts rules [] packets es) (sym same.events);
  accepted = subst (λ (es : List Event). ServesAreAccepted (past_of rules packets n es)) (sym same.events) run.accepted;
  kept = subst (λ (os : List Outcome). KeepDrained (drained_lives cs) (losses os)) (sym same.outcomes) run.kept;
  drained = subst (λ (es : List Event). NoneWaits (past_of rules packets n es)) (sym same.events) run.drained;
  due = subst (λ (es : List Event). MarksAreDue ring (past_of rules packets n es)) (sym same.events) run.due;
  merged = subst (λ (ss : List (List Outcome)). AreMerges ss (lives_of r.outcomes.items)) (sym same.sent) (subst (λ (os : List Outcome). AreMerges (map (λ v. v.items) l.sent.items) (lives_of os)) (sym same.outcomes) run.merged);
}

-- one record more
pub same_more : (rs ls : List NodeRecord) (r l : NodeRecord) → AreSameLists rs ls → SameLists r l → AreSameLists (rs ++ r ∷ []) (ls ++ l ∷ [])
same_more [] [] r l had same = (same, tt)
same_more [] (y ∷ ys) r l had same = absurd had
same_more (x ∷ xs) [] r l had same = absurd had
same_more (x ∷ xs) (y ∷ ys) r l had same = (had.0, same_more xs ys r l had.1 same)

-- records with the lists of those of runs are ones of these runs
pub same_are_runs : (rules : Rules) (packets : List Packet) (ring k : ℕ) (cs : List (List Command)) (rs ls : List NodeRecord) → AreSameLists rs ls → AreRuns rules packets ring k cs ls → AreRuns rules packets ring k cs rs
same_are_runs rules packets ring k cs [] [] same runs = runs
same_are_runs rules packets ring k cs [] (l ∷ ls) same runs = absurd same
same_are_runs rules packets ring k cs (r ∷ rs) [] same runs = absurd same
same_are_runs rules packets ring k [] (r ∷ rs) (l ∷ ls) same runs = absurd runs
same_are_runs rules packets ring k (c ∷ cs) (r ∷ rs) (l ∷ ls) same runs = (same_is_run rules packets k ring c r l same.0 runs.0, same_are_runs rules packets ring (k + 1) cs rs ls same.1 runs.1)

-- and the outcomes of all are the same
pub same_outcomes : (rs ls : List NodeRecord) → AreSameLists rs ls → all_outcomes rs ≡ all_outcomes ls
same_outcomes [] [] same = refl
same_outcomes [] (l ∷ ls) same = absurd same
same_outcomes (r ∷ rs) [] same = absurd same
same_outcomes (r ∷ rs) (l ∷ ls) same = ap (λ (os : List Outcome). os ++ all_outcomes rs) same.0.outcomes ∙ ap (λ (os : List Outcome). l.outcomes.items ++ os) (same_outcomes rs ls same.1)
