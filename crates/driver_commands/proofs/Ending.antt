-- The commands that end lives: as many as the steps that do, and each as its step does.
use Rattle.std.proofs.Common.{◌≡◌, ℕ, ◌+◌, ◌<◌, Bool, true, false, List, [], ◌∷◌, map, length, get_or, set, drop, refl, sym, ap, ◌∙◌, arith, subst}
use Rattle.std.specs.Prelude.{◌≢◌, ◌==◌, slice_index_or}
use Rattle.std.proofs.lemmas.Bool.{eqb-true, eqb-false}
use Rattle.std.proofs.lemmas.List.{length-map, get_or-map, ext_get_or, get_or-set_same, get_or-set_other, length-set, map-set}
use Rattle.cluster_node.specs.declared.events.Event.{Event}
use Rattle.cluster_node.specs.declared.events.Event.TheVariants.{Install, Arrive, Serve, Restart}
use Rattle.thread_records.specs.declared.command.Command.{Command}
use Rattle.thread_records.specs.declared.command.Command.TheVariants.{Publish, Offer}
use Rattle.thread_records.specs.declared.command.Command.TheVariants as commands
use Rattle.thread_records.specs.Histories.{commands_of}
use Rattle.thread_records.specs.Losses.{ending, as_written, drained_lives}
use Rattle.event_trace.specs.declared.steps.ScenarioStep.{ScenarioStep}
use Rattle.event_trace.specs.Steps.{below}
use Rattle.driver_commands.specs.Orders.{commands_on, orders_in, ends_on, ended_by, event_of}
use Rattle.driver_commands.specs.PrivateTelling.{EndBelow}
use Rattle.driver_commands.proofs.Telling.{below_long, below_at, orders_long, orders_at}

ending_written : (d : Bool) → as_written (ending d) ≡ commands.Restart
ending_written true = refl
ending_written false = refl

ending_drains : (d : Bool) (cs : List Command) → drained_lives (ending d ∷ cs) ≡ d ∷ drained_lives cs
ending_drains true cs = refl
ending_drains false cs = refl

ending_event : (n : ℕ) (d : Bool) → event_of n (ending d) ≡ Restart n
ending_event n true = refl
ending_event n false = refl

-- a list that goes on alike
then_alike : {A : Type 0} (x y : A) (xs ys : List A) → x ≡ y → xs ≡ ys → x ∷ xs ≡ y ∷ ys
then_alike {A} x y xs ys h i = ap (λ (z : A). z ∷ xs) h ∙ ap (λ (zs : List A). y ∷ zs) i

-- in a history all lives end alike
pub ended_written : (ds : List Bool) (cs : List Command) → map as_written (ended_by ds cs) ≡ map as_written cs
ended_written ds [] = refl
ended_written ds (Publish v ∷ cs) = ap (λ (l : List Command). Publish v ∷ l) (ended_written ds cs)
ended_written ds (Offer k ∷ cs) = ap (λ (l : List Command). Offer k ∷ l) (ended_written ds cs)
ended_written ds (commands.Restart ∷ cs) = then_alike (as_written (ending (slice_index_or ds 0 true))) commands.Restart (map as_written (ended_by (drop 1 ds) cs)) (map as_written cs) (ending_written (slice_index_or ds 0 true)) (ended_written (drop 1 ds) cs)
ended_written ds (commands.Stop ∷ cs) = then_alike (as_written (ending (slice_index_or ds 0 true))) commands.Restart (map as_written (ended_by (drop 1 ds) cs)) (map as_written cs) (ending_written (slice_index_or ds 0 true)) (ended_written (drop 1 ds) cs)

pub ended_events : (n : ℕ) (ds : List Bool) (cs : List Command) → map (event_of n) (ended_by ds cs) ≡ map (event_of n) cs
ended_events n ds [] = refl
ended_events n ds (Publish v ∷ cs) = ap (λ (l : List Event). Install n v ∷ l) (ended_events n ds cs)
ended_events n ds (Offer k ∷ cs) = ap (λ (l : List Event). event_of n (Offer k) ∷ l) (ended_events n ds cs)
ended_events n ds (commands.Restart ∷ cs) = then_alike (event_of n (ending (slice_index_or ds 0 true))) (Restart n) (map (event_of n) (ended_by (drop 1 ds) cs)) (map (event_of n) cs) (ending_event n (slice_index_or ds 0 true)) (ended_events n (drop 1 ds) cs)
ended_events n ds (commands.Stop ∷ cs) = then_alike (event_of n (ending (slice_index_or ds 0 true))) (Restart n) (map (event_of n) (ended_by (drop 1 ds) cs)) (map (event_of n) cs) (ending_event n (slice_index_or ds 0 true)) (ended_events n (drop 1 ds) cs)

-- what events tell has no stop
pub told_written : (es : List Event) → map as_written (commands_of es) ≡ commands_of es
told_written [] = refl
told_written (Install n v ∷ es) = ap (λ (l : List Command). Publish v ∷ l) (told_written es)
told_written (Arrive n k marks ∷ es) = ap (λ (l : List Command). Offer k ∷ l) (told_written es)
told_written (Serve n w v r ∷ es) = told_written es
told_written (Restart n ∷ es) = ap (λ (l : List Command). commands.Restart ∷ l) (told_written es)

-- where there are as many, each life ends as it is said to
pub ended_ends : (ds : List Bool) (cs : List Command) → length (drained_lives cs) ≡ length ds → drained_lives (ended_by ds cs) ≡ ds
ended_ends [] [] h = refl
ended_ends (d ∷ ds) [] h = absurd (omega (arith, h))
ended_ends ds (Publish v ∷ cs) h = ended_ends ds cs h
ended_ends ds (Offer k ∷ cs) h = ended_ends ds cs h
ended_ends [] (commands.Restart ∷ cs) h = absurd (omega (arith, h))
ended_ends (d ∷ ds) (commands.Restart ∷ cs) h = ending_drains d (ended_by ds cs) ∙ ap (λ (l : List Bool). d ∷ l) (ended_ends ds cs (omega (arith, h)))
ended_ends [] (commands.Stop ∷ cs) h = absurd (omega (arith, h))
ended_ends (d ∷ ds) (commands.Stop ∷ cs) h = ending_drains d (ended_by ds cs) ∙ ap (λ (l : List Bool). d ∷ l) (ended_ends ds cs (omega (arith, h)))

-- the loop over the nodes
pub end_none : (ss : List ScenarioStep) (css : List (List Command)) → EndBelow ss 0 css css
end_none ss css = record { many = refl; ended = λ n lt there. absurd (omega (arith, lt)); others = λ n le there. refl }

set_more : (ss : List ScenarioStep) (done : ℕ) (old new : List (List Command)) → done < length old → EndBelow ss done old new → EndBelow ss (done + 1) old (set new done (ended_by (ends_on done ss) (slice_index_or new done [])))
set_more ss done old new h so_far = record {
  many = length-set new done own ∙ so_far.many;
  ended = λ n lt there. ended n lt there (n == done) refl;
  others = λ n le there. get_or-set_other new done n own [] (λ (e : n ≡ done). omega (arith, e, le)) ∙ so_far.others n (omega (arith, le)) there;
}
  where
    own : List Command
    own = ended_by (ends_on done ss) (slice_index_or new done [])

    ended : (n : ℕ) → n < done + 1 → n < length old → (b : Bool) → (n == done) ≡ b → slice_index_or (set new done own) n [] ≡ ended_by (ends_on n ss) (slice_index_or old n [])
    ended n lt there true e =
        let s : n ≡ done = eqb-true n done e in
        let many : length new ≡ length old = so_far.many in
        ap (λ (i : ℕ). slice_index_or (set new done own) i []) s
        ∙ get_or-set_same new done own [] (omega arith)
        ∙ ap (λ (cs : List Command). ended_by (ends_on done ss) cs) (so_far.others done (omega arith) h)
        ∙ ap (λ (i : ℕ). ended_by (ends_on i ss) (slice_index_or old i [])) (sym s)
    ended n lt there false e =
        let other : n ≢ done = eqb-false n done e in
        get_or-set_other new done n own [] other ∙ so_far.ended n (omega (arith, lt, other)) there

-- one list of those that a list of vectors has, with its lives ended
pub end_more : {V : Type 0} (items : V → List Command) (ss : List ScenarioStep) (done : ℕ) (old : List (List Command)) (vs : List V) (was new : V) → done < length vs → was ≡ get_or vs done was → items new ≡ ended_by (ends_on done ss) (items was)
    → EndBelow ss done old (map items vs) → EndBelow ss (done + 1) old (map items (set vs done new))
end_more items ss done old vs was new h is by so_far =
    let many : length (map items vs) ≡ length old = so_far.many in
    let long : length (map items vs) ≡ length vs = length-map vs items in
    subst (λ (css : List (List Command)). EndBelow ss (done + 1) old css)
    (sym (map-set items vs done new ∙ ap (λ (l : List Command). set (map items vs) done l) (by ∙ ap (λ (l : List Command). ended_by (ends_on done ss) l) (ap items is ∙ sym (get_or-map items vs done was [] h)))))
    (set_more ss done old (map items vs) (omega arith) so_far)

-- all lists, once the loop is over
pub end_all : (ss : List ScenarioStep) (nodes : ℕ) (es : List Event) (old new : List (List Command)) → old ≡ orders_in nodes es → EndBelow ss nodes old new → new ≡ map (λ n. ended_by (ends_on n ss) (commands_on n es)) (below nodes)
end_all ss nodes es old new is h = ext_get_or [] new (map own (below nodes)) (long ∙ sym (length-map (below nodes) own ∙ below_long nodes)) each
  where
    own : ℕ → List Command
    own n = ended_by (ends_on n ss) (commands_on n es)

    long : length new ≡ nodes
    long = h.many ∙ ap (λ (css : List (List Command)). length css) is ∙ orders_long nodes es

    each : (n : ℕ) → n < length new → slice_index_or new n [] ≡ slice_index_or (map own (below nodes)) n []
    each n lt =
        let l : length new ≡ nodes = long in
        let m : length new ≡ length old = h.many in
        let b : length (below nodes) ≡ nodes = below_long nodes in
        let there : n < nodes = omega arith in
        h.ended n there (omega arith)
        ∙ ap (λ (cs : List Command). ended_by (ends_on n ss) cs) (ap (λ (css : List (List Command)). slice_index_or css n []) is ∙ orders_at nodes n es there)
        ∙ sym (get_or-map own (below nodes) n 0 [] (omega arith) ∙ ap own (below_at nodes n there))
