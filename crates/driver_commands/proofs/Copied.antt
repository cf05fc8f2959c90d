-- Copies of steps tell what the steps tell.
use Rattle.std.proofs.Common.{◌≡◌, ℕ, suc, List, [], ◌∷◌, map, drop, length, refl, ap, ◌∙◌}
use Rattle.std.specs.List.{cons_option}
use Rattle.cluster_node.specs.declared.packets.Packet.{Packet}
use Rattle.spreader.specs.Choices.{Choice}
use Rattle.event_trace.specs.declared.steps.ScenarioStep.{ScenarioStep}
use Rattle.event_trace.specs.declared.steps.ScenarioStep.TheVariants as steps
use Rattle.event_trace.specs.Trace.{Trace}
use Rattle.event_trace.specs.Steps.{World, after, run, below, start, world_of}
use Rattle.timed_steps.specs.declared.TimedStep.{TimedStep}
use Rattle.timed_steps.specs.Timed.{first_of, reads, counted_step, counted_from, counted}
use Rattle.timed_steps.specs.Copies.{IsCopy, AreCopies}
use Rattle.driver_commands.specs.Noting.{noting}
use Rattle.driver_commands.specs.Orders.{events_of, commands_on, plan_of, ends_by, ends_on, ended_by, orders_on, orders_of}

long_copies : (ss ts : List ScenarioStep) → AreCopies ss ts → length ss ≡ length ts
long_copies [] [] h = refl
long_copies [] (t ∷ ts) h = absurd h
long_copies (s ∷ ss) [] h = absurd h
long_copies (s ∷ ss) (t ∷ ts) h = ap suc (long_copies ss ts h.1)

long_counted : (first : ℕ) (left : List ℕ) (ss : List TimedStep) → length (counted_from first left ss) ≡ length ss
long_counted first left [] = refl
long_counted first left (s ∷ ss) = ap suc (long_counted first (drop (reads (counted_step first left s)) left) ss)

-- copies of the steps by count are as many as the steps
pub as_many : (times : List ℕ) (ss : List TimedStep) (ts : List ScenarioStep) → AreCopies ts (counted times ss) → length ts ≡ length ss
as_many times ss ts h = long_copies ts (counted times ss) h ∙ long_counted (first_of times) times ss

copy_after : (w : World) (c : Trace) (a b : ScenarioStep) → IsCopy a b → after w a c ≡ after w b c
unfolding after
copy_after w c (steps.Live ns) (steps.Live ms) e = ap (λ l. record c { live = l }) e
copy_after w c (steps.Live ns) b e = ap (λ s. after w s c) e
copy_after w c (steps.Install n v) b e = ap (λ s. after w s c) e
copy_after w c (steps.Take k) b e = ap (λ s. after w s c) e
copy_after w c (steps.Lose k) b e = ap (λ s. after w s c) e
copy_after w c (steps.Again k) b e = ap (λ s. after w s c) e
copy_after w c (steps.Full n m) b e = ap (λ s. after w s c) e
copy_after w c (steps.Hold n) b e = ap (λ s. after w s c) e
copy_after w c (steps.Drain n) b e = ap (λ s. after w s c) e
copy_after w c (steps.Restart n) b e = ap (λ s. after w s c) e
copy_after w c (steps.Stop n) b e = ap (λ s. after w s c) e

copy_ends : (n : ℕ) (a b : ScenarioStep) → IsCopy a b → ends_by n a ≡ ends_by n b
copy_ends n (steps.Live ns) (steps.Live ms) e = refl
copy_ends n (steps.Live ns) b e = ap (λ s. ends_by n s) e
copy_ends n (steps.Install m v) b e = ap (λ s. ends_by n s) e
copy_ends n (steps.Take k) b e = ap (λ s. ends_by n s) e
copy_ends n (steps.Lose k) b e = ap (λ s. ends_by n s) e
copy_ends n (steps.Again k) b e = ap (λ s. ends_by n s) e
copy_ends n (steps.Full m marks) b e = ap (λ s. ends_by n s) e
copy_ends n (steps.Hold m) b e = ap (λ s. ends_by n s) e
copy_ends n (steps.Drain m) b e = ap (λ s. ends_by n s) e
copy_ends n (steps.Restart m) b e = ap (λ s. ends_by n s) e
copy_ends n (steps.Stop m) b e = ap (λ s. ends_by n s) e

run_copies : (w : World) (ss ts : List ScenarioStep) (c : Trace) → AreCopies ss ts → run w ss c ≡ run w ts c
unfolding run
run_copies w [] [] c h = refl
run_copies w [] (t ∷ ts) c h = absurd h
run_copies w (s ∷ ss) [] c h = absurd h
run_copies w (s ∷ ss) (t ∷ ts) c h = run_copies w ss ts (after w s c) h.1 ∙ ap (λ d. run w ts d) (copy_after w c s t h.0)

ends_copies : (n : ℕ) (ss ts : List ScenarioStep) → AreCopies ss ts → ends_on n ss ≡ ends_on n ts
ends_copies n [] [] h = refl
ends_copies n [] (t ∷ ts) h = absurd h
ends_copies n (s ∷ ss) [] h = absurd h
ends_copies n (s ∷ ss) (t ∷ ts) h = ap (λ o. cons_option o (ends_on n ss)) (copy_ends n s t h.0) ∙ ap (λ l. cons_option (ends_by n t) l) (ends_copies n ss ts h.1)

pub plan_copies : (choice : Choice) (packets : List Packet) (ss ts : List ScenarioStep) (nodes : ℕ) → AreCopies ss ts → plan_of choice packets ss nodes ≡ plan_of choice packets ts nodes
plan_copies choice packets ss ts nodes h = run_copies (world_of noting choice packets) ss ts (start nodes) h

on_copies : (choice : Choice) (packets : List Packet) (ss ts : List ScenarioStep) (nodes n : ℕ) → AreCopies ss ts → orders_on choice packets ss nodes n ≡ orders_on choice packets ts nodes n
on_copies choice packets ss ts nodes n h =
    ap (λ ds. ended_by ds (commands_on n (events_of (plan_of choice packets ss nodes)))) (ends_copies n ss ts h)
    ∙ ap (λ (c : Trace). ended_by (ends_on n ts) (commands_on n (events_of c))) (plan_copies choice packets ss ts nodes h)

same_each : {B : Type 0} (f g : ℕ → B) → ((n : ℕ) → f n ≡ g n) → (ns : List ℕ) → map f ns ≡ map g ns
same_each f g e [] = refl
same_each f g e (n ∷ ns) = ap (λ b. b ∷ map f ns) (e n) ∙ ap (λ l. g n ∷ l) (same_each f g e ns)

pub orders_copies : (choice : Choice) (packets : List Packet) (ss ts : List ScenarioStep) (nodes : ℕ) → AreCopies ss ts → orders_of choice packets ss nodes ≡ orders_of choice packets ts nodes
orders_copies choice packets ss ts nodes h = same_each (orders_on choice packets ss nodes) (orders_on choice packets ts nodes) (λ n. on_copies choice packets ss ts nodes n h) (below nodes)
