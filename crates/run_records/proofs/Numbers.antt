-- What events sent, by their numbers.
use Rattle.std.proofs.Common.{◌≡◌, ℕ, List, [], ◌∷◌, ◌++◌, map, refl, sym, ap, ◌∙◌}
use Rattle.std.specs.Global.{Vec}
use Rattle.std.specs.List.{flat_map}
use Rattle.cluster_node.specs.declared.outcomes.Outcome.{Outcome}
use Rattle.simulation.specs.Sent.{Traffic, Sending, sent_by}
use Rattle.thread_records.specs.Lean.{send_of, sends_told}
use Rattle.run_records.specs.Sends.{sent_of, sent_by_lives}

-- what is sent of items, and of those that they were made of
made_by : {X Y : Type 0} (f : Y → List Sending) (g : X → Y) (xs : List X) → flat_map f (map g xs) ≡ flat_map (λ x. f (g x)) xs
made_by f g [] = refl
made_by f g (x ∷ xs) = ap (λ (l : List Sending). f (g x) ++ l) (made_by f g xs)

-- what the events of some numbers sent
pub sent_numbers : (t : Traffic) (os : List Outcome) (ns : List ℕ) → sent_of t (map (λ n. send_of os n) ns) ≡ flat_map (λ n. sent_by t (send_of os n)) ns
sent_numbers t os ns = made_by (λ o. sent_by t o) (λ n. send_of os n) ns

-- the same, life by life
pub sent_lives : (t : Traffic) (os : List Outcome) (vs : List (Vec ℕ)) (lives : List (Vec Outcome)) → sends_told os vs ≡ map (λ v. v.items) lives → flat_map (λ v. sent_of t (map (λ n. send_of os n) v.items)) vs ≡ sent_by_lives t lives
sent_lives t os vs lives same =
    sym (made_by (λ l. sent_of t l) (λ (v : Vec ℕ). map (λ n. send_of os n) v.items) vs)
    ∙ ap (λ (ls : List (List Outcome)). flat_map (λ l. sent_of t l) ls) same
    ∙ made_by (λ l. sent_of t l) (λ (v : Vec Outcome). v.items) lives
