-- What the mux took out of the workers' rings.
use Rattle.std.specs.Prelude.{ℕ, ◌+◌, List, [], ◌∷◌}
use Rattle.rtrb.specs.declared.consumer.Consumer.{Consumer}
use Rattle.rtrb.specs.Ring.{received}
use Rattle.thread_roles.specs.declared.ring.Output.{Output}
use Rattle.thread_roles.specs.declared.ring.Serving.{Serving}
use Rattle.thread_roles.specs.declared.ring.Output.TheVariants.{Send, Close}

-- the weights of the items, added up
abbrev pub weigh : {X : Type 0} → (X → ℕ) → List X → ℕ
weigh f [] = 0
weigh f (x ∷ xs) = f x + weigh f xs

-- a packet that is sent weighs what its serving does, and a closing mark nothing
abbrev pub weight_of : (Serving → ℕ) → Output → ℕ
weight_of h (Send s) = h s
weight_of h Close = 0

-- a closing mark weighs one
abbrev pub closing : Output → ℕ
closing (Send s) = 0
closing Close = 1

-- the weight of all that was taken out of these rings
abbrev pub taken : {A P : Type 0} → (Output → ℕ) → List (Consumer Output A P) → ℕ
taken f rings = weigh (λ r. weigh f (received r)) rings
