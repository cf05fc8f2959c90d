-- What was lost where the lives of a node ended, beside what its commands say of them.
use Rattle.std.specs.Prelude.{◌≡◌, ℕ, Bool, true, false, List, [], ◌∷◌}
use Rattle.cluster_node.specs.declared.outcomes.Outcome.{Outcome}
use Rattle.cluster_node.specs.declared.outcomes.Outcome.TheVariants.{Installed, Placed, Forward, Dropped, Restarted, Refused}
use Rattle.thread_records.specs.declared.command.Command.{Command}
use Rattle.thread_records.specs.declared.command.Command.TheVariants.{Publish, Offer, Restart, Stop}

-- the command that ends a life: by whether it is drained
abbrev pub ending : Bool → Command
ending true = Restart
ending false = Stop

-- what a command is in a history: there a stop is a restart
abbrev pub as_written : Command → Command
as_written (Publish v) = Publish v
as_written (Offer k) = Offer k
as_written Restart = Restart
as_written Stop = Restart

-- for each life that these commands end, in order, whether it is drained
abbrev pub drained_lives : List Command → List Bool
drained_lives [] = []
drained_lives (Publish v ∷ cs) = drained_lives cs
drained_lives (Offer k ∷ cs) = drained_lives cs
drained_lives (Restart ∷ cs) = true ∷ drained_lives cs
drained_lives (Stop ∷ cs) = false ∷ drained_lives cs

-- what was lost where each life ended, in order
abbrev pub losses : List Outcome → List ℕ
losses [] = []
losses (Installed ∷ os) = losses os
losses (Placed w f ∷ os) = losses os
losses (Forward n w k x b v ∷ os) = losses os
losses (Dropped k c ∷ os) = losses os
losses (Restarted lost ∷ os) = lost ∷ losses os
losses (Refused r ∷ os) = losses os

abbrev pub LosesNone : Bool → ℕ → Type 0
LosesNone true lost = lost ≡ 0
LosesNone false lost = Unit {0}

-- as many lives ended as these, and nothing was lost of one that was drained
abbrev pub KeepDrained : List Bool → List ℕ → Type 0
KeepDrained [] [] = Unit {0}
KeepDrained [] (lost ∷ ls) = ⊥
KeepDrained (drained ∷ ds) [] = ⊥
KeepDrained (drained ∷ ds) (lost ∷ ls) = LosesNone drained lost × KeepDrained ds ls
