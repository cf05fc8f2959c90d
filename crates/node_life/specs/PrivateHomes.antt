-- The workers on which a life may place packets, as marks.
use Rattle.std.specs.Prelude.{◌≡◌, ℕ, Bool, true, false, List, [], ◌∷◌, Option, Some, None, slice_get, slice_index_or}
use Rattle.five_tuple.specs.declared.Flow.{Flow}
use Rattle.cluster_node.specs.declared.packets.Packet.{Packet}
use Rattle.cluster_node.specs.declared.packets.Packet.TheVariants.{Good, Bad}
use Rattle.thread_records.specs.declared.command.Command.{Command}
use Rattle.thread_records.specs.declared.command.Command.TheVariants.{Publish, Offer, Restart, Stop}

-- a worker is marked, or has no mark
abbrev pub has : List Bool → ℕ → Bool
has marks w = slice_index_or marks w true

-- a command ends the life
abbrev pub ends_life : Command → Bool
ends_life (Publish v) = false
ends_life (Offer k) = false
ends_life Restart = true
ends_life Stop = true

-- the home of a packet's flow is marked, if it has one
abbrev pub HasHome : (Flow → ℕ) → List Bool → Option Packet → Type 0
HasHome home marks None = Unit {0}
HasHome home marks (Some (Good x len at)) = has marks (home x) ≡ true
HasHome home marks (Some (Bad c)) = Unit {0}

-- so is that of each packet that is offered before the life ends
abbrev pub HaveHomes : (Flow → ℕ) → List Packet → List Bool → List Command → Type 0
HaveHomes home packets marks [] = Unit {0}
HaveHomes home packets marks (Publish v ∷ cs) = HaveHomes home packets marks cs
HaveHomes home packets marks (Offer k ∷ cs) = HasHome home marks (slice_get packets k) × HaveHomes home packets marks cs
HaveHomes home packets marks (Restart ∷ cs) = Unit {0}
HaveHomes home packets marks (Stop ∷ cs) = Unit {0}

-- what is marked here is marked there
abbrev pub Marks : List Bool → List Bool → Type 0
Marks here there = (w : ℕ) → has here w ≡ true → has there w ≡ true
