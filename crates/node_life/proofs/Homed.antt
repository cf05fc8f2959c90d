-- The workers on which a life may place packets.
use Rattle.std.proofs.Common.{◌≡◌, Bool, true, ℕ, zero, suc, ◌≤◌, List, [], ◌∷◌, Option, Some, None, length, drop, refl, arith}
use Rattle.std.specs.Prelude.{slice_get}
use Rattle.five_tuple.specs.declared.Flow.{Flow}
use Rattle.cluster_node.specs.declared.packets.Packet.{Packet}
use Rattle.cluster_node.specs.declared.packets.Packet.TheVariants.{Good, Bad}
use Rattle.thread_records.specs.declared.command.Command.{Command}
use Rattle.thread_records.specs.declared.command.Command.TheVariants.{Publish, Offer, Restart, Stop}
use Rattle.node_life.specs.PrivateHomes.{has, HasHome, HaveHomes, ends_life}

-- where each worker that is a home is marked, the home of any packet is
pub any_home : (home : Flow → ℕ) (marks : List Bool) → ((x : Flow) → has marks (home x) ≡ true) → (p : Option Packet) → HasHome home marks p
any_home home marks all None = tt
any_home home marks all (Some (Good x len at)) = all x
any_home home marks all (Some (Bad c)) = tt

pub any_homes : (home : Flow → ℕ) (packets : List Packet) (marks : List Bool) → ((x : Flow) → has marks (home x) ≡ true) → (cs : List Command) → HaveHomes home packets marks cs
any_homes home packets marks all [] = tt
any_homes home packets marks all (Publish v ∷ cs) = any_homes home packets marks all cs
any_homes home packets marks all (Offer k ∷ cs) = (any_home home marks all (slice_get packets k), any_homes home packets marks all cs)
any_homes home packets marks all (Restart ∷ cs) = tt
any_homes home packets marks all (Stop ∷ cs) = tt

pub drop_end : {A : Type 0} (xs : List A) (n : ℕ) → length xs ≤ n → drop n xs ≡ []
drop_end [] zero h = refl
drop_end [] (suc n) h = refl
drop_end (x ∷ xs) zero h = absurd (omega arith)
drop_end (x ∷ xs) (suc n) h = drop_end xs n (omega arith)

pub ended : (home : Flow → ℕ) (packets : List Packet) (marks : List Bool) (c : Command) (cs : List Command) → ends_life c ≡ true → HaveHomes home packets marks (c ∷ cs)
ended home packets marks (Publish v) cs h = absurd (cc)
ended home packets marks (Offer k) cs h = absurd (cc)
ended home packets marks Restart cs h = tt
ended home packets marks Stop cs h = tt
