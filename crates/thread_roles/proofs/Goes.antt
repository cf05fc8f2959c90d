-- One more command.
use Rattle.std.proofs.Common.{◌≡◌, ◌<◌, ◌+◌, ◌++◌, ◌∷◌, [], ℕ, zero, suc, Bool, true, false, List, Some, length, take, get_or, refl, ap, sym, subst, ◌∙◌}
use Rattle.std.specs.Prelude.{slice_get}
use Rattle.std.proofs.lemmas.List.{take_more, map_push}
use Rattle.thread_records.specs.declared.nodes.NodeRecord.{NodeRecord}
use Rattle.thread_records.specs.Runs.{IsRunOf}
use Rattle.cluster_node.specs.Rules.{Rules}
use Rattle.cluster_node.specs.declared.packets.Packet.{Packet}
use Rattle.thread_records.specs.declared.command.Command.{Command}
use Rattle.thread_records.specs.declared.command.Command.TheVariants.{Restart, Stop}
use Rattle.thread_records.specs.Losses.{ending, as_written, drained_lives, losses, LosesNone, KeepDrained}
use Rattle.thread_records.proofs.Losses.{keeps_ended}
use Rattle.thread_records.specs.Histories.{commands_of}
use Rattle.thread_records.specs.Journals.{JournalView, Drives}
use Rattle.thread_roles.specs.Going.{Going}

pub goes_more : (rules : Rules) (packets : List Packet) (cs : List Command) (n places : ℕ) (c : Command) (j k : JournalView) → Going rules packets cs n places j → Drives rules packets k → commands_of k.events ≡ commands_of j.events ++ as_written c ∷ [] → KeepDrained (drained_lives (cs ++ c ∷ [])) (losses k.outcomes) → k.node ≡ j.node → k.ring ≡ j.ring → Going rules packets (cs ++ c ∷ []) n places k
goes_more rules packets cs n places c j k g d e kept a b = record { drives = d; obeyed = e ∙ ap (λ (l : List Command). l ++ as_written c ∷ []) g.obeyed ∙ sym (map_push as_written cs c); kept = kept; own = a ∙ g.own; ring = b ∙ g.ring }

-- the life's end is one more command
pub goes_ended : (rules : Rules) (packets : List Packet) (cs : List Command) (n places : ℕ) (drained : Bool) (lost : ℕ) (j k : JournalView) → Going rules packets cs n places j → Drives rules packets k → commands_of k.events ≡ commands_of j.events ++ Restart ∷ [] → losses k.outcomes ≡ losses j.outcomes ++ lost ∷ [] → LosesNone drained lost → k.node ≡ j.node → k.ring ≡ j.ring → Going rules packets (cs ++ ending drained ∷ []) n places k
goes_ended rules packets cs n places true lost j k g d e more none a b = goes_more rules packets cs n places Restart j k g d e (keeps_ended cs Restart true lost j.outcomes k.outcomes refl more none g.kept) a b
goes_ended rules packets cs n places false lost j k g d e more none a b = goes_more rules packets cs n places Stop j k g d e (keeps_ended cs Stop false lost j.outcomes k.outcomes refl more none g.kept) a b

some_is : (cs : List Command) (i : ℕ) (c d : Command) → slice_get cs i ≡ Some c → get_or cs i d ≡ c
some_is [] i c d e = absurd (cc)
some_is (x ∷ xs) zero c d e = cc
some_is (x ∷ xs) (suc i) c d e = some_is xs i c d e

-- so many commands of a list were obeyed
pub obeyed_more : (rules : Rules) (packets : List Packet) (commands : List Command) (n places i : ℕ) (c : Command) (k : JournalView) → i < length commands → slice_get commands i ≡ Some c → Going rules packets (take i commands ++ c ∷ []) n places k → Going rules packets (take (i + 1) commands) n places k
obeyed_more rules packets commands n places i c k h e g = subst (λ (cs : List Command). Going rules packets cs n places k) (sym (take_more commands i c h ∙ ap (λ (x : Command). take i commands ++ x ∷ []) (some_is commands i c c e))) g

-- a run by other names for its node and its rings
pub same_run : (rules : Rules) (packets : List Packet) (n m ring place : ℕ) (cs : List Command) (r : NodeRecord) → n ≡ m → ring ≡ place → IsRunOf rules packets n ring cs r → IsRunOf rules packets m place cs r
same_run rules packets n m ring place cs r a b h = subst (λ (k : ℕ). IsRunOf rules packets m k cs r) b (subst (λ (k : ℕ). IsRunOf rules packets k ring cs r) a h)
