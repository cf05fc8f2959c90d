-- A run record by record, between two of its moves.
use Rattle.std.specs.Prelude.{◌≡◌, ◌≤◌, ℕ, ◌*◌, Bool, true, false, List, ◌∷◌, ◌++◌, length, reverse, Result, OnOk, IfErr}
use Rattle.ip_headers.specs.declared.Link.{Link}
use Rattle.pcap_file.specs.declared.format.Head.{Head}
use Rattle.pcap_file.specs.declared.format.InputEnd.{InputEnd}
use Rattle.pcap_file.specs.Device.{Tape, Unfailed}
use Rattle.pcap_file.specs.Format.{Record}
use Rattle.pcap_file.specs.Text.{IsTold}
use Rattle.spreader.specs.Choices.{Choice}
use Rattle.timed_steps.specs.declared.TimedStep.{TimedStep}
use Rattle.cluster_node.specs.Records.{Judged}
use Rattle.cluster_core.specs.Cluster.{Cluster, Orderly}
use Rattle.event_trace.specs.Trace.{Trace}
use Rattle.event_trace.specs.Steps.{World}
use Rattle.waiting_frames.specs.Mirrors.{Mirrors}
use Rattle.simulation.specs.Plans.{Planned}
use Rattle.simulation.specs.PrivateSteps.{take_of, lose_of, until_of}
use Rattle.simulation.specs.Sent.{sent, Wrote, WroteUntil}
use Rattle.simulation.specs.Simulated.{trace_of, traffic_of, sendings}
use Rattle.simulation.specs.Intake.{CanCome, Seen}
use Rattle.simulation.specs.PrivateKeeping.{KeepsNamed}
use Rattle.simulation.specs.PrivateGoing.{Left, SentSoFar}
use Rattle.simulation.specs.declared.fault.SimulationFault.{SimulationFault}
use Rattle.simulation.specs.declared.staging.Stage.{Stage}

-- where all the records are these: the queues of frames mirror the trace, and after the header the output got what was sent
-- so far
pub record Sound (cluster : Cluster) (plan : Planned) (link : Link) (all : List Record) (trace : Trace) (qs : List (List Record))
    (begun out : Tape) : Type 0 where
  pub workers : cluster.workers ≤ 16
  pub room : cluster.nodes * 16 ≤ length qs
  pub orderly : Orderly cluster
  pub judged : Judged cluster.judge trace.past
  pub mirrors : Mirrors all cluster trace.past qs
  pub sent : SentSoFar plan link all trace begun out

-- the same of a stage
abbrev pub SoundAt : {P : Type 0} → Cluster → Planned → Link → List Record → Stage P → Tape → Tape → Type 0
SoundAt cluster plan link all stage begun out = Sound cluster plan link all stage.play.trace stage.relay.waiting begun out

-- a stage that is sound, whatever the records are, stays so
abbrev pub StaysSound : {P T E : Type 0} → Result T E → Cluster → Planned → Stage P → Stage P → Tape → Tape → Type 0
StaysSound result cluster plan old new out out' = (all : List Record) (begun : Tape)
    → SoundAt cluster plan old.intake.head.link all old begun out → OnOk result (SoundAt cluster plan old.intake.head.link all new begun out')

-- what the output got where a run stopped by this fault: of what is sent along this trace
abbrev pub SentUntil : SimulationFault → Planned → Link → List Record → Trace → Tape → Tape → Type 0
SentUntil fault plan link all trace begun out = WroteUntil fault begun out (sent (traffic_of plan link all) (reverse trace.past))

-- where a move of a stage that is sound fails, the output got what it is to have of that move
abbrev pub CutIn : {P T : Type 0} → Result T SimulationFault → Cluster → Planned → (World → Trace → Trace) → Stage P → Tape → Tape → Type 0
CutIn result cluster plan move old out out' = (w : World) (all : List Record) (begun : Tape) → w.cluster ≡ cluster
    → SoundAt cluster plan old.intake.head.link all old begun out
    → IfErr result (λ fault. SentUntil fault plan old.intake.head.link all (move w old.play.trace) begun out')

-- where all the records are these: what is left to be done leads to the trace of the whole plan
pub record Going {P : Type 0} (cluster : Cluster) (choice : Choice) (plan : Planned) (link : Link) (all : List Record) (ss : List TimedStep) (stage : Stage P)
    (begun out : Tape) : Type 0 where
  pub left : Left cluster choice plan link all ss stage.play.trace
  pub sound : Sound cluster plan link all stage.play.trace stage.relay.waiting begun out

-- With these steps left: some records were handed out, and just those of them are kept that a step left names. Whatever can
-- come after them, the run is going.
pub record Reached {P : Type 0} (cluster : Cluster) (choice : Choice) (plan : Planned) (text begun : Tape) (ss : List TimedStep) (stage : Stage P)
    (left out : Tape) : Type 0 where
  pub seen : List Record
  pub read : Seen text seen left stage.intake
  pub place : stage.play.trace.read ≡ length seen
  pub kept : KeepsNamed seen ss stage.kept
  pub going : (more : List Record) → CanCome stage.intake more → Going cluster choice plan stage.intake.head.link (seen ++ more) ss stage begun out

-- a record was taken, so that one fewer is to be taken; or the input has ended, so that none is
abbrev pub still_to_take : Bool → ℕ → List TimedStep → List TimedStep
still_to_take true k ss = take_of k ∷ ss
still_to_take false k ss = ss

-- the same of records that are lost
abbrev pub still_to_lose : Bool → ℕ → List TimedStep → List TimedStep
still_to_lose true k ss = lose_of k ∷ ss
still_to_lose false k ss = ss

-- a step by time whose next record comes early enough is one record and itself; else it is over
abbrev pub one_of_until : Bool → ℕ → List TimedStep → List TimedStep
one_of_until true end ss = take_of 1 ∷ until_of end ∷ ss
one_of_until false end ss = ss

-- and what is left of it after that record
abbrev pub still_until : Bool → ℕ → List TimedStep → List TimedStep
still_until true end ss = until_of end ∷ ss
still_until false end ss = ss

-- The steps are done and the input was read to its end. The records after the header are these, the trace is the plan's
-- over them, and the output got all that it sends.
pub record IsOver (cluster : Cluster) (choice : Choice) (plan : Planned) (head : Head) (text left begun out : Tape) (trace : Trace) (packets : ℕ)
    (ending : InputEnd) : Type 0 where
  pub records : List Record
  pub told : IsTold head text.bytes records ending
  pub unfailed : Unfailed text left
  pub trace_is : trace ≡ trace_of cluster choice plan head.link records
  pub count : packets ≡ length records
  pub wrote : Wrote begun out (sendings cluster choice plan head.link records)
