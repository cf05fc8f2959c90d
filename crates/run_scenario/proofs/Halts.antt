-- A run that stopped.
use Rattle.std.proofs.Common.{List, refl, inl, inr}
use Rattle.pcap_file.specs.declared.format.Head.{Head}
use Rattle.pcap_file.specs.declared.format.InputEnd.{InputEnd}
use Rattle.pcap_file.specs.Device.{Tape}
use Rattle.pcap_file.specs.Format.{Record}
use Rattle.scenario.specs.declared.plan.Scenario.{Scenario}
use Rattle.simulation.specs.declared.fault.SimulationFault.TheVariants.{Capture, Write, Memory}
use Rattle.run_scenario.specs.declared.failure.RunFailure.{RunFailure}
use Rattle.run_scenario.specs.declared.failure.RunFailure.TheVariants.{Simulation, Threads}
use Rattle.run_records.specs.Inputs.{IsReadWhole}
use Rattle.run_scenario.specs.Runs.{Halted}
use Rattle.run_scenario.specs.PrivateFailures.{IsOfThreads}

pub halted_between : (s : Scenario) (i i' o : Tape) (head : Head) (records : List Record) (ending : InputEnd) (stop : RunFailure) → IsReadWhole i i' head records ending → IsOfThreads stop → Halted s i i' o o stop
halted_between s i i' o head records ending (Threads fault) r h = (record { head = head; records = records; ending = ending; read = r }, refl)
halted_between s i i' o head records ending (Simulation Memory) r h = inr (inl (refl, record { head = head; records = records; ending = ending; read = r }, refl))
halted_between s i i' o head records ending (Simulation Write) r h = absurd h
halted_between s i i' o head records ending (Simulation (Capture fault)) r h = absurd h
