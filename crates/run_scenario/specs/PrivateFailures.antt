-- Faults of a run between its reading and its writing.
use Rattle.simulation.specs.declared.fault.SimulationFault.TheVariants.{Capture, Write, Memory}
use Rattle.run_scenario.specs.declared.failure.RunFailure.{RunFailure}
use Rattle.run_scenario.specs.declared.failure.RunFailure.TheVariants.{Simulation, Threads}

-- a fault of the threads, or a refusal of memory
abbrev pub IsOfThreads : RunFailure → Type 0
IsOfThreads (Threads fault) = Unit {0}
IsOfThreads (Simulation Memory) = Unit {0}
IsOfThreads (Simulation Write) = ⊥
IsOfThreads (Simulation (Capture fault)) = ⊥
