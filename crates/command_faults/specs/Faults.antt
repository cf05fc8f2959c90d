-- The names of faults.
use Rattle.std.specs.Prelude.{◌≡◌, ◌<◌, ◌⊎◌, ◌+◌, ◌++◌, ◌∷◌, [], ℕ, List, length, Result, Ok, Err, codes}
use Rattle.std.specs.Io.KnownBytes.{Appends}
use Rattle.pcap_file.specs.Device.{Tape, Unfailed, IsWorn}
use Rattle.std.specs.Fmt.{decimal}
use Rattle.pool_versions.specs.declared.catalogue.PoolFault.{PoolFault}
use Rattle.pool_versions.specs.declared.catalogue.PoolFault.TheVariants as pool
use Rattle.pcap_file.specs.declared.format.PcapFault.{PcapFault}
use Rattle.pcap_file.specs.declared.format.PcapFault.TheVariants as capture
use Rattle.scenario.specs.declared.fault.ScenarioFault.{ScenarioFault}
use Rattle.scenario.specs.declared.fault.ScenarioFault.TheVariants as read
use Rattle.simulation.specs.declared.fault.SimulationFault.{SimulationFault}
use Rattle.simulation.specs.declared.fault.SimulationFault.TheVariants as run
use Rattle.thread_roles.specs.declared.fault.RunFault.{RunFault}
use Rattle.thread_roles.specs.declared.fault.RunFault.TheVariants as threads
use Rattle.command_faults.specs.declared.fault.CliFault.{CliFault}
use Rattle.command_faults.specs.declared.fault.CliFault.TheVariants.{BadSize, BadHash, BadName, DoubleName, TooMany, Write, BadHex, TooLong, Read}
use Rattle.command_faults.specs.declared.fault.CliFault.TheVariants.{BadMember, BadToml, BadFormat, BadKey, Pool, BadStep, BadService, BadScheme, Capture}
use Rattle.command_faults.specs.declared.fault.CliFault.TheVariants.{OpenScenario, OpenInput, OpenOutput, ReadScenario, NoRandom, ThreadLost, Foreign}
use Rattle.command_faults.specs.declared.fault.CliFault.TheVariants.{RingLost, BookLost, Memory}

abbrev pub pool_name : PoolFault → List ℕ
pool_name pool.BadNumber = codes "BadNumber"
pool_name pool.NumberTaken = codes "NumberTaken"
pool_name pool.DoubleService = codes "DoubleService"
pool_name pool.DoubleName = codes "DoubleName"
pool_name pool.TooMany = codes "TooMany"
pool_name pool.Memory = codes "Memory"

abbrev pub capture_name : PcapFault → List ℕ
capture_name capture.ShortHeader = codes "ShortHeader"
capture_name capture.BadMagic = codes "BadMagic"
capture_name capture.BadVersion = codes "BadVersion"
capture_name capture.BadLink = codes "BadLink"
capture_name capture.TooLong = codes "TooLong"
capture_name capture.Read = codes "Read"
capture_name capture.Write = codes "Write"
capture_name capture.Memory = codes "Memory"

-- want of memory is one fault, wherever it comes from
abbrev pub pool_fault : PoolFault → CliFault
pool_fault pool.Memory = Memory
pool_fault fault = Pool fault

abbrev pub capture_fault : PcapFault → CliFault
capture_fault capture.Memory = Memory
capture_fault fault = Capture fault

-- the fault of a scenario, as the command's
abbrev pub scenario_fault : ScenarioFault → CliFault
scenario_fault read.TooLong = TooLong
scenario_fault read.BadToml = BadToml
scenario_fault read.BadFormat = BadFormat
scenario_fault read.BadKey = BadKey
scenario_fault read.BadMember = BadMember
scenario_fault (read.Pool fault) = pool_fault fault
scenario_fault (read.BadStep step) = BadStep step
scenario_fault read.Memory = Memory

-- the fault of a run over a capture
abbrev pub run_fault : SimulationFault → CliFault
run_fault (run.Capture fault) = capture_fault fault
run_fault run.Write = Write
run_fault run.Memory = Memory

-- the fault of a run on threads
abbrev pub threads_fault : RunFault → CliFault
threads_fault threads.Foreign = Foreign
threads_fault threads.RingLost = RingLost
threads_fault threads.ThreadLost = ThreadLost
threads_fault threads.BookLost = BookLost
threads_fault threads.Memory = Memory

-- a fault's name, for one of the pools or of a capture the name of that, for a step its number behind
abbrev pub fault_name : CliFault → List ℕ
fault_name BadSize = codes "BadSize"
fault_name BadHash = codes "BadHash"
fault_name BadName = codes "BadName"
fault_name DoubleName = codes "DoubleName"
fault_name TooMany = codes "TooMany"
fault_name Write = codes "Write"
fault_name BadHex = codes "BadHex"
fault_name TooLong = codes "TooLong"
fault_name Read = codes "Read"
fault_name BadMember = codes "BadMember"
fault_name BadToml = codes "BadToml"
fault_name BadFormat = codes "BadFormat"
fault_name BadKey = codes "BadKey"
fault_name (Pool fault) = pool_name fault
fault_name (BadStep step) = codes "BadStep " ++ decimal step
fault_name BadService = codes "BadService"
fault_name BadScheme = codes "BadScheme"
fault_name (Capture fault) = capture_name fault
fault_name OpenScenario = codes "OpenScenario"
fault_name OpenInput = codes "OpenInput"
fault_name OpenOutput = codes "OpenOutput"
fault_name ReadScenario = codes "ReadScenario"
fault_name NoRandom = codes "NoRandom"
fault_name ThreadLost = codes "ThreadLost"
fault_name Foreign = codes "Foreign"
fault_name RingLost = codes "RingLost"
fault_name BookLost = codes "BookLost"
fault_name Memory = codes "Memory"

-- the number behind a fault's word
abbrev pub number_text : CliFault → List ℕ
number_text (BadStep step) = decimal step
number_text fault = []

abbrev pub fault_line : CliFault → List ℕ
fault_line fault = codes "fault: " ++ fault_name fault ++ 10 ∷ []

-- a device was given up when it had got a beginning of a line
pub record BreaksLine (line : List ℕ) (old new : Tape) : Type 0 where
  pub first : List ℕ
  pub rest : List ℕ
  pub line_is : line ≡ first ++ rest
  pub some : 0 < length rest
  pub written : Appends old.bytes new.bytes first
  pub given_up : (new.failures ≡ old.failures + 1) ⊎ IsWorn old new

-- status 0 and nothing written for Ok; else status 1, and the fault's line, whole unless the device was given up
abbrev pub FinishesWith : {W : Type 0} → Result (Unit {0}) CliFault → Tape → Tape → ℕ → W → W → Type 0
FinishesWith (Ok done) old new status before after = (status ≡ 0) × (after ≡ before)
FinishesWith (Err fault) old new status before after =
    (status ≡ 1) × ((Appends old.bytes new.bytes (fault_line fault) × Unfailed old new) ⊎ BreaksLine (fault_line fault) old new)
