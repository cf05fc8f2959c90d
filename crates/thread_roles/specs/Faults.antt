-- The faults of a run that its lives' records tell, those that no record tells, and their order.
use Rattle.std.specs.Prelude.{ℕ, Option, Some, None, nat_le, if◌then◌else◌}
use Rattle.thread_records.specs.declared.journal.closing.LifeFault.{LifeFault}
use Rattle.thread_records.specs.declared.journal.closing.LifeFault.TheVariants as lives
use Rattle.thread_roles.specs.declared.fault.RunFault.{RunFault}
use Rattle.thread_roles.specs.declared.fault.RunFault.TheVariants.{Foreign, RingLost, ThreadLost, BookLost, Memory}

abbrev pub run_fault : LifeFault → RunFault
run_fault lives.Foreign = Foreign
run_fault lives.RingLost = RingLost
run_fault lives.Memory = Memory

-- memory was refused, or a thread or its place to read wasn't had: no record tells it
abbrev pub IsRefusal : RunFault → Type 0
IsRefusal Foreign = ⊥
IsRefusal RingLost = ⊥
IsRefusal ThreadLost = Unit {0}
IsRefusal BookLost = ⊥
IsRefusal Memory = Unit {0}

-- the order in which faults are reported
abbrev pub rank_of : RunFault → ℕ
rank_of Memory = 0
rank_of ThreadLost = 1
rank_of Foreign = 2
rank_of RingLost = 3
rank_of BookLost = 4

-- the one of two that is told
abbrev pub first_fault : Option RunFault → RunFault → RunFault
first_fault None b = b
first_fault (Some a) b = if nat_le (rank_of a) (rank_of b) then a else b
