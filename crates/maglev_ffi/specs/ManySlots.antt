-- The slots of many flows, and when they aren't written.
use Rattle.std.specs.Prelude.{ℕ, ◌==◌, not, if◌then◌else◌, List, map, is_some}
use Rattle.five_tuple.specs.declared.Flow.{Flow}
use Rattle.backend_names.specs.Sizes.{is_table_size}
use Rattle.maglev_ffi.specs.Slots.{hash_of_number, slot_answer}
use Rattle.maglev_ffi.specs.Tables.{number_of}
use Rattle.maglev_ffi.specs.declared.fault.Fault.TheVariants.{BadSize, BadHash, BadRoom}
use Rattle.maglev_ffi.specs.declared.flows.MaglevFlow.{MaglevFlow}

abbrev pub flow_of : MaglevFlow → Flow
flow_of x = record { src = x.src; dst = x.dst; sport = x.sport; dport = x.dport; proto = x.proto }

-- the slot of each flow, in their order
abbrev pub slots_of : ℕ → ℕ → List MaglevFlow → List ℕ
slots_of size hash flows = map (λ x. slot_answer size hash (flow_of x)) flows

-- 0, or the number of the first fault of a size, a hash, and room for the slots of some flows
abbrev pub slots_answer : ℕ → ℕ → ℕ → ℕ → ℕ
slots_answer size hash count room =
    if not (is_table_size size) then number_of BadSize else
    (if not (is_some (hash_of_number hash)) then number_of BadHash else
    (if not (room == count) then number_of BadRoom else 0))
