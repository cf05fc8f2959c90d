-- Where there is no device, none is given up.
use Rattle.std.proofs.Common.{◌≡◌, ◌≢◌, ℕ, List, length, inl, inr, sym, ◌∙◌, refl, arith}
use Rattle.pcap_file.specs.declared.format.PcapFault.{PcapFault}
use Rattle.pcap_file.specs.declared.format.PcapFault.TheVariants as capture
use Rattle.pcap_file.specs.Device.{Tape, GivenUp, PutRefused}
use Rattle.pcap_file.specs.Format.{written_head}
use Rattle.simulation.specs.declared.fault.SimulationFault.{SimulationFault}
use Rattle.simulation.specs.declared.fault.SimulationFault.TheVariants as run
use Rattle.spreader.specs.Choices.{Choice}
use Rattle.cluster_core.specs.Cluster.{Cluster}
use Rattle.simulation.specs.Plans.{Planned}
use Rattle.simulation.specs.Sent.{record_text}
use Rattle.simulation.specs.Simulated.{Stopped}
use Rattle.command_faults.specs.declared.fault.CliFault.{CliFault}
use Rattle.command_faults.specs.declared.fault.CliFault.TheVariants.{Write}
use Rattle.simulation.specs.Wires.{unkept}
use Rattle.command_faults.specs.Faults.{capture_fault, run_fault}
use Rattle.scenario_commands.specs.Scenarios.{RunFails}

no_end : (n : ℕ) (a : Tape) → a.failures ≡ 0 → GivenUp n a unkept → ⊥
no_end n a e (inl f) = omega (arith, e, f.0)
no_end n a e (inr f) = omega (arith, f.2)

no_put : (bytes : List ℕ) (a : Tape) → a.failures ≡ 0 → PutRefused bytes a unkept → ⊥
no_put bytes a e r = no_end (length bytes) a e r.0

no_capture_write : (f : PcapFault) → capture_fault f ≡ Write → ⊥
no_capture_write capture.ShortHeader e = cc
no_capture_write capture.BadMagic e = cc
no_capture_write capture.BadVersion e = cc
no_capture_write capture.BadLink e = cc
no_capture_write capture.TooLong e = cc
no_capture_write capture.Read e = cc
no_capture_write capture.Write e = cc
no_capture_write capture.Memory e = cc

not_stopped : (cluster : Cluster) (choice : Choice) (plan : Planned) (input input' : Tape) → Stopped cluster choice plan input input' unkept unkept run.Write → ⊥
not_stopped cluster choice plan input input' (inl s) = let bad : run.Write ≡ run.Memory = s.0 in cc
not_stopped cluster choice plan input input' (inr (inl s)) = s.0
not_stopped cluster choice plan input input' (inr (inr s)) =
    elim (s.wrote) [
      | inl w ↦ no_put written_head unkept refl w.1
      | inr w ↦ no_put (record_text w.2.next) w.2.at (w.2.wrote.unfailed.0 ∙ w.1.1.0) w.2.refused
    ]

not_written : (why : SimulationFault) (cluster : Cluster) (choice : Choice) (plan : Planned) (input input' : Tape) → run_fault why ≡ Write → Stopped cluster choice plan input input' unkept unkept why → ⊥
not_written (run.Capture f) cluster choice plan input input' e s = no_capture_write f e
not_written run.Memory cluster choice plan input input' e s = cc
not_written run.Write cluster choice plan input input' e s = not_stopped cluster choice plan input input' s

pub never_written : (fault : CliFault) (text : List ℕ) (input input' : Tape) → RunFails fault text input input' unkept unkept → fault ≢ Write
never_written fault text input input' r = λ is. not_written r.why _ _ _ input input' (sym r.named ∙ is) r.stopped
