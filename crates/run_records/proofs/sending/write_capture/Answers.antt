use Rattle.std.proofs.Common.{inl, refl}
use Rattle.std.proofs.KnownBytes.{Appends-trans}
use Rattle.simulation.proofs.Sends.{unfailed_both}
use Rattle.run_records.proofs.sending.write_capture.Goals as goal

pub returns-in-Ok-send_nodes-clause-written : goal.returns-in-Ok-send_nodes-clause-written
returns-in-Ok-send_nodes-clause-written g c =
    let before = g.O.Sink.tape c.args.output.now in
    let begun = g.O.Sink.tape c.write_head.new.sink in
    let after = g.O.Sink.tape c.send_nodes.new.output in (
      Appends-trans before.bytes begun.bytes after.bytes _ _ c.in-Ok.ensures.bytes c.in-Ok-send_nodes.ensures.ok.bytes,
      unfailed_both before begun after c.in-Ok.ensures.unfailed c.in-Ok-send_nodes.ensures.ok.unfailed,
    )

pub returns-in-Err-clause-cut : goal.returns-in-Err-clause-cut
returns-in-Err-clause-cut g c = inl (refl, c.in-Err.ensures.refused)
