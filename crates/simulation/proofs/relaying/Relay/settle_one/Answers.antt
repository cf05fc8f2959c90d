use Rattle.simulation.specs.Wires.{traffic}
use Rattle.std.proofs.Common.{List, Some, ap, sym, ◌∙◌, subst}
use Rattle.pcap_file.specs.declared.format.Frame.{Frame}
use Rattle.pcap_file.specs.Format.{packet}
use Rattle.std.specs.Prelude.{IfErr}
use Rattle.simulation.specs.Sent.{Sending, WroteUntil}
use Rattle.simulation.proofs.Followed.{nothing_sent, sent_as_taken, wrote_nothing, settled_with}
use Rattle.simulation.proofs.relaying.Relay.settle_one.Goals as goal

pub returns-in_default-clause-settled : goal.returns-in_default-clause-settled
returns-in_default-clause-settled g c = λ all k past can quiet. (
  c.settle.ensures.mirrors all k past can quiet,
  wrote_nothing _ _ (nothing_sent (traffic c.args.wire.now all) c.args.said.now.outcome (λ n w i x b v e. c.in_default.ensures.sent all k past can n w i x b v e)),
)

pub returns-clause-settled : goal.returns-clause-settled
returns-clause-settled g c = λ all k past can quiet.
    settled_with c.send_waited.result _ _ _ _ _ (c.settle.ensures.mirrors all k past can quiet)
    (sent_as_taken c.args.wire.now all c.args.said.now.outcome (packet c.as_ref.result.now) (λ n w i x b v e. c.in-Some.ensures.sent all k past can n w i x b v e ∙ ap (λ (f : Frame). Some (packet f)) (sym c.as_ref.ensures))) c.send_waited.ensures.ok

pub returns-clause-cut : goal.returns-clause-cut
returns-clause-cut g c = λ all k past can quiet.
    subst (λ (l : List Sending). IfErr c.send_waited.result (λ fault. WroteUntil fault (g.O.Outlet.tape c.args.output.now) (g.O.Outlet.tape c.send_waited.new.output) l))
    (sent_as_taken c.args.wire.now all c.args.said.now.outcome (packet c.as_ref.result.now) (λ n w i x b v e. c.in-Some.ensures.sent all k past can n w i x b v e ∙ ap (λ (f : Frame). Some (packet f)) (sym c.as_ref.ensures))) c.send_waited.ensures.cut
