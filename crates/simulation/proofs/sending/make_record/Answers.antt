use Rattle.std.proofs.Common.{◌≡◌, ℕ, ◌+◌, List, ◌++◌, length, ap, ◌∙◌, arith}
use Rattle.gre_tunnel.specs.Gre.{wrapped}
use Rattle.gre_tunnel.proofs.RoundTrip.{length-wrapped}
use Rattle.pcap_file.specs.Format.{written_record_head}
use Rattle.pcap_file.proofs.OnePiece.{pieces-written_record}
use Rattle.simulation.specs.Sent.{record_text}
use Rattle.simulation.proofs.sending.make_record.Goals as goal

pub returns-in-Ok-clause-text : goal.returns-in-Ok-clause-text
unfolding record_text
returns-in-Ok-clause-text c =
    let inner : List ℕ = c.args.inner.now in
    let secs : ℕ = c.args.lent.secs in
    let micros : ℕ = c.args.lent.micros in
    let bytes : List ℕ = wrapped c.args.node c.args.backend inner in
    let size : length inner + 24 ≡ length bytes = omega (arith, length-wrapped c.args.node c.args.backend inner) in
    c.in-Ok.ensures.bytes
    ∙ ap (λ (l : List ℕ). l ++ bytes) (c.in_ok-push_record_head.ensures.bytes ∙ ap (λ (l : List ℕ). l ++ written_record_head secs micros (length inner + 24)) c.clear.ensures.items)
    ∙ pieces-written_record secs micros (length inner + 24) bytes size
