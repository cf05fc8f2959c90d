use Rattle.std.proofs.Common.{◌≡◌, List, ℕ, map, length, Bor, arith}
use Rattle.std.proofs.lemmas.List.{length-map}
use Rattle.maglev_texts.proofs.Stars.{weighed_many}
use Rattle.maglev_texts.proofs.members.weighed_at.Goals as goal

pub returns-in-len3-up : goal.returns-in-len3-up
returns-in-len3-up c =
    let long : length (map (λ (w : Bor (List ℕ)). w.now) c.args.parts.now) ≡ length c.args.parts.now = length-map c.args.parts.now (λ (w : Bor (List ℕ)). w.now) in
    weighed_many c.args.member (map (λ (w : Bor (List ℕ)). w.now) c.args.parts.now) (omega arith)
