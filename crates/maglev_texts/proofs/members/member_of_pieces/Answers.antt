use Rattle.std.proofs.Common.{◌≡◌, List, ℕ, map, length, Bor, arith}
use Rattle.std.proofs.lemmas.List.{length-map}
use Rattle.maglev_texts.proofs.Words.{of_few, of_many}
use Rattle.maglev_texts.proofs.members.member_of_pieces.Goals as goal

pub returns-in-len1 : goal.returns-in-len1
returns-in-len1 c =
    let long : length (map (λ (w : Bor (List ℕ)). w.now) c.args.parts.now) ≡ length c.args.parts.now = length-map c.args.parts.now (λ (w : Bor (List ℕ)). w.now) in
    of_few (map (λ (w : Bor (List ℕ)). w.now) c.args.parts.now) (omega arith)

pub returns-in-len3-up : goal.returns-in-len3-up
returns-in-len3-up c =
    let long : length (map (λ (w : Bor (List ℕ)). w.now) c.args.parts.now) ≡ length c.args.parts.now = length-map c.args.parts.now (λ (w : Bor (List ℕ)). w.now) in
    of_many (map (λ (w : Bor (List ℕ)). w.now) c.args.parts.now) (omega arith)
