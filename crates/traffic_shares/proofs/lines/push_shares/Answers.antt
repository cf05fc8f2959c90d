use Rattle.std.proofs.Common.{◌≡◌, ◌++◌, ◌∙◌, ℕ, List, string_bytes, subst}
use Rattle.std.specs.Prelude.{OnOk}
use Rattle.traffic_shares.proofs.Told.{rows_told}
use Rattle.traffic_shares.proofs.lines.push_shares.Goals as goal

pub returns : goal.returns
returns c = λ kind past b.
    subst (λ (l : List ℕ). OnOk c.push_rows.result (string_bytes c.push_rows.new.text ≡ string_bytes c.args.text.now ++ l)) (rows_told kind past c.as_slice.result.now (c.as_slice.ensures.value ∙ c.in_ok-rows.ensures kind past b)) c.push_rows.ensures
