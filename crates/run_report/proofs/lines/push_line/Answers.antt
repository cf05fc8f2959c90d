use Rattle.std.proofs.Common.{◌≡◌, ◌-◌, List, ℕ, take, drop, subst, sym, ◌∙◌, arith, length-drop}
use Rattle.std.specs.Str.{IsUtf8}
use Rattle.std.proofs.lemmas.List.{take_all}
use Rattle.std.proofs.lemmas.Str.{IsUtf8-from_ascii}
use Rattle.backend_names.proofs.Names.{ok_from}
use Rattle.run_report.specs.Lines.{line_of}
use Rattle.run_report.proofs.lines.push_line.Goals as goal

pub unwrap-requires : goal.unwrap-requires
unwrap-requires c =
    let l = c.put_line-start in
    let whole : take {A = ℕ} (128 - l.result) (drop l.result l.new.line) ≡ drop {A = ℕ} l.result l.new.line =
    take_all (128 - l.result) (drop l.result l.new.line) (omega (arith, length-drop l.result l.new.line)) in
    let utf8 : IsUtf8 (take {A = ℕ} (128 - l.result) (drop l.result l.new.line)) =
    subst (λ (t : List ℕ). IsUtf8 t) (sym (whole ∙ l.ensures.written)) (IsUtf8-from_ascii (line_of c.args.number c.args.event.now c.args.outcome.now) l.ensures.ascii) in
    ok_from _ _ c.from_utf8.result c.from_utf8.ensures.cases (λ e h. h.0 utf8)
