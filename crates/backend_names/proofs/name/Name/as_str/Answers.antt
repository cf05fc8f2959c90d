use Rattle.std.proofs.Common.{List, ℕ, subst, sym}
use Rattle.std.specs.Str.{IsUtf8}
use Rattle.backend_names.proofs.Names.{name_utf8, ok_from}
use Rattle.backend_names.proofs.name.Name.as_str.Goals as goal

pub unwrap-requires : goal.unwrap-requires
unwrap-requires c =
    let utf8 : IsUtf8 c.as_bytes.result.now = subst (λ (t : List ℕ). IsUtf8 t) (sym c.as_bytes.ensures.bytes) (name_utf8 c.args.self.now c.as_bytes.ensures.named) in
    ok_from _ _ c.from_utf8.result c.from_utf8.ensures.cases (λ e h. h.0 utf8)
