use Rattle.std.proofs.Common.{◌≡◌, ◌∙◌, ◌-◌, ap, arith, drop, length, take, take_all}
use Rattle.std.proofs.lemmas.List.{length-drop}
use Rattle.pool_versions.specs.declared.backend.Backend.{Backend}
use Rattle.selection.specs.PrivateHalves.{is_at_head}
use Rattle.selection.proofs.Halves.{is_found_at_head}
use Rattle.selection.proofs.by_name.is_among.Goals as goal

pub returns : goal.returns
returns c =
    let b = c.args.backend.now in
    let bs = c.args.ups.now in
    let first = c.first_of_name-first.result in
    let rest : take (length bs - first) (drop first bs) ≡ drop first bs = take_all (length bs - first) (drop first bs) (omega (arith, length-drop {A = Backend})) in
    c.is_at_head.ensures ∙ ap (is_at_head b) rest ∙ is_found_at_head b bs first c.requires c.first_of_name-first.ensures.within c.first_of_name-first.ensures.parted
