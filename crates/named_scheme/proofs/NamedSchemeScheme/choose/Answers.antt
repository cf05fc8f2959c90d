use Rattle.std.proofs.Common.{◌∙◌, ap, sym}
use Rattle.named_scheme.specs.declared.NamedScheme.{NamedScheme}
use Rattle.named_scheme.specs.Picking.{pick_of}
use Rattle.named_scheme.proofs.Preparing.{prepared_told}
use Rattle.named_scheme.proofs.NamedSchemeScheme.choose.Goals as goal

pub returns-in-Maglev-Table : goal.returns-in-Maglev-Table
returns-in-Maglev-Table c = λ size ups h.
    c.choose.ensures size ups (prepared_told c.args.self.now _ size ups c.args.prepared.now _ c.in-Maglev-Table.is-0 c.in-Maglev-Table.is-1 h)
    ∙ ap (λ (s : NamedScheme). pick_of s size ups c.args.flow.now c.args.turn) (sym c.in-Maglev-Table.is-0)

pub returns-in-Plain-Backends : goal.returns-in-Plain-Backends
returns-in-Plain-Backends c = λ size ups h.
    c.choose-in-Plain-Backends.ensures size ups (prepared_told c.args.self.now _ size ups c.args.prepared.now _ c.in-Plain-Backends.is-0 c.in-Plain-Backends.is-1 h)
    ∙ ap (λ (s : NamedScheme). pick_of s size ups c.args.flow.now c.args.turn) (sym c.in-Plain-Backends.is-0)

pub returns-in-Round-Backends : goal.returns-in-Round-Backends
returns-in-Round-Backends c = λ size ups h.
    c.choose-in-Round-Backends.ensures size ups (prepared_told c.args.self.now _ size ups c.args.prepared.now _ c.in-Round-Backends.is-0 c.in-Round-Backends.is-1 h)
    ∙ ap (λ (s : NamedScheme). pick_of s size ups c.args.flow.now c.args.turn) (sym c.in-Round-Backends.is-0)
