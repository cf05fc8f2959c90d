use Rattle.std.proofs.Common.{◌≡◌, List, [], ◌∷◌, ◌++◌, Bool, sym, ap, ◌∙◌, subst}
use Rattle.forwarder.specs.declared.Choice.{Choice}
use Rattle.forwarder.specs.declared.Choice.TheVariants.{NoBackend}
use Rattle.std.specs.Prelude.{Option, unwrap_or}
use Rattle.handled_list.specs.declared.handled.Handled.{Handled}
use Rattle.handled_list.specs.declared.kept.Kept.{Kept}
use Rattle.handled_list.specs.Lists.{HandledItems}
use Rattle.handled_list.specs.Meant.{unstored_of, opened, meant, AreThere}
use Rattle.handled_list.proofs.Lists.{list_more, there_more}
use Rattle.handled_list.proofs.list.HandledList.push_reserved.Goals as goal

pub invariant_of-self : goal.invariant_of-self
invariant_of-self c =
    let was = c.self.inside in
    let now = c.keep-choice.new in
    let k : Kept = record { item = c.args.handled.item; version = c.args.handled.version; choice = c.keep-choice.result } in
    subst (λ (ks : List Kept). AreThere now.known now.strangers.items ks) (sym c.push_reserved.ensures.items)
    (there_more was.known now.known was.strangers.items now.strangers.items c.keep-choice.ensures.others was.kept.items k c.args.handled.choice c.self.invariant c.keep-choice.ensures.choice)

pub returns : goal.returns
returns c =
    let was = c.self.inside in
    let now = c.keep-choice.new in
    let given = c.args.handled in
    let k : Kept = record { item = given.item; version = given.version; choice = c.keep-choice.result } in
    let is : opened now.known now.strangers.items k ≡ given =
    ap (λ (o : Option Choice). let h : Handled = record { item = given.item; version = given.version; choice = unwrap_or o NoBackend; unstored = unstored_of c.keep-choice.result } in h) c.keep-choice.ensures.choice
    ∙ ap (λ (b : Bool). let h : Handled = record { item = given.item; version = given.version; choice = given.choice; unstored = b } in h) c.keep-choice.ensures.unstored in
    ap (λ (ks : List Kept). meant now.known now.strangers.items ks) c.push_reserved.ensures.items
    ∙ list_more was.known now.known was.strangers.items now.strangers.items c.keep-choice.ensures.others was.kept.items k given c.self.invariant is
    ∙ ap (λ (v : HandledItems). v.items ++ given ∷ []) c.self.view_is
