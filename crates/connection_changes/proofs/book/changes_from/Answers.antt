use Rattle.std.proofs.Common.{◌≡◌, List, ◌++◌, ap, ◌∙◌}
use Rattle.std.specs.Iterator.Adapters.{zip_first, zip_second}
use Rattle.std.specs.Slice.Iter.{iter_rest}
use Rattle.std.proofs.lemmas.Slice.Zip.{either_empty_from_Zip}
use Rattle.run_report.specs.declared.noted.Beside.{Beside}
use Rattle.run_report.specs.declared.sending.Split.{Split}
use Rattle.connection_changes.specs.declared.causes.Change.{Change}
use Rattle.connection_changes.specs.declared.sites.Site.{Site}
use Rattle.connection_changes.specs.Books.{placed_changes}
use Rattle.connection_changes.proofs.Kept.{change_more, changes_end}
use Rattle.connection_changes.proofs.book.changes_from.Goals as goal

pub loop-split-init : goal.loop-split-init
loop-split-init c =
    let first : iter_rest (zip_first c.into_iter-split-iterator.result) ≡ c.args.splits.now = cc in
    let second : iter_rest (zip_second c.into_iter-split-iterator.result) ≡ c.args.sites.now = cc in
    ap (λ (cs : List Change). cs ++ placed_changes (iter_rest (zip_first c.into_iter-split-iterator.result)) (iter_rest (zip_second c.into_iter-split-iterator.result))) c.new-changes.ensures.items
    ∙ ap (λ (ps : List Split). placed_changes ps (iter_rest (zip_second c.into_iter-split-iterator.result))) first ∙ ap (λ (bs : List (Beside Site)). placed_changes c.args.splits.now bs) second

pub loop-split-preserved : goal.loop-split-preserved
loop-split-preserved c = change_more _ _ _ _ _ _ _ _ _ c.in-Some.ensures.steps.0 c.in-Some.ensures.steps.1 c.in-Ok.ensures.items c.loop-split.invariant

pub returns : goal.returns
returns c = changes_end _ _ _ _ (either_empty_from_Zip c.loop-split.split-iterator c.next.new.self c.next.result c.in-None.is c.next.ensures.steps) c.loop-split.invariant
