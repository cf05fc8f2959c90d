use Rattle.std.proofs.Common.{rules, ◌≡◌}
use Rattle.std.proofs.lemmas.Iterator.{YieldsList-from_slice, text_from_collect}
use Rattle.std.proofs.lemmas.Iterator.Consumers.{YieldsList-from_copied}
use Rattle.shown_text.proofs.text_of.Goals as goal

pub returns : goal.returns
returns c =
    let source : c.copied.result.iter.rest.now ≡ c.args.line.now = search rules in
    text_from_collect c.collect.result c.collect.ensures.ran (YieldsList-from_copied (YieldsList-from_slice c.args.line.now source))
