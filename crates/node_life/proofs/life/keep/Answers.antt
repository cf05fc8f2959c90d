use Rattle.std.proofs.Common.{◌≡◌, ◌++◌, ◌∷◌, [], List, ap, ◌∙◌}
use Rattle.std.proofs.lemmas.List.{map_push}
use Rattle.thread_records.specs.Works.{WorkView}
use Rattle.thread_records.specs.Ends.{all_handled}
use Rattle.thread_roles.proofs.Counting.{counts_more}
use Rattle.node_life.proofs.life.keep.Goals as goal

pub returns-clause-counts : goal.returns-clause-counts
returns-clause-counts g c = λ os n had.
    let run = c.args.run in
    let old : List (WorkView g.row.S.Denot) = c.args.records.now.items in
    let items : c.push.new.self.items ≡ old ++ run.record ∷ [] = c.in-Ok.ensures.items in
    let handled : all_handled c.push.new.self.items ≡ all_handled old ++ run.record.handled ∷ [] = ap (λ (l : List (WorkView g.row.S.Denot)). all_handled l) items ∙ map_push (λ (w : WorkView g.row.S.Denot). w.handled) old run.record in
    counts_more c.args.tally.now.lost run.tally.lost c.merge.new.self.lost c.args.tally.now.shares run.tally.shares c.merge.new.self.shares os n (all_handled old) (all_handled c.push.new.self.items) run.record.handled c.merge.ensures.lost c.merge.ensures.shares handled had c.requires.counts
