use Rattle.connection_table.proofs.Tied.{sought}
use Rattle.connection_table.proofs.pairs.Pairs.place_by.Goals as goal

pub returns : goal.returns
returns c = sought c.args.self.now c.args.flow.now _ c.find.result c.args.hash c.are_places.ensures c.requires.tied c.requires.hash (λ p b h. h) c.find.ensures.found c.find.ensures.absent
