use Rattle.selection.proofs.Halves.{apart_before, apart_from_end}
use Rattle.selection.proofs.by_name.places_of_name.Goals as goal

pub returns-clause-before : goal.returns-clause-before
returns-clause-before c = apart_before c.args.backend.now c.args.ups.now c.first_of_name-first.result c.first_of_name-first.ensures.within c.first_of_name-first.ensures.parted

pub returns-clause-behind : goal.returns-clause-behind
returns-clause-behind c = apart_from_end c.args.backend.now c.args.ups.now c.first_of_name-first.result c.end_of_name-end.result c.requires c.first_of_name-first.ensures.parted c.end_of_name-end.ensures.low c.end_of_name-end.ensures.other
