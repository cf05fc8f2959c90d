use Rattle.std.proofs.Common.{rules}
use Rattle.scenario_tables.proofs.listing.text_of.Goals as goal

pub returns-clause-text : goal.returns-clause-text
returns-clause-text c = record {
  version = c.in_ok-version.version.now;
  key = c.in_ok-key.key;
  of_number = c.in_ok-version.ensures.found;
  of_word = search rules;
  is = search rules;
}
