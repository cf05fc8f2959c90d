use Rattle.std.proofs.Common.{rules}
use Rattle.scenario_tables.proofs.comparing.text_of.Goals as goal

pub returns-clause-text : goal.returns-clause-text
returns-clause-text c = record {
  before = c.in_ok-before.before.now;
  after = c.in_ok-after.after.now;
  key = c.in_ok-key.key;
  of_from = c.in_ok-before.ensures.found;
  of_to = c.in_ok-after.ensures.found;
  of_word = search rules;
  is = search rules;
}
