use Rattle.connection_table.proofs.Once.{empty_is_table, storing_keeps, touching_keeps}
use Rattle.connection_table.proofs.laws.tables_stay_tables.Goals as goal

pub returns-clause-empty : goal.returns-clause-empty
returns-clause-empty c = λ capacity. empty_is_table capacity

pub returns-clause-touch : goal.returns-clause-touch
returns-clause-touch c = λ capacity clock x ts h. touching_keeps capacity clock x ts h

pub returns-clause-store : goal.returns-clause-store
returns-clause-store c = λ capacity x e ts some h. storing_keeps capacity x e ts some h
