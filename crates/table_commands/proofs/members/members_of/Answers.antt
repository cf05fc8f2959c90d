use Rattle.std.proofs.Common.{List, ℕ, Bor, ◌∙◌, sym}
use Rattle.table_commands.proofs.OtherWords.{other_word}
use Rattle.table_commands.proofs.members.members_of.Goals as goal
use Rattle.std.proofs.Common.{arith}
use Rattle.std.proofs.lemmas.Grind.{common_steps}

pub returns-in-None-clause-fault : goal.returns-in-None-clause-fault
returns-in-None-clause-fault c = other_word (λ (w : Bor (List ℕ)). w.now) c.args.words.now c.loop-word.word-index _ c.loop-word-test.true (sym c.in-None.is ∙ c.in_ok-member.ensures)

pub loop-word-init : goal.loop-word-init
loop-word-init c = grind (arith, common_steps)

pub returns-in_err-member-clause-members : goal.returns-in_err-member-clause-members
returns-in_err-member-clause-members c = grind (arith, common_steps)

pub returns-in_err-member-clause-fault : goal.returns-in_err-member-clause-fault
returns-in_err-member-clause-fault c = grind (arith, common_steps)

pub returns-in-None-clause-members : goal.returns-in-None-clause-members
returns-in-None-clause-members c = grind (arith, common_steps)

pub returns-in_default-clause-members : goal.returns-in_default-clause-members
returns-in_default-clause-members c = grind (arith, common_steps)

pub returns-in_default-clause-fault : goal.returns-in_default-clause-fault
returns-in_default-clause-fault c = grind (arith, common_steps)

pub loop-word-preserved : goal.loop-word-preserved
loop-word-preserved c = grind (arith, common_steps)

pub returns-clause-members : goal.returns-clause-members
returns-clause-members c = grind (arith, common_steps)

pub returns-clause-fault : goal.returns-clause-fault
returns-clause-fault c = grind (arith, common_steps)
