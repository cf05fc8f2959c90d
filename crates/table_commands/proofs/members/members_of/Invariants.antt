use Rattle.std.proofs.Common.{◌≡◌, map, take}
use Rattle.std.specs.Prelude.{Some}
use Rattle.maglev_texts.specs.Parsing.{weighed_member_of}
use Rattle.table_commands.proofs.members.members_of.Given as goal

abbrev pub invariant-loop-word : goal.invariant-loop-word
invariant-loop-word l = map weighed_member_of (map (λ w. w.now) (take l.word-index l.words)) ≡ map Some l.members.items
