use Rattle.std.proofs.Common.{◌≡◌, drop, is_some}
use Rattle.maglev_texts.specs.Parsing.{behind_first}
use Rattle.version_drafts.proofs.words.has_star.Given as goal

abbrev pub invariant-loop-byte : goal.invariant-loop-byte
invariant-loop-byte l = is_some (behind_first 42 (drop l.byte-index l.word)) ≡ is_some (behind_first 42 l.word)
