use Rattle.std.proofs.Common.{◌≡◌, drop, find, nat_eq}
use Rattle.std.specs.Cmp.Lexicographic.{pointwise}
use Rattle.version_drafts.proofs.words.server_named.Given as goal

abbrev pub invariant-loop-server : goal.invariant-loop-server
invariant-loop-server l = find (λ s. pointwise nat_eq l.name s.name) (drop l.server-index l.servers) ≡ find (λ s. pointwise nat_eq l.name s.name) l.servers
