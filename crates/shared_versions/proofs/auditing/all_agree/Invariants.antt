use Rattle.std.proofs.Common.{◌≡◌, ◌↔◌, true}
use Rattle.std.specs.Prelude.{All, Ok, IsTrue}
use Rattle.shared_versions.specs.PrivateAudits.{IsGiven}
use Rattle.shared_versions.proofs.auditing.all_agree.Given as goal

abbrev pub invariant-loop-audit : goal.invariant-loop-audit
invariant-loop-audit l = record {
  given : All IsGiven l.yielded;
  agree : IsTrue l.agree ↔ All (λ a. a ≡ Ok true) l.yielded;
}
