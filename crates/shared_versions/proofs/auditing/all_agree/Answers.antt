use Rattle.std.proofs.Common.{rules}
use Rattle.std.proofs.lemmas.List.Elements.{All-push}
use Rattle.shared_versions.specs.PrivateAudits.{IsGiven}
use Rattle.shared_versions.proofs.Audits.{agrees_more, differs_more}
use Rattle.shared_versions.proofs.auditing.all_agree.Goals as goal

pub loop-audit-preserved-then-not-branch : goal.loop-audit-preserved-then-not-branch
loop-audit-preserved-then-not-branch c = record {
  given = All-push IsGiven c.loop-audit.yielded c.in-Some.audit c.loop-audit.invariant.given (search rules);
  agree = differs_more c.loop-audit.yielded c.in-Some.audit (search rules);
}

pub loop-audit-preserved : goal.loop-audit-preserved
loop-audit-preserved c = record {
  given = All-push IsGiven c.loop-audit.yielded c.in-Some.audit c.loop-audit.invariant.given (search rules);
  agree = agrees_more c.loop-audit.agree c.loop-audit.yielded c.in-Some.audit (search rules) c.loop-audit.invariant.agree;
}
