use Rattle.std.proofs.Common.{ap, ◌∙◌}
use Rattle.std.specs.Prelude.{◌||◌, not, is_some}
use Rattle.cluster_node.specs.Record.{prepared_at}
use Rattle.shared_versions.proofs.Kept.{some_copied}
use Rattle.shared_versions.proofs.auditor.is_held.Goals as goal

pub returns-in-Some : goal.returns-in-Some
returns-in-Some g c =
    rw c.in-Install.is (c.is_some.ensures ∙ some_copied c.find.result ∙ ap (λ o. is_some o) c.find.ensures
    ∙ ap (λ o. not (is_some o) || is_some (prepared_at c.in-Install.version c.args.versions.now)) c.in-Some.ensures.found)
