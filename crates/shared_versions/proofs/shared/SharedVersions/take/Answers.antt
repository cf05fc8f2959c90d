use Rattle.shared_versions.proofs.shared.SharedVersions.take.Goals as goal

pub returns-in-Publish : goal.returns-in-Publish
returns-in-Publish g c = rw c.in-Publish.is c.add.ensures
