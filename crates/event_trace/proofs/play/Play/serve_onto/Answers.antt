use Rattle.std.proofs.Common.{[], ◌∷◌}
use Rattle.event_trace.proofs.Behind.{behind_more}
use Rattle.event_trace.proofs.play.Play.serve_onto.Goals as goal

pub returns-clause-told : goal.returns-clause-told
returns-clause-told g c = λ before h. behind_more before c.args.events.now.items c.push.new.events.items c.args.self.now.trace.past c.serve.new.self.trace.past (c.in_ok-said.said ∷ []) c.in_ok-said.ensures.told c.in_ok-push.ensures h
