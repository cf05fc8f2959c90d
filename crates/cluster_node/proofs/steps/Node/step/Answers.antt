use Rattle.cluster_node.proofs.Records.{install_said, arrive_said, serve_said, restart_said}
use Rattle.cluster_node.proofs.steps.Node.step.Goals as goal

pub returns-in-Install : goal.returns-in-Install
returns-in-Install g c = record { verdict = λ rules past h k all few st. install_said rules past c.args.self.now c.install.new.self c.args.event c.in-Install.node c.in-Install.version c.args.packet c.args.known c.install.result k st c.in-Install.is c.install.ensures.outcome c.install.ensures.after; kept = c.install.ensures.kept }

pub returns-in-Arrive : goal.returns-in-Arrive
returns-in-Arrive g c = record { verdict = λ rules past h k all few st. arrive_said rules past c.args.self.now c.arrive.new.self c.args.event c.in-Arrive.node c.in-Arrive.number c.in-Arrive.refused c.args.packet (g.H.FlowHash.plain c.args.hash.now) c.arrive.result h st c.in-Arrive.is c.arrive.ensures.outcome c.arrive.ensures.after; kept = c.arrive.ensures.kept }

pub returns-in-Serve : goal.returns-in-Serve
returns-in-Serve g c = record { verdict = λ rules past h k all few st. serve_said (λ s z. g.S.Scheme.pick s z) rules c.args.versions.now past c.args.self.now c.serve.new.self c.args.event c.in-Serve.node c.in-Serve.worker c.in-Serve.version c.in-Serve.refused c.args.packet c.serve.result all st c.in-Serve.is c.serve.ensures.outcome c.serve.ensures.after; kept = c.serve.ensures.kept }

pub returns-in-Restart : goal.returns-in-Restart
returns-in-Restart g c = record { verdict = λ rules past h k all few st. restart_said rules past c.args.self.now c.restart.new.self c.args.event c.in-Restart.node c.restart.result c.args.packet few st c.in-Restart.is c.restart.ensures.lost c.restart.ensures.after; kept = tt }
