use Rattle.std.proofs.Common.{◌≡◌, ◌≤◌, ◌-◌, length}
use Rattle.thread_roles.specs.Assigned.{asked_in}
use Rattle.node_threads.proofs.node.run_counted.Given as goal

abbrev pub invariant-loop-sent : goal.invariant-loop-sent
invariant-loop-sent g l = record {
  asked : l.life.asked ≡ asked_in l.plan.assignment;
  within : l.life.start ≤ length l.plan.assignment.commands.now;
  parts : l.life.parts ≡ l.fn.task.shares.parts;
}

abbrev pub decreases-loop-sent : goal.decreases-loop-sent
decreases-loop-sent g l = length l.plan.assignment.commands.now - l.life.start
