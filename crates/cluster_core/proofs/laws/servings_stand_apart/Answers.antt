use Rattle.cluster_core.proofs.Apart.{serve_alike}
use Rattle.cluster_core.proofs.Blocks.{block, block_leaves, block_installed, block_arrivals, events_leave}
use Rattle.cluster_core.proofs.laws.servings_stand_apart.Goals as goal

pub returns-clause-own : goal.returns-clause-own
returns-clause-own c = λ rules a b n w v r e f. serve_alike rules a b n w v r e f

pub returns-clause-blocks : goal.returns-clause-blocks
returns-clause-blocks c = λ rules n w there packets past asks rest. block rules n w there packets past asks rest

pub returns-clause-others : goal.returns-clause-others
returns-clause-others c = λ rules n w there u ne past asks. (block_leaves rules n w there u ne past asks, block_installed rules n w there past asks)

pub returns-clause-arrivals : goal.returns-clause-arrivals
returns-clause-arrivals c = λ rules n w past asks. block_arrivals rules n w past asks

pub returns-clause-nodes : goal.returns-clause-nodes
returns-clause-nodes c = λ rules packets m past es h. events_leave rules packets m past es h
