use Rattle.cluster_core.proofs.Apart.{taken_apart}
use Rattle.cluster_core.proofs.laws.servings_follow_packets.Goals as goal

pub returns : goal.returns
returns c = λ rules items done i v r h e. taken_apart rules items done i v r h e
