-- The names of causes and reasons.
use Rattle.std.specs.Prelude.{ℕ, List, codes}
use Rattle.cluster_node.specs.declared.outcomes.Cause.{Cause}
use Rattle.cluster_node.specs.declared.outcomes.Cause.TheVariants.{NotIpv4, Truncated, BadHeader, BadChecksum, Fragment, NotTcpUdp, BadTransport, TooLarge}
use Rattle.cluster_node.specs.declared.outcomes.Cause.TheVariants.{NoService, NoBackend, NoVersion, RingsFull, LostAtRestart}
use Rattle.cluster_node.specs.declared.outcomes.Reason.{Reason}
use Rattle.cluster_node.specs.declared.outcomes.Reason.TheVariants.{NoNode, NoWorker, NoPacket, UnknownVersion, NotNewer, Idle, VersionRange}

abbrev pub cause_name : Cause → List ℕ
cause_name NotIpv4 = codes "NotIpv4"
cause_name Truncated = codes "Truncated"
cause_name BadHeader = codes "BadHeader"
cause_name BadChecksum = codes "BadChecksum"
cause_name Fragment = codes "Fragment"
cause_name NotTcpUdp = codes "NotTcpUdp"
cause_name BadTransport = codes "BadTransport"
cause_name TooLarge = codes "TooLarge"
cause_name NoService = codes "NoService"
cause_name NoBackend = codes "NoBackend"
cause_name NoVersion = codes "NoVersion"
cause_name RingsFull = codes "RingsFull"
cause_name LostAtRestart = codes "LostAtRestart"

abbrev pub reason_name : Reason → List ℕ
reason_name NoNode = codes "NoNode"
reason_name NoWorker = codes "NoWorker"
reason_name NoPacket = codes "NoPacket"
reason_name UnknownVersion = codes "UnknownVersion"
reason_name NotNewer = codes "NotNewer"
reason_name Idle = codes "Idle"
reason_name VersionRange = codes "VersionRange"
