use Rattle.pcap_file.proofs.Written.{read_again}
use Rattle.pcap_file.proofs.writer.written_is_read_again.Goals as goal

pub returns : goal.returns
returns c = read_again
