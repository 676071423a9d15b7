use Rattle.packet_laws.proofs.ReadBack.{read_back}
use Rattle.packet_laws.proofs.reads_back.Goals as goal

pub returns : goal.returns
returns c = read_back
