use Rattle.packet_laws.proofs.WriteBack.{write_back}
use Rattle.packet_laws.proofs.writes_back.Goals as goal

pub returns : goal.returns
returns c = write_back
