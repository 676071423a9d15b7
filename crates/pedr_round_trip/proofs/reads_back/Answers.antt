use Rattle.pedr_round_trip.proofs.ReadBack.{read_back}
use Rattle.pedr_round_trip.proofs.reads_back.Goals as goal

pub returns : goal.returns
returns c = read_back
