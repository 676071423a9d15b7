use Rattle.pedr_round_trip.proofs.WriteBack.{write_back}
use Rattle.pedr_round_trip.proofs.writes_back.Goals as goal

pub returns : goal.returns
returns c = write_back
