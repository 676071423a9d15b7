-- A held packet's bytes come out as they went in.
use Rattle.reorder_laws.proofs.Bytes.{bytes_come_out}
use Rattle.reorder_laws.proofs.bytes_come_out.Goals as goal

pub returns : goal.returns
returns c = bytes_come_out
