use Rattle.checksum_laws.proofs.Parts.{parts_add}
use Rattle.checksum_laws.proofs.parts_add.Goals as goal

pub returns : goal.returns
returns c = parts_add
