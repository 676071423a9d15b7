-- An accepted record has a frame index from 1 to 7.
use Rattle.pedr_fields.specs.Fields.{receiver_of, fields_of}
use Rattle.pedr_block.proofs.Frame.{case_is_index}
use Rattle.pedr_check.proofs.Accept.{accepted}
use Rattle.pedr_laws.specs.Frame.{CaseIsIndex}
use Rattle.pedr_laws.proofs.case_is_index.Goals as goal

is_index : CaseIsIndex
unfolding fields_of receiver_of
is_index s z = let i = (accepted s z).index in case_is_index s i.0 i.1

pub returns : goal.returns
returns c = is_index
