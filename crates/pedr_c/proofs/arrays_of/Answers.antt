-- Array by array; the shots by their own.
use Rattle.pedr_c.specs.Back.{arrays_of_numbers}
use Rattle.pedr_c.proofs.arrays_of.Goals as goal

pub returns : goal.returns
unfolding arrays_of_numbers
returns c =
    let a = c.args.numbers in
    λ i. record { shots = c.shots_of.ensures i; channels = a.channels; xyz = a.xyz; source_header = a.source_header }
