-- A part of 974 bytes, or of as many as there are.
use Rattle.std.proofs.Common.{ℕ, take, ap, ◌∙◌}
use Rattle.std.proofs.lemmas.List.{take_min}
use Rattle.packet.proofs.carried.Goals as goal

pub returns : goal.returns
returns c = ap (λ (n : ℕ). take n c.bytes_from-rest.result.now) c.min.ensures ∙ take_min 974 _ ∙ ap (take 974) c.bytes_from-rest.ensures
