-- The number of what the writer says; the bytes are the writer's.
use mathlib.Core.Path.{ap, ◌∙◌}
use Rattle.octets.specs.Refusal.{refusal_in}
use Rattle.octets.proofs.Ladder.{number_say}
use Rattle.mola.proofs.mola_write_packet.Goals as goal

pub returns : goal.returns
returns c =
    let w = c.write_packet.ensures in
    (c.number_of.ensures ∙ ap refusal_in w.0 ∙ number_say _ tt, w.1)
