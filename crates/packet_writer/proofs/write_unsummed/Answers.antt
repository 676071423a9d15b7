-- Seven stores, one for each section.
use Rattle.std.proofs.Common.{rules, ◌≡◌, length, ap, ◌∙◌}
use Rattle.octets.specs.Bytes.{put}
use Rattle.layout.proofs.Store.{stop, ◌▸◌}
use Rattle.packet_writer.proofs.Unsummed.{stored}
use Rattle.packet_writer.proofs.write_unsummed.Goals as goal

pub returns : goal.returns
returns c =
    let p = c.args.packet.now in
    let temperatures : length p.arrays.temperatures ≡ 16 = search rules in
    let readings : length p.arrays.readings ≡ 14 = search rules in
    let histogram = c.write_into-3.ensures ∙ ap (put c.write_status.new.out 56) c.histogram_bytes.ensures in
    stored p.fields p.arrays c.args.carried.now c.args.out.now _ temperatures readings c.requires.1 c.requires.2
    (c.write_head.ensures ▸ c.write_into.ensures ▸ c.write_into-2.ensures ▸ c.write_status.ensures ▸ histogram ▸ c.write_u16.ensures ▸ c.write_into-4.ensures ▸ stop)
