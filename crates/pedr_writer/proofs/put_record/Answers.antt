-- Nine stores, one for each segment.
use Rattle.layout.proofs.Store.{stop, ◌▸◌}
use Rattle.pedr_writer.proofs.Whole.{SectionSizes, whole}
use Rattle.pedr_writer.proofs.put_record.Goals as goal

pub returns : goal.returns
returns c =
    let g = c.args.given.now in
    let sizes : SectionSizes g.fields.now g.block.now g.arrays.now g.runs.now g.carried.now g.uninterpreted.now =
    record {
      head = c.put_head.ensures.size;
      radii = c.put_radii.ensures.size;
      pulses = c.put_pulses.ensures.size;
      ground = c.put_ground.ensures.size;
      gate = c.put_gate.ensures.size;
      receiver = c.put_receiver.ensures.size;
      link = c.put_link.ensures.size;
      block = c.put_block.ensures.size;
      tail = c.put_tail.ensures.size;
    } in
    whole g.fields.now g.block.now g.arrays.now g.runs.now g.carried.now g.uninterpreted.now sizes c.args.out.now _ c.requires.1
    (c.put_head.ensures.stored
    ▸ c.put_radii.ensures.stored
    ▸ c.put_pulses.ensures.stored
    ▸ c.put_ground.ensures.stored
    ▸ c.put_gate.ensures.stored
    ▸ c.put_receiver.ensures.stored
    ▸ c.put_link.ensures.stored
    ▸ c.put_block.ensures.stored
    ▸ c.put_tail.ensures.stored
    ▸ stop)
