-- Frame by frame.
use Rattle.pedr_block_writer.specs.Rows.{block_octets}
use Rattle.pedr_block_writer.proofs.put_block.Goals as goal

pub returns-in-Frame1 : goal.returns-in-Frame1
unfolding block_octets
returns-in-Frame1 c =
    rw c.in-Frame1.is (record { stored = c.put_frame_1.ensures.0; size = c.put_frame_1.ensures.1 })

pub returns-in-Frame2 : goal.returns-in-Frame2
unfolding block_octets
returns-in-Frame2 c =
    rw c.in-Frame2.is (record { stored = c.put_frame_2.ensures.0; size = c.put_frame_2.ensures.1 })

pub returns-in-Frame3 : goal.returns-in-Frame3
unfolding block_octets
returns-in-Frame3 c =
    rw c.in-Frame3.is (record { stored = c.put_frame_3.ensures.0; size = c.put_frame_3.ensures.1 })

pub returns-in-Frame4 : goal.returns-in-Frame4
unfolding block_octets
returns-in-Frame4 c =
    rw c.in-Frame4.is (record { stored = c.put_frame_4.ensures.0; size = c.put_frame_4.ensures.1 })

pub returns-in-Frame5 : goal.returns-in-Frame5
unfolding block_octets
returns-in-Frame5 c =
    rw c.in-Frame5.is (record { stored = c.put_frame_5.ensures.0; size = c.put_frame_5.ensures.1 })

pub returns-in-Frame6 : goal.returns-in-Frame6
unfolding block_octets
returns-in-Frame6 c =
    rw c.in-Frame6.is (record { stored = c.put_frame_6.ensures.0; size = c.put_frame_6.ensures.1 })

pub returns-in-Frame7 : goal.returns-in-Frame7
unfolding block_octets
returns-in-Frame7 c =
    rw c.in-Frame7.is (record { stored = c.put_frame_7.ensures.0; size = c.put_frame_7.ensures.1 })
