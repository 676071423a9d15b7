-- Frame by frame.
use Rattle.pedr_block_round_trip.proofs.type_block.Goals as goal

pub returns-in-Frame1 : goal.returns-in-Frame1
returns-in-Frame1 c = rw c.in-Frame1.is c.type_frame_1.ensures

pub returns-in-Frame2 : goal.returns-in-Frame2
returns-in-Frame2 c = rw c.in-Frame2.is c.type_frame_2.ensures

pub returns-in-Frame3 : goal.returns-in-Frame3
returns-in-Frame3 c = rw c.in-Frame3.is c.type_frame_3.ensures

pub returns-in-Frame4 : goal.returns-in-Frame4
returns-in-Frame4 c = rw c.in-Frame4.is c.type_frame_4.ensures

pub returns-in-Frame5 : goal.returns-in-Frame5
returns-in-Frame5 c = rw c.in-Frame5.is c.type_frame_5.ensures

pub returns-in-Frame6 : goal.returns-in-Frame6
returns-in-Frame6 c = rw c.in-Frame6.is c.type_frame_6.ensures

pub returns-in-Frame7 : goal.returns-in-Frame7
returns-in-Frame7 c = rw c.in-Frame7.is c.type_frame_7.ensures
