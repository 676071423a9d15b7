-- Document 01, "Packet layout": the columns lie one after the other, with no byte twice and none left out.
use Rattle.layout.specs.Column.{Covers}
use Rattle.packet_layout.specs.Layout.{packet_size, packet_columns}

abbrev pub LayoutCovers : Type 0
LayoutCovers = Covers packet_size packet_columns
