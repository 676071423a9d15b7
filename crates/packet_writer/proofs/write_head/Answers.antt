-- One store after the other; the last holds two columns of a byte.
use Rattle.std.proofs.Common.{refl, [], ◌∷◌}
use Rattle.octets.specs.Bytes.{octets_of}
use Rattle.layout.specs.Column.{column}
use Rattle.layout.proofs.Cover.{done, ◌▹◌}
use Rattle.layout.proofs.Store.{stop, ◌▸◌, puts_join}
use Rattle.packet_layout.specs.Header.{fixed_length}
use Rattle.packet_writer.specs.Write.{id_word, sequence_word}
use Rattle.packet_writer.proofs.write_head.Goals as goal

pub returns : goal.returns
returns c =
    let f = c.args.f.now in
    puts_join
    (octets_of 2 (id_word f) ∷ octets_of 2 (sequence_word f) ∷ octets_of 2 fixed_length ∷ octets_of 4 f.coarse_time ∷ (f.fine_time ∷ 0 ∷ []) ∷ [])
    (column 0 2 1 ∷ column 2 2 1 ∷ column 4 2 1 ∷ column 6 4 1 ∷ column 10 1 2 ∷ []) 0 12 refl
    (refl ▹ refl ▹ refl ▹ refl ▹ refl ▹ done)
    (c.write_u16.ensures ▸ c.write_u16-2.ensures ▸ c.write_u16-3.ensures ▸ c.write_u32.ensures ▸ c.write_into.ensures ▸ stop)
