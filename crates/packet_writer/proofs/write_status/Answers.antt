-- One store after the other; the first and the last hold the columns of a byte.
use Rattle.std.proofs.Common.{refl, [], ◌∷◌}
use Rattle.octets.specs.Bytes.{octets_of}
use Rattle.layout.specs.Column.{column}
use Rattle.layout.proofs.Cover.{done, ◌▹◌}
use Rattle.layout.proofs.Store.{stop, ◌▸◌, puts_join}
use Rattle.packet_writer.proofs.write_status.Goals as goal

pub returns : goal.returns
returns c =
    let f = c.args.f.now in
    puts_join
    ((f.status_register ∷ f.software_version ∷ []) ∷ octets_of 2 f.ram_flag_word ∷ octets_of 2 f.status_word_1 ∷ octets_of 2 f.status_word_2
    ∷ octets_of 2 f.software_checksum ∷ (f.commands_received ∷ f.command_errors ∷ f.transmitter_threshold ∷ f.tracking_status ∷ []) ∷ [])
    (column 42 1 2 ∷ column 44 2 1 ∷ column 46 2 1 ∷ column 48 2 1 ∷ column 50 2 1 ∷ column 52 1 4 ∷ []) 42 56 refl
    (refl ▹ refl ▹ refl ▹ refl ▹ refl ▹ refl ▹ done)
    (c.write_into.ensures ▸ c.write_u16.ensures ▸ c.write_u16-2.ensures ▸ c.write_u16-3.ensures ▸ c.write_u16-4.ensures ▸ c.write_into-2.ensures ▸ stop)
