-- Document 01, "Refusal numbers": the reader gives 1 to 10, in this order.
use Rattle.std.specs.Prelude.{ℕ, List, eqb, length}
use Rattle.octets.specs.Refusal.{refuse◌unless◌else◌, ◌then◌}
use Rattle.layout.specs.Column.{value}
use Rattle.checksum.specs.Sum.{packet_sum, word_at}
use Rattle.packet_layout.specs.Layout.{packet_size, packet_type}
use Rattle.packet_layout.specs.SumWord.{is_sum_word}
use Rattle.packet_check.specs.Header.{header_refusal}

-- 1, 2: packet not 1,080 bytes; sum's place not 53 to 539. 3 to 8: the header. 9: type not 0. 10: sum disagrees
unfoldable pub read_refusal : List ℕ → ℕ → ℕ
read_refusal bs word =
    refuse 1 unless eqb (length bs) packet_size else
    refuse 2 unless is_sum_word word else
    header_refusal bs then
    refuse 9 unless eqb (value bs packet_type) 0 else
    refuse 10 unless eqb (packet_sum bs word) (word_at bs word) else
    0
