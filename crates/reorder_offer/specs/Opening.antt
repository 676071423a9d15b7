-- Document 01, "The rack" and "Refusal numbers": the opening.
use Rattle.std.specs.Prelude.{ℕ, List, eqb, length}
use Rattle.octets.specs.Bytes.{put}
use Rattle.octets.specs.Refusal.{refuse◌unless◌else◌, Said, say}
use Rattle.packet_check.specs.Refusal.{read_refusal}
use Rattle.packet.specs.declared.PacketFields.{PacketFields}
use Rattle.packet.specs.Fields.{fields_of}
use Rattle.window.specs.Window.{first_window, no_window}
use Rattle.reorder_rules.specs.Sizes.{store_size, is_threshold}
use Rattle.reorder_rules.specs.Outcome.{Outcome, outcome, ComesTo}
use Rattle.reorder_session.specs.declared.Session.{Session}
use Rattle.reorder_session.specs.Session.{slot_start}

-- the session that a packet of these fields opens, held at position 0, with a threshold (document 01's patience) and the sum at a word
abbrev pub opened : PacketFields → ℕ → ℕ → Session
opened f threshold word =
    record { anchor = record { count = f.count; time = f.coarse_time }; sum_word = word; threshold = threshold; window = first_window }

-- 20, 27: threshold not 1 to 31; store, of this size, not 34,560 bytes. Then the reader's 1 to 10
unfoldable pub open_refusal : ℕ → List ℕ → ℕ → ℕ → ℕ
open_refusal size b threshold word =
    refuse 20 unless is_threshold threshold else
    refuse 27 unless eqb size store_size else
    read_refusal b word

-- else position 0
unfoldable pub open_due : ℕ → List ℕ → ℕ → ℕ → Said ℕ
open_due size b threshold word = say (open_refusal size b threshold word) 0

-- s is the session that a refused opening leaves
unfoldable pub open_of : Session → List ℕ → List ℕ → ℕ → ℕ → Outcome Session ℕ
open_of s store b threshold word =
    outcome (open_due (length store) b threshold word) s store
    (λ p. opened (fields_of b) threshold word)
    (λ p. put store (slot_start p) b)

-- "A refused opening by value, which was lent no session, returns one of all zeros"
abbrev pub no_session : Session
no_session = record { anchor = record { count = 0; time = 0 }; sum_word = 0; threshold = 0; window = no_window }

-- what an opening with the packet b promises: it says x, and leaves the session t and the store c
abbrev pub Opens : Session → List ℕ → List ℕ → ℕ → ℕ → Said ℕ → Session → List ℕ → Type 0
Opens s store b threshold word x t c = ComesTo (open_of s store b threshold word) s store x t c
