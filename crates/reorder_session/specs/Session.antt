-- Document 01, "The rack" and "Refusal numbers": the session.
use Rattle.std.specs.Prelude.{ℕ, ◌*◌, ◌%◌, Bool, not, ◌||◌, List, eqb, ltb}
use Rattle.octets.specs.Bytes.{part, put}
use Rattle.octets.specs.Refusal.{refuse◌unless◌else◌, ◌then◌}
use Rattle.window.specs.declared.Window.{Window}
use Rattle.window.specs.Window.{held_at, some_held, holding, freed, skipped}
use Rattle.packet_layout.specs.Layout.{packet_size}
use Rattle.packet_layout.specs.Header.{most_count}
use Rattle.packet_layout.specs.SumWord.{is_sum_word}
use Rattle.reorder_rules.specs.Sizes.{positions, store_size, end_position, is_threshold}
use Rattle.reorder_rules.specs.Buffer.{Buffer}
use Rattle.reorder_session.specs.declared.Session.{Session}

-- next is over 1,000,000, or a held position over 999,999
unfoldable pub past_end : Window → Bool
past_end w = ltb end_position w.start || some_held w end_position

-- 30: session broken: c0 over 16,383, H or place out of range, next over 1,000,000, or a held position over 999,999
unfoldable pub broken : Session → Bool
broken s = ltb most_count s.anchor.count || (not (is_threshold s.threshold) || (not (is_sum_word s.sum_word) || past_end s.window))

abbrev pub with_window : Session → Window → Session
with_window s w = record { anchor = s.anchor; sum_word = s.sum_word; threshold = s.threshold; window = w }

-- "held bytes live in a lent store of 34,560 bytes; position p uses the 1,080 from 1,080 × (p mod 32)"
abbrev pub slot_start : ℕ → ℕ
slot_start p = packet_size * (p % positions)

abbrev pub slot : List ℕ → ℕ → List ℕ
slot store p = part store (slot_start p) packet_size

-- What is read of the session, and what changes it: "a session marks what it holds by p mod 32; a mark means the one such p from next to next + 31". With one
-- consumer the window starts at its next.
abbrev pub single : Buffer Session
single =
    record {
      unfit = λ s. refuse 30 unless not (broken s) else 0;
      anchor = λ s. s.anchor;
      word = λ s. s.sum_word;
      start = λ s. s.window.start;
      held = λ s p. held_at s.window p;
      some = λ s lo. some_held s.window lo;
      bytes = λ s store p. slot store p;
      next = λ s. s.window.start;
      threshold = λ s. s.threshold;
      taken = λ s p. with_window s (holding s.window p);
      stored = λ s store p b. put store (slot_start p) b;
      given = λ s. with_window s (freed s.window);
      missed = λ s. with_window s (skipped s.window);
    }

-- 30, 27: session broken; store, of this size, not 34,560 bytes
unfoldable pub store_refusal : Session → ℕ → ℕ
store_refusal s size =
    single.unfit s then
    refuse 27 unless eqb size store_size else
    0
