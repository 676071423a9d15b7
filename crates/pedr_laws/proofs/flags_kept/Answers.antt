-- Each part by its law.
use Prim.Native.Nat.{ℕ}
use mathlib.Core.Path.{◌≡◌, ◌∙◌}
use mathlib.Core.List.{List}
use borrow.Author.Tests.{eqb-true}
use lib.Dec.{eqb}
use lib.ListN.{length}
use Rattle.octets.specs.Bytes.{Octets}
use Rattle.octets.proofs.Read.{nat_lt}
use Rattle.octets.proofs.Ladder.{passed}
use Rattle.layout.specs.Column.{value}
use Rattle.pedr_layout.specs.Layout.{quality_number, quality_counter}
use Rattle.pedr_flags.specs.Quality.{good_count, quality_of}
use Rattle.pedr_flags.specs.Descriptor.{descriptor_of}
use Rattle.pedr_flags_writer.specs.Quality.{quality_bits}
use Rattle.pedr_flags_writer.proofs.Codes.{quality_whole, count_low, class_whole, encoder_whole}
use Rattle.pedr_flags_writer.proofs.DescriptorRead.{test_is, carried_is}
use Rattle.pedr_fields.specs.Fields.{fields_of}
use Rattle.pedr_check.specs.Refusal.{record_refusal}
use Rattle.pedr_laws.proofs.flags_kept.Goals as goal

quality_kept : (s : List ℕ) → Octets s → quality_bits (quality_of s) ≡ value s quality_number
unfolding quality_of
quality_kept s o = quality_whole (value s quality_number) (value s quality_counter) (nat_lt s 28 3 o)

counter_kept : (s : List ℕ) → record_refusal s ≡ 0 → good_count (fields_of s).quality.good ≡ (fields_of s).quality.counter
unfolding record_refusal fields_of quality_of
counter_kept s e =
    count_low (value s quality_number)
    ∙ eqb-true (good_count (value s quality_number)) (value s quality_counter)
    (passed _ 11 _ (passed (eqb (length s) 776) 10 _ e).1).0

pub returns : goal.returns
unfolding descriptor_of
returns c =
    record {
      quality = quality_kept;
      counter = counter_kept;
      tests = test_is;
      carried = carried_is;
      class = class_whole;
      encoder = encoder_whole;
    }
