-- What an accepted record meets.
use Prim.Native.Nat.{ℕ, ◌≤◌}
use mathlib.Core.Path.{◌≡◌}
use mathlib.Core.List.{List}
use lib.IntN.{ℤ}
use lib.ListN.{length}
use borrow.Author.Tests.{eqb-true}
use Rattle.octets.proofs.Ladder.{passed, within_true}
use Rattle.layout.specs.Column.{value}
use Rattle.pedr_layout.specs.Layout as columns
use Rattle.pedr_flags.specs.Quality.{good_count}
use Rattle.pedr_check.specs.Refusal.{values_refusal, record_refusal}

pub record Accepted (s : List ℕ) : Type 0 where
  pub size : length s ≡ 776
  pub counter : good_count (value s columns.quality_number) ≡ value s columns.quality_counter
  pub values : values_refusal (value s columns.time_micros) (value s columns.latitude) (value s columns.frame_index) ≡ 0
  pub index : (1 ≤ value s columns.frame_index) × (value s columns.frame_index ≤ 7)

-- values that are not refused have a frame index from 1 to 7
index_within : (micros latitude : ℤ) (index : ℕ) → values_refusal micros latitude index ≡ 0 → (1 ≤ index) × (index ≤ 7)
unfolding values_refusal
index_within micros latitude index e = within_true 1 7 index (passed _ 14 _ (passed _ 13 _ (passed _ 12 _ e).1).1).0

pub accepted : (s : List ℕ) → record_refusal s ≡ 0 → Accepted s
unfolding record_refusal
accepted s e =
    let c1 = passed _ 10 _ e in
    let c2 = passed _ 11 _ c1.1 in
    record { size = eqb-true _ _ c1.0; counter = eqb-true _ _ c2.0; values = c2.1; index = index_within _ _ _ c2.1 }
