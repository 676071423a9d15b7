-- What the test of the list of layouts shows of each: named and carried columns together hold each byte of the block once.
use Prim.Native.Nat.{ℕ, ◌+◌, ◌<◌, ◌≤◌}
use mathlib.Core.Path.{◌≡◌, refl, sym, ◌∙◌}
use mathlib.Core.Bool.{true}
use mathlib.Core.List.{List, [], ◌∷◌}
use native.Mathlib.Omega.{arith}
use lib.ListN.{get_or}
use Rattle.octets.specs.Table.{each}
use Rattle.octets.proofs.Each.{each_at}
use Rattle.layout.specs.Column.{holders}
use Rattle.layout.proofs.Cover.{once}
use Rattle.pedr_layout.specs.Block.{BlockColumn, named, spare, block_start, block_end, columns_in, named_in, carried_in, frames, frame_layout}
use Rattle.pedr_layout.specs.Cover.{tiles_block, CoversBlock}
use Rattle.pedr_layout.proofs.Frames.{each_frame}

-- the seven layouts pass the test by computation
pub all_tile : each tiles_block frames ≡ true
unfolding each
all_tile = refl

-- so each passes it
pub frame_tiles : (n : ℕ) → 1 ≤ n → n ≤ 7 → tiles_block (frame_layout n) ≡ true
frame_tiles n l h =
    each_frame (λ k. tiles_block (frame_layout k) ≡ true) n l h (passed 0 (omega arith)) (passed 1 (omega arith)) (passed 2 (omega arith)) (passed 3 (omega arith))
    (passed 4 (omega arith)) (passed 5 (omega arith)) (passed 6 (omega arith))
  where
    passed : (k : ℕ) → k < 7 → tiles_block (get_or frames k []) ≡ true
    passed k h = each_at tiles_block frames k [] all_tile h

-- a byte's columns are named or carried
apart : (l : List BlockColumn) (k : ℕ) → holders k (columns_in l) ≡ holders k (named_in l) + holders k (carried_in l)
unfolding holders
apart [] k = refl
apart (named c ∷ l) k = omega (arith, apart l k)
apart (spare c ∷ l) k = omega (arith, apart l k)

-- what passes the test covers the block
pub covers_block : (l : List BlockColumn) → tiles_block l ≡ true → CoversBlock l
covers_block l t k from to = sym (apart l k) ∙ once (columns_in l) block_start block_end k t from to
