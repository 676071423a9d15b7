-- The tests of the shots, one bit each, as a loop from the last shot to the first puts them together.
use Prim.Native.Nat.{ℕ, ◌+◌, ◌*◌, ◌%◌, ◌^◌, ◌<◌, ◌≤◌}
use mathlib.Core.Path.{◌≡◌, refl, sym, ap, ◌∙◌}
use mathlib.Core.Bool.{Bool, true, false}
use mathlib.Core.List.{List, [], ◌∷◌, ◌++◌, map}
use native.Mathlib.Omega.{arith}
use lib.ListN.{length, length-map, length-append}
use lib.Pow.{pow_mono}
use mir.Val.{bool_byte}
use Rattle.std.proofs.lemmas.List.{append_assoc, append-nil}
use Rattle.numbers.specs.Bit.{digit, from_bits}
use Rattle.numbers.proofs.Given.{from_bits_lt, digit_lt}
use Rattle.pedr_flags.specs.declared.ShotFailures.{ShotFailures}

-- what stands past the last shot
abbrev pub none : ShotFailures
none = record { power = false; energy = false; range = false; window = false; comparison = false }

-- the bits of one test
abbrev pub column : (ShotFailures → Bool) → List ShotFailures → ℕ
column g fs = from_bits (map g fs)

abbrev pub high_of : List ShotFailures → ℕ
high_of fs = column (λ f. f.window) fs + column (λ f. f.comparison) fs * 2 ^ 20

abbrev pub low_of : List ShotFailures → ℕ
low_of fs = column (λ f. f.power) fs + column (λ f. f.energy) fs * 2 ^ 20 + column (λ f. f.range) fs * 2 ^ 40

-- the loop's invariant: the last shots' bits are in both words, the others are still to come
pub record Gathered (shots rest : List ShotFailures) (high low : ℕ) : Type 0 where
  pub behind : List ShotFailures
  pub whole : shots ≡ rest ++ behind
  pub high_is : high ≡ high_of behind
  pub low_is : low ≡ low_of behind

-- 20 shots have 20 bits
column_lt : (g : ShotFailures → Bool) (fs : List ShotFailures) → length fs ≤ 20 → column g fs < 2 ^ 20
column_lt g fs h =
    let l : length (map g fs) ≤ 20 = rw length-map h in
    omega (arith, from_bits_lt (map g fs), pow_mono l)

pub words_lt : (fs : List ShotFailures) → length fs ≤ 20 → (high_of fs < 2 ^ 40) × (low_of fs < 2 ^ 60)
words_lt fs h =
    let w = column_lt (λ f. f.window) fs h in
    let c = column_lt (λ f. f.comparison) fs h in
    let p = column_lt (λ f. f.power) fs h in
    let e = column_lt (λ f. f.energy) fs h in
    let r = column_lt (λ f. f.range) fs h in
    (omega (arith, w, c), omega (arith, p, e, r))

pub gathered_none : (shots : List ShotFailures) → Gathered shots shots 0 0
unfolding from_bits
gathered_none shots = record { behind = []; whole = sym (append-nil shots); high_is = refl; low_is = refl }

-- all of them
pub gathered_all : (shots rest : List ShotFailures) (high low : ℕ) → length rest ≡ 0 → Gathered shots rest high low → (high ≡ high_of shots) × (low ≡ low_of shots)
gathered_all shots [] high low z g = (g.high_is ∙ ap high_of (sym g.whole), g.low_is ∙ ap low_of (sym g.whole))
gathered_all shots (x ∷ rest) high low z g = absurd (omega arith)

pub digit_byte : (b : Bool) → bool_byte b ≡ digit b
digit_byte true = refl
digit_byte false = refl

-- one shot more: the loop's sums, whose shifts drop bits over 64
abbrev pub high_sum : ℕ → ShotFailures → ℕ
high_sum high x = high * 2 % 2 ^ 64 + bool_byte x.window + bool_byte x.comparison * 2 ^ 20 % 2 ^ 64

abbrev pub low_sum : ℕ → ShotFailures → ℕ
low_sum low x = low * 2 % 2 ^ 64 + bool_byte x.power + bool_byte x.energy * 2 ^ 20 % 2 ^ 64 + bool_byte x.range * 2 ^ 40 % 2 ^ 64

module _ (shots rest next : List ShotFailures) (high low : ℕ) (x : ShotFailures) (twenty : length shots ≡ 20) (last : rest ≡ next ++ (x ∷ []))
    (g : Gathered shots rest high low) where
  grown : List ShotFailures
  grown = x ∷ g.behind

  split : shots ≡ next ++ grown
  unfolding grown
  split = g.whole ∙ ap (λ (l : List ShotFailures). l ++ g.behind) last ∙ append_assoc next (x ∷ []) g.behind

  grown_le : length grown ≤ 20
  unfolding grown
  grown_le = let n = ap length split ∙ length-append next grown in omega (arith, n)

  sums : (high_sum high x ≡ high_of grown) × (low_sum low x ≡ low_of grown)
  unfolding grown from_bits
  sums =
      let b = words_lt g.behind (omega (arith, grown_le)) in
      let d = digit_byte x.window in
      let d2 = digit_byte x.comparison in
      let d3 = digit_byte x.power in
      let d4 = digit_byte x.energy in
      let d5 = digit_byte x.range in (
        omega (arith, b.0, g.high_is, d, d2, digit_lt x.window, digit_lt x.comparison),
        omega (arith, b.1, g.low_is, d3, d4, d5, digit_lt x.power, digit_lt x.energy, digit_lt x.range),
      )

  pub gathered_more : Gathered shots next (high_sum high x) (low_sum low x)
  gathered_more = record { behind = grown; whole = split; high_is = sums.0; low_is = sums.1 }

  pub sums_lt : (high_sum high x < 2 ^ 40) × (low_sum low x < 2 ^ 60)
  sums_lt = let b = words_lt grown grown_le in (omega (arith, b.0, sums.0), omega (arith, b.1, sums.1))
