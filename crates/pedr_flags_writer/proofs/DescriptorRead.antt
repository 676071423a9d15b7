-- The descriptor's bits, read and put together, both ways.
use Prim.Native.Nat.{ℕ, suc, ◌+◌, ◌-◌, ◌*◌, ◌/◌, ◌%◌, ◌^◌, ◌<◌, ◌≤◌}
use mathlib.Core.Path.{◌≡◌, refl, sym, ap, ap₂, ◌∙◌, subst}
use mathlib.Core.Bool.{Bool, false}
use mathlib.Core.List.{List, [], ◌∷◌, ◌++◌, map}
use native.Mathlib.Nat.{mod-eq_of_lt}
use native.Mathlib.Omega.{arith}
use lib.Arith.{digits_lt}
use lib.Dec.{eqb}
use lib.ListN.{length, get_or, take, drop, length-append, length-map, get_or-append, get_or-map}
use lib.Seq.{get_or-append-add, take_at, take-take}
use Rattle.numbers.specs.Bit.{bit, from_bits}
use Rattle.numbers.proofs.Given.{from_bits_lt, bit_given, digit_lt, test_digit}
use Rattle.octets.specs.Bytes.{nat_at, octets_of, part, Octets}
use Rattle.octets.specs.Table.{table}
use Rattle.octets.proofs.Bits.{is_set, from_table}
use Rattle.octets.proofs.Codec.{octets_bytes, octets_split, part_at, write_read, read_write}
use Rattle.octets.proofs.Fill.{table_below, table_self, table_length}
use Rattle.octets.proofs.Read.{nat_bit, nat_lt}
use Rattle.pedr_flags.specs.Descriptor.{failed, descriptor_of, failures_of, all_failures_of}
use Rattle.pedr_flags.specs.declared.Descriptor.{Descriptor}
use Rattle.pedr_flags.specs.declared.ShotFailures.{ShotFailures}
use Rattle.pedr_flags_writer.specs.Descriptor.{descriptor_bits, descriptor_octets}
use Rattle.pedr_flags_writer.proofs.Shots.{none}
use Rattle.pedr_flags_writer.proofs.Descriptor.{low_word, two_words}

-- ---- read, then put together

-- bit k of the 16 bytes as one number is the test of bit k
pub test_is : (s : List ℕ) → Octets s → (k : ℕ) → k < 128 → is_set (nat_at s 32 16) k ≡ failed s k
test_is s o k h = ap (λ (b : ℕ). eqb b 1) (nat_bit s 32 16 k o (omega arith) ∙ ap (λ (j : ℕ). bit (get_or s j 0) (k % 8)) (omega arith))

-- and bit k of the first three bytes that of bit 104 + k
pub carried_is : (s : List ℕ) → Octets s → (k : ℕ) → k < 24 → is_set (nat_at s 32 3) k ≡ failed s (104 + k)
carried_is s o k h =
    ap (λ (b : ℕ). eqb b 1)
    (nat_bit s 32 3 k o (omega arith) ∙ ap₂ (λ (j m : ℕ). bit (get_or s j 0) m) (omega arith) (omega arith))

bits_read : (s : List ℕ) → Octets s → descriptor_bits (descriptor_of s) (all_failures_of s) ≡ table 128 (failed s)
unfolding descriptor_bits descriptor_of all_failures_of failures_of
bits_read s o = ap (λ (t : List Bool). table 104 (failed s) ++ t) (table_below 24 (is_set (nat_at s 32 3)) (λ k. failed s (104 + k)) (carried_is s o))

pub descriptor_whole : (s : List ℕ) → Octets s → 48 ≤ length s → descriptor_octets (descriptor_of s) (all_failures_of s) ≡ part s 32 16
unfolding descriptor_octets
descriptor_whole s o h =
    let n = nat_at s 32 16 in
    ap (octets_of 16)
    (ap from_bits (bits_read s o ∙ table_below 128 (failed s) (is_set n) (λ k l. sym (test_is s o k l))) ∙ from_table 128 n ∙ mod-eq_of_lt (nat_lt s 32 16 o))
    ∙ write_read 16 s 32 o h

-- ---- put together, then read

-- past the first bits, and among them
skip : (xs ys : List Bool) (i n k : ℕ) → length xs ≡ n → i ≡ n + k → get_or (xs ++ ys) i false ≡ get_or ys k false
skip xs ys i n k l e = ap (λ (j : ℕ). get_or (xs ++ ys) j false) (e ∙ ap (λ (m : ℕ). m + k) (sym l)) ∙ get_or-append-add xs ys k false

module _ (d : Descriptor) (fs : List ShotFailures) (s : List ℕ) (shots : length fs ≡ 20) (stored : part s 32 16 ≡ descriptor_octets d fs) where
  bits : List Bool
  bits = descriptor_bits d fs

  number : ℕ
  number = from_bits bits

  column_length : (g : ShotFailures → Bool) → length (map g fs) ≡ 20
  column_length g = length-map fs g ∙ shots

  carried_bits : List Bool
  carried_bits = table 24 (is_set d.carried)

  -- the bits from each column on
  from84 : List Bool
  from84 = map (λ f. f.comparison) fs ++ carried_bits

  from64 : List Bool
  from64 = map (λ f. f.window) fs ++ from84

  from44 : List Bool
  from44 = map (λ f. f.range) fs ++ from64

  from24 : List Bool
  from24 = map (λ f. f.energy) fs ++ from44

  from4 : List Bool
  from4 = map (λ f. f.power) fs ++ from24

  column_then : (g : ShotFailures → Bool) (ys : List Bool) (n : ℕ) → length ys ≡ n → length (map g fs ++ ys) ≡ 20 + n
  column_then g ys n e = length-append (map g fs) ys ∙ ap₂ (λ (a b : ℕ). a + b) (column_length g) e

  bits_length : length bits ≡ 128
  unfolding bits descriptor_bits
  bits_length =
      ap (λ (n : ℕ). suc (suc (suc (suc n))))
      (column_then _ _ 104 (column_then _ _ 84 (column_then _ _ 64 (column_then _ _ 44 (column_then _ _ 24 (table_length 24 (is_set d.carried)))))))

  number_lt : number < 256 ^ 16
  unfolding number
  number_lt = subst (λ (n : ℕ). from_bits bits < 2 ^ n) bits_length (from_bits_lt bits)

  octets_are : part s 32 16 ≡ octets_of 16 number
  unfolding descriptor_octets number bits
  octets_are = stored

  -- bit k is read as it was given
  test_given : (k : ℕ) → k < 128 → failed s k ≡ get_or bits k false
  unfolding number
  test_given k h =
      let b = octets_of 16 number in
      let j : ℕ = 15 - k / 8 in
      let at : 48 - k / 8 - 1 ≡ 32 + j = omega arith in
      let from_first : 0 + (16 - 1 - k / 8) ≡ j = omega arith in
      let whole : nat_at b 0 16 ≡ number = read_write 16 b 0 number refl number_lt in
      let byte : get_or s (48 - k / 8 - 1) 0 ≡ get_or b j 0 =
      ap (λ (i : ℕ). get_or s i 0) at ∙ sym (part_at s 32 16 j (omega arith)) ∙ ap (λ (l : List ℕ). get_or l j 0) octets_are in
      let read : bit (nat_at b 0 16) k ≡ bit (get_or b j 0) (k % 8) =
      nat_bit b 0 16 k (octets_bytes 16 number) (omega arith) ∙ ap (λ (i : ℕ). bit (get_or b i 0) (k % 8)) from_first in
      ap (λ (x : ℕ). eqb (bit x (k % 8)) 1) byte ∙ ap (λ (x : ℕ). eqb x 1) (sym read ∙ ap (λ (x : ℕ). bit x k) whole ∙ bit_given bits k)
      ∙ test_digit (get_or bits k false)

  -- the test of shot j + 1 in a column
  among : (g : ShotFailures → Bool) (ys : List Bool) (j : ℕ) → g none ≡ false → j < 20 → get_or (map g fs ++ ys) j false ≡ g (get_or fs j none)
  among g ys j z h =
      get_or-append (map g fs) ys false j (omega (arith, column_length g)) ∙ ap (get_or (map g fs) j) (sym z) ∙ get_or-map g fs j none

  past4 : (i k : ℕ) → i ≡ 4 + k → get_or bits i false ≡ get_or from4 k false
  unfolding bits descriptor_bits from4 from24 from44 from64 from84 carried_bits
  past4 i k e = skip (d.packet_sum ∷ d.software_sum ∷ d.mode ∷ d.ots ∷ []) from4 i 4 k refl e

  past24 : (i k : ℕ) → i ≡ 24 + k → get_or bits i false ≡ get_or from24 k false
  unfolding from4
  past24 i k e = past4 i (20 + k) (omega arith) ∙ skip (map (λ f. f.power) fs) from24 (20 + k) 20 k (column_length (λ f. f.power)) refl

  past44 : (i k : ℕ) → i ≡ 44 + k → get_or bits i false ≡ get_or from44 k false
  unfolding from24
  past44 i k e = past24 i (20 + k) (omega arith) ∙ skip (map (λ f. f.energy) fs) from44 (20 + k) 20 k (column_length (λ f. f.energy)) refl

  past64 : (i k : ℕ) → i ≡ 64 + k → get_or bits i false ≡ get_or from64 k false
  unfolding from44
  past64 i k e = past44 i (20 + k) (omega arith) ∙ skip (map (λ f. f.range) fs) from64 (20 + k) 20 k (column_length (λ f. f.range)) refl

  past84 : (i k : ℕ) → i ≡ 84 + k → get_or bits i false ≡ get_or from84 k false
  unfolding from64
  past84 i k e = past64 i (20 + k) (omega arith) ∙ skip (map (λ f. f.window) fs) from84 (20 + k) 20 k (column_length (λ f. f.window)) refl

  shot_given : (j : ℕ) → j < 20 → failures_of s (suc j) ≡ get_or fs j none
  unfolding failures_of from4 from24 from44 from64 from84
  shot_given j h =
      let power = test_given (3 + suc j) (omega arith) ∙ past4 (3 + suc j) j (omega arith) ∙ among (λ f. f.power) from24 j refl h in
      let energy = test_given (23 + suc j) (omega arith) ∙ past24 (23 + suc j) j (omega arith) ∙ among (λ f. f.energy) from44 j refl h in
      let range = test_given (43 + suc j) (omega arith) ∙ past44 (43 + suc j) j (omega arith) ∙ among (λ f. f.range) from64 j refl h in
      let window = test_given (63 + suc j) (omega arith) ∙ past64 (63 + suc j) j (omega arith) ∙ among (λ f. f.window) from84 j refl h in
      let comparison = test_given (83 + suc j) (omega arith) ∙ past84 (83 + suc j) j (omega arith) ∙ among (λ f. f.comparison) carried_bits j refl h in
      λ i. record { power = power i; energy = energy i; range = range i; window = window i; comparison = comparison i }

  pub failures_given : all_failures_of s ≡ fs
  unfolding all_failures_of
  failures_given =
      table_below 20 (λ j. failures_of s (suc j)) (λ j. get_or fs j none) shot_given
      ∙ ap (λ (n : ℕ). table n (λ j. get_or fs j none)) (sym shots) ∙ table_self fs none

  -- the carried bits are the first three bytes
  column_lt : (g : ShotFailures → Bool) → from_bits (map g fs) < 1048576
  column_lt g = subst (λ (n : ℕ). from_bits (map g fs) < 2 ^ n) (column_length g) (from_bits_lt (map g fs))

  carried_given : d.carried ≤ 16777215 → nat_at s 32 3 ≡ d.carried
  unfolding number bits
  carried_given h =
      let cl : d.carried < 256 ^ 3 = omega arith in
      let c : d.carried % 2 ^ 24 ≡ d.carried = omega arith in
      let w : ℕ = from_bits (map (λ f. f.window) fs) + 2 ^ 20 * from_bits (map (λ f. f.comparison) fs) in
      let l : ℕ = low_word d fs shots in
      let y : ℕ = w * 2 ^ 64 + l in
      let wl : w < 2 ^ 40 = omega (arith, column_lt (λ f. f.window), column_lt (λ f. f.comparison)) in
      let ll : l < 2 ^ 64 = omega (
        arith,
        column_lt (λ f. f.power),
        column_lt (λ f. f.energy),
        column_lt (λ f. f.range),
        digit_lt d.packet_sum,
        digit_lt d.software_sum,
        digit_lt d.mode,
        digit_lt d.ots,
      ) in
      let yl : y < 256 ^ 13 = digits_lt wl ll in
      let n : number ≡ d.carried * 256 ^ 13 + y =
      two_words d fs shots ∙ ap (λ (k : ℕ). (w + 2 ^ 40 * k) * 2 ^ 64 + l) c ∙ regroup w d.carried l in
      let front : part s 32 3 ≡ octets_of 3 d.carried =
      sym (take-take 3 16 (drop 32 s) (omega arith)) ∙ ap (take 3) (octets_are ∙ ap (octets_of 16) n ∙ octets_split 3 13 d.carried y yl)
      ∙ take_at (octets_of 3 d.carried) (octets_of 13 y) 3 refl in
      read_write 3 s 32 d.carried front cl
    where
      regroup : (w c l : ℕ) → (w + 2 ^ 40 * c) * 2 ^ 64 + l ≡ c * 256 ^ 13 + (w * 2 ^ 64 + l)
      regroup w c l = omega arith

  pub descriptor_given : d.carried ≤ 16777215 → descriptor_of s ≡ d
  unfolding descriptor_of bits descriptor_bits
  descriptor_given h =
      let carried = carried_given h in
      λ i. record {
        packet_sum = test_given 0 (omega arith) i;
        software_sum = test_given 1 (omega arith) i;
        mode = test_given 2 (omega arith) i;
        ots = test_given 3 (omega arith) i;
        carried = carried i;
      }
