-- Laws of decimal text.
use Rattle.std.proofs.Common.{◌≡◌, ℕ, suc, ◌+◌, ◌/◌, ◌%◌, ◌^◌, ◌<◌, ◌≤◌, [], ◌∷◌, ◌++◌, length, arith}
use Rattle.std.proofs.lemmas.Fmt.{decimal_from_appends, length-decimal-le_succ, length-decimal-le}
use Rattle.std.specs.Fmt.{decimal as Fmt·decimal}
use borrow.Author.Tests.{lt-ltb, le-ltb}
use Rattle.aedr.specs.Decimal.{digits, decimal}

-- a number of one digit, and one of more
small : (k n : ℕ) → n < 10 → digits (suc k) n ≡ (48 + n) ∷ []
unfolding digits
small k n h = rw (lt-ltb n 10 h)

large : (k n : ℕ) → 10 ≤ n → digits (suc k) n ≡ digits k (n / 10) ++ ((48 + n % 10) ∷ [])
unfolding digits
large k n h = rw (le-ltb n 10 h)

-- the text is the library's
pub decimal_printed : (n : ℕ) → n < 2 ^ 64 → decimal n ≡ Fmt·decimal n
decimal_printed n h =
    decimal_from_appends digits (record { one = small; more = large }) (suc n) n h (omega (arith, length-decimal-le_succ n h))

-- at most k digits
pub decimal_length : (k n : ℕ) → 0 < k → n < 10 ^ k → n < 2 ^ 64 → length (decimal n) ≤ k
decimal_length k n p h w = rw (decimal_printed n w) (length-decimal-le k n p h w)
