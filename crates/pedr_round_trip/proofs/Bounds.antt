-- The bounds of signed numbers.
use lib.IntN.{ℤ, pos, negsuc}
use mir.Syntax.{w16, w32}
use mir.Val.{SFits}
use Rattle.octets.specs.Bytes.{SignedFits}

-- what fits a width of 32 or 16 bits fits as many bits of two's complement
pub signed_32 : (z : ℤ) → SFits w32 z → SignedFits 32 z
signed_32 (pos n) f = f.sfits
signed_32 (negsuc n) f = f.sfits

pub signed_16 : (z : ℤ) → SFits w16 z → SignedFits 16 z
signed_16 (pos n) f = f.sfits
signed_16 (negsuc n) f = f.sfits
