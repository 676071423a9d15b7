-- Document 01: 16 for a shot that is not 1 to 20, else the quality bit and the tests of one shot.
use Rattle.std.specs.Prelude.{ℕ, List}
use Rattle.octets.specs.Refusal.{refuse◌unless◌else◌, within, Said, say}
use Rattle.layout.specs.Column.{value}
use Rattle.pedr_layout.specs.Layout.{shot_count, quality_number}
use Rattle.pedr_flags.specs.Quality.{good_shot}
use Rattle.pedr_flags.specs.Descriptor.{failures_of}
use Rattle.pedr_flags.specs.declared.ShotFlags.{ShotFlags}

-- the flags of shot k, which is 1 to 20
unfoldable pub flags_of : List ℕ → ℕ → ShotFlags
flags_of s k = record { good = good_shot (value s quality_number) k; failures = failures_of s k }

-- 16: shot not 1 to 20
abbrev pub flags_refusal : ℕ → ℕ
flags_refusal k = refuse 16 unless within 1 shot_count k else 0

-- what is due of the flags of a shot
abbrev pub flags_due : List ℕ → ℕ → Said ShotFlags
flags_due s k = say (flags_refusal k) (flags_of s k)
