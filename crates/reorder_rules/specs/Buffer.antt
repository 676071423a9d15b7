-- What is read of a session, as one consumer sees it, and what changes it. The calls are defined over this alone, once for every way to keep what is
-- held.
use Rattle.std.specs.Prelude.{ℕ, Bool, List}
use Rattle.position.specs.declared.Anchor.{Anchor}

pub record Buffer (S : Type 0) : Type 0 where
  -- the refusal that comes before a call's others, or 0: 30, session broken
  pub unfit : S → ℕ
  -- count and time of the opening packet, and the word of the packets' sum
  pub anchor : S → Anchor
  pub word : S → ℕ
  -- where the window starts: the 32 positions from there on can be held
  pub start : S → ℕ
  -- position p is held; some held position is at least lo
  pub held : S → ℕ → Bool
  pub some : S → ℕ → Bool
  -- the bytes of a held position in the store
  pub bytes : S → List ℕ → ℕ → List ℕ
  -- the consumer's next position, and its threshold (document 01's patience)
  pub next : S → ℕ
  pub threshold : S → ℕ
  -- the session once position p is held too, and the store with p's packet in it
  pub taken : S → ℕ → S
  pub stored : S → List ℕ → ℕ → List ℕ → List ℕ
  -- the session once next, which is held, was given; and once next, which isn't, was called missing
  pub given : S → S
  pub missed : S → S
