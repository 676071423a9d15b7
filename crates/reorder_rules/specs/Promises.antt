-- What each call promises, by value, over a lent session and in numbers alike: it says x, and leaves the session t and, in what it is lent to
-- write, the bytes c.
use Rattle.std.specs.Prelude.{ℕ, ◌+◌, ◌≡◌, List, [], length}
use Rattle.octets.specs.Refusal.{Said, refused, answered}
use Rattle.reorder_rules.specs.Outcome.{ComesTo}
use Rattle.reorder_rules.specs.Buffer.{Buffer}
use Rattle.reorder_rules.specs.Offer.{offer_of}
use Rattle.reorder_rules.specs.declared.Turn.{Turn}
use Rattle.reorder_rules.specs.Serve.{serve_of, drain_of}
use Rattle.reorder_rules.specs.Pass.{pass_of}

-- how many answers were said
abbrev pub count_in : Said (List Turn) → ℕ
count_in (refused n) = 0
count_in (answered ts) = length ts

module _ {S : Type 0} (B : Buffer S) where
  -- an offer of the packet b, to be held in the store
  abbrev pub Offers : S → List ℕ → List ℕ → Said ℕ → S → List ℕ → Type 0
  Offers s store b x t c = ComesTo (offer_of B s store b) s store x t c

  -- a serve into out, of what the store holds
  abbrev pub Serves : S → List ℕ → List ℕ → Said Turn → S → List ℕ → Type 0
  Serves s out store x t c = ComesTo (serve_of B s out store) s out x t c

  -- a drain into out, of what the store holds
  pub record Drains (s : S) (out store : List ℕ) (budget : ℕ) (x : Said (List Turn)) (t : S) (c : List ℕ) : Type 0 where
    pub comes : ComesTo (drain_of B s out store budget) s out x t c
    -- "The count it reports equals next after less next before": what a drain gives for its count is tied to x where its answer is declared
    pub count : B.next t ≡ B.next s + count_in x

  -- a pass, which is lent no bytes
  abbrev pub Passes : S → Said ℕ → S → Type 0
  Passes s x t = ComesTo (pass_of B s) s [] x t []
