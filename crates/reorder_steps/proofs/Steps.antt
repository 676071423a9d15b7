-- What the three calls of a short history promise, one after another.
use Prim.Native.Nat.{ℕ}
use mathlib.Core.Path.{◌≡◌, refl, sym, ◌∙◌, subst}
use mathlib.Core.List.{List, ◌++◌}
use Rattle.octets.specs.Refusal.{Said}
use Rattle.reorder_rules.specs.declared.Turn.{Turn}
use Rattle.reorder_session.specs.declared.Session.{Session}
use Rattle.reorder_session.specs.Calls.{offer_of, drain_of, Offers, Drains}
use Rattle.reorder_offer.specs.Opening.{Opens, no_session}
use Rattle.reorder_histories.specs.History.{offer_tells, drain_tells, MadeBy}
use Rattle.reorder_steps.specs.Short.{first_call, second_call, Short}

-- an opening that is given a session of all zeros
pub from_none : (store first : List ℕ) (threshold word : ℕ) {r s : Session} {c : List ℕ} {x : Said ℕ} → r ≡ no_session → Opens r store first threshold word x s c
    → Opens no_session store first threshold word x s c
from_none store first threshold word {r} {s} {c} {x} e p = subst (λ (z : Session). Opens z store first threshold word x s c) e p

module _ (store out first b : List ℕ) (threshold word : ℕ) where
  pub short : {s t u : Session} {c d e : List ℕ} {x y : Said ℕ} {z : Said (List Turn)}
      → Opens no_session store first threshold word x s c → Offers s c b y t d → Drains t out d 32 z u e
      → Short store out first b threshold word z u d e
  unfolding MadeBy
  short {s} {t} {u} {c} {d} {e} {x} {y} {z} p q r =
      let o = first_call store first threshold word in
      let second = second_call store first b threshold word in
      let ts : t ≡ second.session = q.session ∙ (λ i. (offer_of (p.session i) (p.bytes i) b).session) in
      let ds : d ≡ second.bytes = q.bytes ∙ (λ i. (offer_of (p.session i) (p.bytes i) b).bytes) in
      let ys : y ≡ second.said = q.answer ∙ (λ i. (offer_of (p.session i) (p.bytes i) b).said) in
      record {
        said = r.comes.answer ∙ (λ i. (drain_of (ts i) out (ds i) 32).said);
        session = r.comes.session ∙ (λ i. (drain_of (ts i) out (ds i) 32).session);
        stored = ds;
        output = r.comes.bytes ∙ (λ i. (drain_of (ts i) out (ds i) 32).bytes);
        opening = record { session = s; store = c; events = offer_tells x first };
        opened = record { said = x; promised = p; told = refl };
        called = (
          record { session = t; store = d; events = offer_tells x first ++ offer_tells y b },
          record { said = y; promised = q; told = refl },
          (
            record { session = u; store = d; events = (offer_tells o.said first ++ offer_tells second.said b) ++ drain_tells z e },
            record {
              said = z;
              output = e;
              promised = r;
              same_store = refl;
              told = sym (λ i. (offer_tells (p.answer i) first ++ offer_tells (ys i) b) ++ drain_tells z e);
            },
            refl,
          ),
        );
      }
