-- What two linked reorder buffers do with the same offer.
use Prim.Native.Nat.{ℕ, ◌≤◌, ◌<◌}
use mathlib.Core.Path.{◌≡◌, refl, sym, ap, ◌∙◌, subst}
use mathlib.Core.Bool.{true≢false}
use mathlib.Core.List.{List, ◌++◌}
use mathlib.Core.Logic.{◌⊎◌, inl, inr}
use native.Mathlib.Decide.{dec_lt}
use native.Mathlib.Omega.{arith}
use lib.IntN.{pos}
use lib.ListN.{length}
use Rattle.reorder_rules.specs.Offer as Offer-rules
use Rattle.octets.specs.Bytes.{put}
use Rattle.octets.specs.Refusal.{Said, refused, answered}
use Rattle.packet_check.specs.Refusal.{read_refusal}
use Rattle.packet.specs.Fields.{fields_of}
use Rattle.position.specs.declared.Anchor.{Anchor}
use Rattle.position.specs.Position.{position, published_tolerance}
use Rattle.window.specs.Window.{holding}
use Rattle.reorder_session.specs.Session.{with_window, slot_start, single}
use Rattle.reorder_rules.specs.Outcome.{outcome}
use Rattle.reorder_session.specs.Calls.{position_of, offer_due}
use Rattle.reorder_rules.proofs.Said.{said_is}
use Rattle.reorder_rules.proofs.Free.{offered_free}
use Rattle.reorder_rules.proofs.Taken.{taken_offer}
use Rattle.reorder_session.proofs.Whole.{fit_whole}
use Rattle.reorder_histories.specs.History as History-rules
use Rattle.reorder_histories.specs.History.{offer, offer_tells}
use Rattle.reorder_histories.specs.Histories.{State, step, NotTooFar}
use Rattle.reorder_histories.proofs.Between.{same_state}
use Rattle.reorder_histories.proofs.Buffer.{Takes, takes}
use Rattle.reorder_histories.proofs.Link.{Link, take_b, take_both}

-- ---- one buffer

-- the state after an offer of x, by what is said
abbrev offered_as : State → List ℕ → Said ℕ → State
offered_as σ x y =
    let o = outcome y σ.session σ.store (λ p. with_window σ.session (holding σ.session.window p)) (λ p. put σ.store (slot_start p) x) in
    record { session = o.session; store = o.bytes; events = σ.events ++ offer_tells o.said x }

abbrev said_by : State → List ℕ → Said ℕ
said_by σ x = offer_due σ.session (length σ.store) x

not_25 : (σ : State) (x : List ℕ) → NotTooFar σ x → said_by σ x ≡ refused 25 → ⊥
unfolding Offer-rules.offer_of
not_25 σ x n e = n (said_is (said_by σ x) σ.session σ.store _ _ ∙ e)

refused≢answered : (n p : ℕ) → refused n ≡ answered p → ⊥
refused≢answered n p e = cc

-- ---- both

module _ (f : ℕ) (a b : State) (lk : Link f a b) (x : List ℕ) where
  same_position : position_of a.session (fields_of x) ≡ position_of b.session (fields_of x)
  same_position = ap (λ (r : Anchor). position r (fields_of x).count (fields_of x).coarse_time published_tolerance) lk.alike.anchors

  same_read : read_refusal x a.session.sum_word ≡ read_refusal x b.session.sum_word
  same_read = ap (read_refusal x) lk.alike.words

  -- what a takes isn't before the frontier
  a_takes : (p : ℕ) → Takes a p x → f ≤ p
  a_takes p t = go (dec_lt p f)
    where
      go : Dec (p < f) → f ≤ p
      go (yes l) = absurd (true≢false (sym (lk.due p t.position.least l).0 ∙ t.position.free))
      go (no n) = omega arith

  -- what a takes b does not refuse
  b_takes : (p m : ℕ) → NotTooFar b x → Takes a p x → said_by b x ≡ refused m → ⊥
  b_takes p m near t e =
      let l = a_takes p t in
      go
      (offered_free single b.session (length b.store) x p (fit_whole _ lk.buffer_b.sound) lk.buffer_b.size (sym same_read ∙ t.read) (sym same_position ∙ t.position.at)
      (omega (arith, lk.next_b)) t.position.most (sym (lk.above p l) ∙ t.position.free))
    where
      go : (said_by b x ≡ answered p) ⊎ (said_by b x ≡ refused 25) → ⊥
      go (inl q) = refused≢answered m p (sym e ∙ q)
      go (inr q) = not_25 b x near q

  -- what b alone takes is before the frontier
  b_alone : (p n : ℕ) → NotTooFar a x → Takes b p x → said_by a x ≡ refused n → p < f
  b_alone p n near t e = go (dec_lt p f)
    where
      by : (said_by a x ≡ answered p) ⊎ (said_by a x ≡ refused 25) → ⊥
      by (inl q) = refused≢answered n p (sym e ∙ q)
      by (inr q) = not_25 a x near q

      go : Dec (p < f) → p < f
      go (yes l) = l
      go (no m) =
          absurd
          (by
          (offered_free single a.session (length a.store) x p (fit_whole _ lk.buffer_a.sound) lk.buffer_a.size (same_read ∙ t.read) (same_position ∙ t.position.at)
          (omega (arith, lk.next_a)) t.position.most (lk.above p (omega arith) ∙ t.position.free)))

  same_taken : (p q : ℕ) → Takes a p x → Takes b q x → q ≡ p
  same_taken p q t u =
      let e : answered (pos p) ≡ answered (pos q) = sym t.position.at ∙ same_position ∙ u.position.at in
      cc

  after_both : NotTooFar a x → NotTooFar b x → (y z : Said ℕ) → said_by a x ≡ y → said_by b x ≡ z → Link f (offered_as a x y) (offered_as b x z)
  after_both na nb (refused n) (refused m) d e =
      subst (λ (v : State). Link f v (offered_as b x (refused m))) (sym (same_state a)) (subst (Link f a) (sym (same_state b)) lk)
  after_both na nb (refused n) (answered q) d e =
      let t = taken_offer single b.session (length b.store) x q e in
      subst (λ (v : State). Link f v (takes b q x)) (sym (same_state a)) (take_b f a b q x lk (b_alone q n na t d) t)
  after_both na nb (answered p) (refused m) d e = absurd (b_takes p m nb (taken_offer single a.session (length a.store) x p d) e)
  after_both na nb (answered p) (answered q) d e =
      let t = taken_offer single a.session (length a.store) x p d in
      let u = taken_offer single b.session (length b.store) x q e in
      let i : q ≡ p = same_taken p q t u in
      subst (λ (k : ℕ). Link f (takes a p x) (takes b k x)) (sym i)
      (take_both f a b p x lk (a_takes p t) t (subst (λ (k : ℕ). Takes b k x) i u))

  pub link_offer : NotTooFar a x → NotTooFar b x → Link f (step a (offer x)) (step b (offer x))
  unfolding History-rules.step Offer-rules.offer_of
  link_offer na nb = after_both na nb (said_by a x) (said_by b x) refl refl
