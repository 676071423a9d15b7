-- The turn by the two tests, and what it leaves.
use Prim.Native.Nat.{ℕ, ◌+◌, ◌-◌, ◌*◌, ◌≤◌}
use mathlib.Core.Path.{◌≡◌, refl, sym, ap, ◌∙◌}
use mathlib.Core.List.{List}
use native.Mathlib.Omega.{arith}
use lib.ListN.{length, take, drop}
use borrow.Rule.Slice.PartMut.{put_mid}
use Rattle.octets.specs.Bytes.{part, put}
use Rattle.octets.proofs.Codec.{part_length}
use Rattle.octets.proofs.Store.{put_part, put_whole}
use Rattle.window.specs.Window.{freed, skipped}
use Rattle.window.proofs.Held.{has_32_bits}
use Rattle.reorder_rules.specs.declared.Turn.{Turn}
use Rattle.reorder_rules.proofs.Turns.{turn_packet, turn_missing, turn_waiting}
use Rattle.reorder_session.specs.declared.Session.{Session}
use Rattle.reorder_session.specs.Session.{with_window, slot_start, single}
use Rattle.reorder_session.specs.Calls.{turn, turned, shown}
use Rattle.reorder_serve.proofs.step.Goals as goal

-- what serving once comes to, by its turn
record Did (s : Session) (i : ℕ) (store out : List ℕ) (t : Turn) (s' : Session) (out' : List ℕ) : Type 0 where
  answer : t ≡ turn s
  session : s' ≡ turned s (turn s)
  output : out' ≡ shown s i store out (turn s)

did : (s : Session) (i : ℕ) (store out : List ℕ) (t : Turn) (s' : Session) (out' : List ℕ) → turn s ≡ t → s' ≡ turned s t → out' ≡ shown s i store out t
    → Did s i store out t s' out'
did s i store out t s' out' e a b = record { answer = sym e; session = a ∙ ap (turned s) (sym e); output = b ∙ ap (shown s i store out) (sym e) }

part_is : (i n : ℕ) (s : List ℕ) → take ((i + n) - i) (drop i s) ≡ part s i n
part_is i n s = let e : (i + n) - i ≡ n = omega arith in ap (λ (k : ℕ). take k (drop i s)) e

-- bytes that fill a part of a list are stored where the part begins
filled : (s b : List ℕ) (i n : ℕ) → i + n ≤ length s → length b ≡ n → put_mid i ((i + n) - i) s (put (take ((i + n) - i) (drop i s)) 0 b) ≡ put s i b
filled s b i n h l =
    let e : (i + n) - i ≡ n = omega arith in
    (λ j. put_mid i (e j) s (put (take (e j) (drop i s)) 0 b))
    ∙ ap (put_mid i n s) (put_whole (part s i n) b (l ∙ sym (part_length s i n h)))
    ∙ put_part s b i n h l

pub returns-then-is_start_held : goal.returns-then-is_start_held
returns-then-is_start_held c =
    let a = c.args in
    let s = a.session in
    let from = slot_start s.window.start in
    let to = 1080 * a.i in
    let n : length (part a.store.now from 1080) ≡ 1080 = part_length a.store.now from 1080 (omega (arith, c.requires.store_len)) in
    let d = did s a.i a.store.now a.out.now _ _ _
    (turn_packet single s (sym c.if-is_start_held.ensures))
    (c.with_window.ensures ∙ ap (with_window s) (c.free.ensures ∙ has_32_bits (freed s.window) (omega (arith, c.requires.start_bound))))
    (ap (put_mid to ((to + 1080) - to) a.out.now)
    (c.write_into.ensures ∙ ap (put (take ((to + 1080) - to) (drop to a.out.now)) 0) (part_is from 1080 a.store.now))
    ∙ filled a.out.now (part a.store.now from 1080) to 1080 c.requires.room n) in
    record { answer = d.answer; session = d.session; output = d.output }

pub returns-then-is_held_ahead : goal.returns-then-is_held_ahead
returns-then-is_held_ahead c =
    let a = c.args in
    let s = a.session in
    let d = did s a.i a.store.now a.out.now _ _ _
    (turn_missing single s (sym c.if-is_start_held.ensures) (sym c.if-is_held_ahead.ensures))
    (c.with_window-then-is_held_ahead.ensures ∙ ap (with_window s) (c.skip.ensures ∙ has_32_bits (skipped s.window) (omega (arith, c.requires.start_bound)))) refl in
    record { answer = d.answer; session = d.session; output = d.output }

pub returns : goal.returns
returns c =
    let a = c.args in
    let d = did a.session a.i a.store.now a.out.now _ _ _
    (turn_waiting single a.session (sym c.if-is_start_held.ensures) (sym c.if-is_held_ahead.ensures)) refl refl in
    record { answer = d.answer; session = d.session; output = d.output }
