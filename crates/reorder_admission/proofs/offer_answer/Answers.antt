-- The ladder of refusals, and past it the position.
use Prim.Native.Nat.{ℕ}
use mathlib.Core.Path.{◌≡◌, sym, ap, ◌∙◌}
use native.Mathlib.Omega.{arith}
use Rattle.octets.specs.Refusal.{answered}
use Rattle.octets.proofs.Ladder.{answer_said}
use Rattle.refusal.specs.Number.{number}
use Rattle.refusal.proofs.Said as Refusals
use Rattle.refusal.proofs.Said.{number_not_0}
use Rattle.packet_check.specs.Refusal.{read_refusal}
use Rattle.packet.specs.Fields.{fields_of}
use Rattle.packet.specs.Read.{read_due}
use Rattle.window.specs.Window.{held_at}
use Rattle.reorder_rules.specs.Offer.{admitted, offer_refusal, offer_due}
use Rattle.reorder_rules.proofs.Said.{refusing_now, refusing_next}
use Rattle.reorder_session.specs.declared.Session.{Session}
use Rattle.reorder_session.specs.Session.{store_refusal}
use Rattle.reorder_session.specs.Calls.{position_of}
use Rattle.reorder_session.proofs.Store.{store_pass, store_fail}
use Rattle.reorder_admission.proofs.offer_answer.Goals as goal

-- what the store's size refuses, of a size that is worked out
asked : (s : Session) (k m n : ℕ) → k ≡ store_refusal s m → m ≡ n → k ≡ store_refusal s n
asked s k m n e q = e ∙ ap (store_refusal s) q

pub returns-in_err-check_store : goal.returns-in_err-check_store
unfolding offer_refusal offer_due
returns-in_err-check_store c =
    let e = c.in_err-check_store.field-0.0 in
    let q : number e ≡ store_refusal c.args.session c.args.store_size = asked _ _ _ _ c.in_err-check_store.ensures (omega arith) in
    Refusals.handed_on _ e c.from_residual.ensures ∙ refusing_now _ _ _ (store_fail _ _ _ _ q (number_not_0 e)) (number_not_0 e)

pub returns : goal.returns
unfolding offer_refusal offer_due
returns c =
    let s = c.args.session in
    let b = c.args.packet.now in
    let z : 0 ≡ store_refusal s c.args.store_size = asked _ _ _ _ c.in_ok-check_store.ensures (omega arith) in
    let q : answered c.in-Ok.fields ≡ read_due b s.sum_word = c.in-Ok.ensures in
    let r = answer_said (read_refusal b s.sum_word) (fields_of b) _ q in
    refusing_next _ _ _ (sym (store_pass _ _ _ 0 (sym z) (sym r.0)))
    (c.position_answer.ensures ∙ ap (admitted s.window.start (held_at s.window)) (c.locate-located.ensures ∙ ap (position_of s) r.1))
