-- A refusal leaves everything; else the packet is stored.
use Prim.Native.Nat.{ℕ}
use mathlib.Core.Path.{◌≡◌, refl, sym}
use lib.ListN.{length}
use Rattle.octets.proofs.Ladder.{say_refused, say_answered, refusal_said, answer_said}
use Rattle.refusal.specs.Number.{number}
use Rattle.refusal.proofs.Said.{number_not_0}
use Rattle.packet_check.proofs.Accept.{accepted}
use Rattle.packet.specs.Fields.{fields_of}
use Rattle.reorder_rules.proofs.Said.{stays, leaves}
use Rattle.reorder_offer.specs.Opening.{opened, open_refusal, open_due, open_of}
use Rattle.reorder_offer.proofs.Opening.{accepted_opening}
use Rattle.reorder_offer.proofs.open_or.Goals as goal
use Rattle.reorder_offer.proofs.open_or.Goals.{In-Ok}

-- nothing was refused, and the session is the one that the packet opens
met : (c : In-Ok) → let k = c.args in
    (open_refusal (length k.store.now) k.packet.now k.threshold k.sum_word ≡ 0) × (c.in-Ok.opened ≡ opened (fields_of k.packet.now) k.threshold k.sum_word)
met c = answer_said _ _ _ c.in-Ok.ensures

pub put_packet-requires : goal.put_packet-requires
unfolding open_due
put_packet-requires c =
    let k = c.args in
    let a = accepted_opening _ _ k.threshold k.sum_word 0 (sym (say_answered {A = ℕ} _ 0 0 (met (goal.at.put_packet-requires c).In-Ok).0 refl)) in
    (accepted k.packet.now k.sum_word a.read).size

pub returns-in-Ok : goal.returns-in-Ok
unfolding open_of open_due
returns-in-Ok c =
    let m = met (goal.at.returns-in-Ok c).In-Ok in
    leaves _ _ _ _ 0 _ _ _ (say_answered {A = ℕ} _ 0 0 m.0 refl) m.1 c.put_packet.ensures

pub returns-in-Err : goal.returns-in-Err
unfolding open_of open_due
returns-in-Err c =
    let k = c.args in
    let h = refusal_said (number c.in-Err.refusal) _ (opened (fields_of k.packet.now) k.threshold k.sum_word) c.in-Err.ensures in
    stays _ _ _ _ _ _ (say_refused {A = ℕ} _ _ 0 h.0 (number_not_0 c.in-Err.refusal))
