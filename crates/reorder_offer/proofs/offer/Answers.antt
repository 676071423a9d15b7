-- What `offer_answer` says decides what is left.
use mathlib.Core.Path.{refl, sym, ap, ◌∙◌}
use Rattle.refusal.specs.Number.{said}
use Rattle.reorder_rules.specs.Offer.{offer_of}
use Rattle.reorder_session.specs.Session.{with_window, single}
use Rattle.packet_check.proofs.Accept.{accepted}
use Rattle.reorder_rules.proofs.Taken.{taken_offer}
use Rattle.reorder_rules.proofs.Said.{stays, leaves, comes_by}
use Rattle.reorder_offer.proofs.offer.Goals as goal

pub returns-in_default : goal.returns-in_default
unfolding offer_of
returns-in_default c = comes_by (stays _ _ _ _ _ _ c.in_default.ensures) (ap said c.in_default.is) refl refl

pub put_packet-requires : goal.put_packet-requires
put_packet-requires c = (accepted _ _ (taken_offer single _ _ _ _ (sym c.in-Ok.ensures)).read).size

pub returns : goal.returns
unfolding offer_of
returns c = leaves _ _ _ _ _ _ _ _ c.in-Ok.ensures (c.with_window.ensures ∙ ap (with_window c.args.session) c.hold-window.ensures) c.put_packet.ensures
