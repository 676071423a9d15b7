-- What an offer is due, read off its tests.
use Rattle.std.proofs.Common.{◌≡◌, ℕ, Bool, true, false, cond, eqb, List, refl, ap, ◌∙◌, zero, suc}
use Rattle.std.proofs.lemmas.Bool.Decides.{nat_tests}
use Rattle.std.specs.Prelude.{not}
use Rattle.octets.specs.Refusal.{refuse◌unless◌else◌, ◌then◌, Said, refused, answered, say}
use Rattle.packet_check.specs.Refusal.{read_refusal}
use Rattle.packet.specs.Fields.{fields_of}
use Rattle.window.specs.Window.{held_at}
use Rattle.reorder_rules.specs.Offer as Offer
use Rattle.reorder_rules.specs.Offer.{admitted}
use Rattle.reorder_rules.specs.Outcome.{refusing}
use Rattle.reorder_session.specs.declared.Session.{Session}
use Rattle.reorder_session.specs.Session.{broken}
use Rattle.reorder_session.specs.Calls.{offer_due, position_of}
use Rattle.reorder_session.proofs.Store.{store_by}

-- a refusal that was said is handed on, and after an answer comes the next
abbrev pub handed : {A : Type 0} → Said A → Said ℕ → Said ℕ
handed (refused n) next = refused n
handed (answered a) next = next

handed_say : {A : Type 0} (k : ℕ) (a : A) (next : Said ℕ) → refusing k next ≡ handed (say k a) next
unfolding refusing say
handed_say zero a next = refl
handed_say (suc k) a next = refl

by_tests : (a b : Bool) (k : ℕ) (next : Said ℕ)
    → refusing ((refuse 30 unless not a else 0) then refuse 27 unless b else k) next ≡ cond a (refused 30) (cond b (refusing k next) (refused 27))
unfolding refusing ◌then◌ refuse◌unless◌else◌
by_tests true b k next = refl
by_tests false true k next = refl
by_tests false false k next = refl

pub offer_by : (s : Session) (n : ℕ) (b : List ℕ)
    → offer_due s n b
    ≡ cond (broken s) (refused 30) (cond (eqb n 34560) (handed (say (read_refusal b s.sum_word) (fields_of b)) (admitted s.window.start (held_at s.window) (position_of s (fields_of b)))) (refused 27))
unfolding Offer.offer_due Offer.offer_refusal
offer_by s n b =
    let next = admitted s.window.start (held_at s.window) (position_of s (fields_of b)) in
    let k = read_refusal b s.sum_word in
    by_tests (broken s) (eqb n 34560) k next
    ∙ ap (λ x. cond (broken s) (refused 30) (cond (eqb n 34560) x (refused 27))) (handed_say k (fields_of b) next)

-- for `grind`, which finds an offer's refusals by them
pub ruleset ladders = (offer_by, store_by, nat_tests)
