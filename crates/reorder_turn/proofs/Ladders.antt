-- The refusals of a serve, read off their tests: 30, 27 and 29, in whatever order the code comes to them.
use Rattle.std.proofs.Common.{◌≡◌, ℕ, Bool, true, false, cond, eqb, leb, refl}
use Rattle.std.proofs.lemmas.Bool.Decides.{nat_tests}
use Rattle.std.specs.Prelude.{not}
use Rattle.octets.specs.Refusal.{refuse◌unless◌else◌, ◌then◌}
use Rattle.reorder_rules.specs.Serve as Serve
use Rattle.reorder_session.specs.declared.Session.{Session}
use Rattle.reorder_session.specs.Session.{broken}
use Rattle.reorder_session.specs.Calls.{serve_refusal}
use Rattle.reorder_session.proofs.Store.{store_by}

three : (a b c : Bool) → ((refuse 30 unless not a else 0) then refuse 27 unless b else refuse 29 unless c else 0) ≡ cond a 30 (cond b (cond c 0 29) 27)
unfolding ◌then◌ refuse◌unless◌else◌
three true b c = refl
three false true true = refl
three false true false = refl
three false false c = refl

pub serve_by : (s : Session) (n o : ℕ) → serve_refusal s n o ≡ cond (broken s) 30 (cond (eqb n 34560) (cond (leb 1080 o) 0 29) 27)
unfolding Serve.serve_refusal
serve_by s n o = three (broken s) (eqb n 34560) (leb 1080 o)

-- for `grind`, which finds a serve's returns by them
pub ruleset ladders = (serve_by, store_by, nat_tests)
