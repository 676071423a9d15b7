-- The library's decimal text is the number's.
use Rattle.std.proofs.Common.{◌≡◌, ℕ, List, sym, subst, ◌∙◌, arith}
use Rattle.aedr.specs.Decimal.{decimal}
use Rattle.aedr.specs.Text.{TextAt}
use Rattle.aedr.proofs.Digits.{decimal_printed}
use Rattle.aedr.proofs.put_number.Goals as goal

pub put_text-requires : goal.put_text-requires
put_text-requires c =
    let e : c.as_bytes.result.now ≡ decimal c.args.n =
    c.as_bytes.ensures.value ∙ c.format.ensures.text ∙ sym (decimal_printed c.args.n (omega arith)) in
    rw e c.requires

pub returns : goal.returns
returns c =
    let a = c.args in
    let p = c.put_text in
    let e : c.as_bytes.result.now ≡ decimal a.n =
    c.as_bytes.ensures.value ∙ c.format.ensures.text ∙ sym (decimal_printed a.n (omega arith)) in
    subst (λ (text : List ℕ). TextAt a.out.now a.at text p.result p.new.out) e p.ensures
