-- Element by element.
use Prim.Native.Nat.{ℕ}
use mathlib.Core.Path.{◌≡◌, sym, ap, ◌∙◌}
use borrow.Author.Rules.{rules}
use lib.ListN.{length, get_or}
use Rattle.octets.specs.Table.{table}
use Rattle.octets.proofs.Fill.{table_map}
use Rattle.octets.proofs.FromFn.{from_fn_table}
use Rattle.pedr_flags.specs.Class.{class_of}
use Rattle.pedr_flags.specs.declared.Class.{Class}
use Rattle.pedr_c.proofs.classes_of.Goals as goal

pub returns : goal.returns
returns c =
    let xs = c.args.numbers in
    let n : length xs ≡ 20 = search rules in
    let rule : ℕ → Class = λ k. class_of (get_or xs k 0) in
    from_fn_table _ _ rule (λ k y q e. (search rules, search rules)) _ (class_of 0) 20 c.from_fn.ensures.items
    ∙ ap (λ (n : ℕ). table n rule) (sym n) ∙ table_map class_of xs 0
