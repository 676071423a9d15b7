-- Element by element.
use Prim.Native.Nat.{ℕ}
use mathlib.Core.Path.{sym, ap, ◌∙◌}
use borrow.Author.Rules.{rules}
use lib.ListN.{get_or}
use Rattle.octets.specs.Table.{table}
use Rattle.octets.proofs.Fill.{table_map}
use Rattle.octets.proofs.FromFn.{from_fn_table}
use Rattle.pedr_flags.specs.Class.{class_number, class_of}
use Rattle.pedr_codes.proofs.class_numbers.Goals as goal

pub returns : goal.returns
returns c =
    let xs = c.args.classes.now in
    let rule : ℕ → ℕ = λ k. class_number (get_or xs k (class_of 0)) in
    from_fn_table _ _ rule (λ k y q e. (search rules, search rules)) _ 0 20 c.from_fn.ensures.items
    ∙ ap (λ (n : ℕ). table n rule) (sym c.told-classes) ∙ table_map class_number xs (class_of 0)
