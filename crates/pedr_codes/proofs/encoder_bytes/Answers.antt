-- Element by element.
use Prim.Native.Nat.{ℕ}
use mathlib.Core.Path.{sym, ap, ◌∙◌}
use borrow.Author.Rules.{rules}
use lib.ListN.{get_or}
use Rattle.octets.specs.Table.{table}
use Rattle.octets.proofs.Fill.{table_map}
use Rattle.octets.proofs.FromFn.{from_fn_table}
use Rattle.pedr_flags.specs.Encoder.{encoder_of}
use Rattle.pedr_flags_writer.specs.Encoder.{encoder_byte}
use Rattle.pedr_codes.proofs.encoder_bytes.Goals as goal

pub returns : goal.returns
returns c =
    let xs = c.args.encoders.now in
    let rule : ℕ → ℕ = λ k. encoder_byte (get_or xs k (encoder_of 0)) in
    from_fn_table _ _ rule (λ k y q e. (search rules, search rules)) _ 0 20 c.from_fn.ensures.items
    ∙ ap (λ (n : ℕ). table n rule) (sym c.told-encoders) ∙ table_map encoder_byte xs (encoder_of 0)
