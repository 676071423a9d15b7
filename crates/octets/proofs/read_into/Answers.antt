-- The bytes from the index on, and zeros behind them.
use Rattle.std.proofs.Common.{◌≡◌, ℕ, List, length, sym, ap, ◌∙◌, arith, rules}
use Rattle.octets.specs.Table.{octets_at}
use Rattle.octets.proofs.Fill.{rest_within, rest_whole}
use Rattle.octets.proofs.read_into.Goals as goal

pub returns-then-out-source : goal.returns-then-out-source
returns-then-out-source c =
    let a = c.args in
    c.copy.ensures ∙ rest_within a.bytes.now _ a.i _ c.bytes_from-source.ensures c.if-out-source.true

pub returns-else-out-source : goal.returns-else-out-source
returns-else-out-source c =
    let a = c.args in
    c.copy_padded.ensures ∙ rest_whole a.bytes.now _ a.i (length a.out.now) c.bytes_from-source.ensures
