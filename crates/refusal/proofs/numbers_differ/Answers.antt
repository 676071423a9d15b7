use Rattle.refusal.proofs.Differ.{numbers_differ}
use Rattle.refusal.proofs.numbers_differ.Goals as goal

pub returns : goal.returns
returns c = numbers_differ
