-- The last shots' bits are in both words.
use Rattle.std.specs.Slice.Iter.{iter_rest}
use Rattle.std.specs.Iterator.Adapters.{rev_source}
use Rattle.pedr_flags_writer.proofs.Shots.{Gathered}
use Rattle.pedr_flags_writer.proofs.shot_words.Given as goal

abbrev pub invariant-loop-shot : goal.invariant-loop-shot
invariant-loop-shot l = Gathered l.failures (iter_rest (rev_source l.shot-iterator)) l.high l.low
