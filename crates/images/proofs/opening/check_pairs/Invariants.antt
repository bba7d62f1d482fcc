use Rattle.std.proofs.Common.{◌≡◌, ◌+◌, drop}
use Rattle.shapes.specs.Shapes.{shapes_of}
use Rattle.images.specs.Layout.{pairs_from, pairs}
use Rattle.images.proofs.opening.check_pairs.Given as goal

abbrev pub invariant-loop-k : goal.invariant-loop-k
invariant-loop-k l = pairs_from l.bytes (l.k + 1) l.end (drop l.k (shapes_of l.table)) ≡ pairs l.bytes (shapes_of l.table)
