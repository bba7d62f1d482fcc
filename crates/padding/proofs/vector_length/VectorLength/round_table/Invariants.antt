use Rattle.std.proofs.Common.{◌≡◌, ◌+◌, take, drop}
use Rattle.shapes.specs.Shapes.{shapes_of}
use Rattle.padding.specs.Rounding.{all_rounded, rounding, rounding_from}
use Rattle.padding.proofs.vector_length.VectorLength.round_table.Given as goal

abbrev pub invariant-loop-k : goal.invariant-loop-k
invariant-loop-k l =
    (shapes_of l.wide ≡ all_rounded l.self.count (take l.k (shapes_of l.table)))
    × (rounding_from (all_rounded l.self.count (shapes_of l.table)) l.self.count (l.k + 1) (drop l.k (shapes_of l.table)) ≡ rounding l.self.count (shapes_of l.table))
