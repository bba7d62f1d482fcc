use Rattle.std.proofs.Common.{◌≡◌, true, length, take, drop}
use Rattle.shapes.specs.Shapes.{zeros}
use Rattle.padding.specs.Rounding.{rounded}
use Rattle.padding.proofs.vector_length.VectorLength.round_shape.Given as goal

abbrev pub invariant-loop-d : goal.invariant-loop-d
invariant-loop-d l =
    (length l.extents ≡ 4) × (take l.d l.extents ≡ rounded l.self.count (take l.d l.es))
    × (zeros (drop (length l.es) l.extents) ≡ true)
