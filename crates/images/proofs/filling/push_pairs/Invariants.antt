use Rattle.std.proofs.Common.{◌≡◌, ◌+◌, ◌*◌, ◌≤◌, ◌++◌, length, drop}
use Rattle.shapes.specs.Shapes.{shapes_of}
use Rattle.images.specs.Filled.{pairs_for}
use Rattle.images.proofs.filling.push_pairs.Given as goal

abbrev pub invariant-loop-shape : goal.invariant-loop-shape
invariant-loop-shape l =
    (l.image.items ++ pairs_for l.offset (drop l.shape-index (shapes_of l.table)) ≡ l.fn.image.items ++ pairs_for (8 * length (shapes_of l.table) + 4) (shapes_of l.table))
    × (l.offset ≤ 132 + 32768 * l.shape-index)
