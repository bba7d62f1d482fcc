use Rattle.std.proofs.Common.{◌≡◌, ◌*◌, ◌≤◌, take}
use Rattle.indices.specs.Places.{total}
use Rattle.shapes.specs.Shapes.{shapes_of}
use Rattle.shapes.proofs.table.Table.before.Given as goal

abbrev pub invariant-loop-shape : goal.invariant-loop-shape
invariant-loop-shape l = (l.sum ≡ total (take l.shape-index (shapes_of l.self))) × (l.sum ≤ 4096 * l.shape-index)
