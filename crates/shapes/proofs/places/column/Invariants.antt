use Rattle.std.proofs.Common.{◌≡◌, ◌+◌, ◌*◌, length, drop}
use Rattle.indices.specs.Places.{product, column}
use Rattle.shapes.proofs.places.column.Given as goal

abbrev pub invariant-loop-e : goal.invariant-loop-e
invariant-loop-e l =
    (l.block * product (drop (length l.yielded) l.es) ≡ product l.es)
    × (l.n + l.block * column (drop (length l.yielded) l.es) (drop (length l.yielded) l.index) ≡ column l.es l.index)
