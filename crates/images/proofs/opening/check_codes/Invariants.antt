use Rattle.std.proofs.Common.{◌≡◌, ◌+◌, ◌*◌, ◌≤◌, drop}
use Rattle.shapes.specs.Shapes.{shapes_of}
use Rattle.images.specs.Layout.{codes_from, codes}
use Rattle.images.proofs.opening.check_codes.Given as goal

abbrev pub invariant-loop-k : goal.invariant-loop-k
invariant-loop-k g l =
    (codes_from g.K.Kind.algebra l.bytes (l.k + 1) l.first (drop l.k (shapes_of l.table)) ≡ codes g.K.Kind.algebra l.bytes (shapes_of l.table))
    × (l.first ≤ 4096 * l.k + 1)
