use Rattle.std.proofs.Common.{◌≡◌, ◌+◌, ◌-◌, ◌*◌}
use Rattle.images.specs.Layout.{codes_of}
use Rattle.images.proofs.opening.check_part.Given as goal

abbrev pub invariant-loop-n : goal.invariant-loop-n
invariant-loop-n g l =
    codes_of g.K.Kind.algebra l.bytes (l.at + 8 * l.n) (l.first + l.n) (l.cells - l.n) ≡ codes_of g.K.Kind.algebra l.bytes l.at l.first l.cells
