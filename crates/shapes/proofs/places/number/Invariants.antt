use Rattle.std.proofs.Common.{◌≡◌, ◌+◌, ◌*◌, length, drop}
use Rattle.indices.specs.Places.{product, place}
use Rattle.shapes.proofs.places.number.Given as goal

abbrev pub invariant-loop-e : goal.invariant-loop-e
invariant-loop-e l = l.n * product (drop (length l.yielded) l.es) + place (drop (length l.yielded) l.es) (drop (length l.yielded) l.index) ≡ place l.es l.index
