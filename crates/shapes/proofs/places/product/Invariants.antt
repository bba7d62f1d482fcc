use Rattle.std.proofs.Common.{◌≡◌, ◌*◌, ◌^◌, ◌≤◌, drop}
use Rattle.indices.specs.Places.{product}
use Rattle.shapes.proofs.places.product.Given as goal

abbrev pub invariant-loop-e : goal.invariant-loop-e
invariant-loop-e l = (l.n * product (drop l.e-index l.es) ≡ product l.es) × (l.n ≤ 64 ^ l.e-index)
