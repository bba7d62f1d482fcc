use Rattle.std.proofs.Common.{◌≡◌, ◌≤◌, ◌++◌, length, take, drop}
use Rattle.indices.specs.Places.{product, unplace}
use Rattle.shapes.proofs.places.index_of.Given as goal

abbrev pub invariant-loop-d : goal.invariant-loop-d
invariant-loop-d l =
    (l.block ≡ product (drop l.d l.es)) × (l.left ≤ l.number) × (length l.coords ≡ 4)
    × (take l.d l.coords ++ unplace (drop l.d l.es) l.left ≡ unplace l.es l.number)
