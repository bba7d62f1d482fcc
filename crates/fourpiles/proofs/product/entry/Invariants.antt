use Rattle.std.proofs.Common.{◌≡◌, [], ◌∷◌}
use Rattle.elements.specs.Algebra.{total}
use Rattle.fourpiles.proofs.product.entry.Given as goal

abbrev pub invariant-loop-l : goal.invariant-loop-l
invariant-loop-l g l =
    l.sum ≡ total g.K.Kind.algebra
    (λ k. g.K.Kind.algebra.times ((g.S.Store.meaning l.s).at l.t.left (l.i ∷ k ∷ [])) ((g.S.Store.meaning l.s).at l.t.right (k ∷ l.j ∷ []))) l.l
