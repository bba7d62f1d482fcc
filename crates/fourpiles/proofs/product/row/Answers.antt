use Rattle.std.proofs.Common.{◌+◌, true, [], ◌∷◌, refl, subst, arith}
use Rattle.shapes.proofs.Asked.{never_refused, done_same}
use Rattle.stores.specs.Meaning.{Written}
use Rattle.fourpiles.proofs.Products.{writes, filled_one, conforms_after, row_more}
use Rattle.fourpiles.proofs.product.row.Goals as goal

pub returns-in_err-write : goal.returns-in_err-write
returns-in_err-write g c =
    let n = g.S.Store.meaning c.loop-j.s in let t = c.args.t in let a = g.K.Kind.algebra in
    let k = conforms_after a t _ n _ c.loop-j.invariant c.requires.conforms in
    let w = writes a.zero n (g.met.S.Store.lawful c.loop-j.s) t.result t.rows t.columns k.result c.args.i (c.loop-j.j + 1)
    c.requires.low c.requires.high (omega arith) (omega (arith, c.loop-j-test.true)) a c.in_ok-x.x in
    never_refused _ _ _ _ c.in_err-write.ensures.answer w

pub loop-j-preserved : goal.loop-j-preserved
loop-j-preserved g c =
    let m = g.S.Store.meaning c.args.s.now in let n = g.S.Store.meaning c.loop-j.s in let o = g.S.Store.meaning c.write.new.self in
    let t = c.args.t in let a = g.K.Kind.algebra in let i = c.args.i in let j = c.loop-j.j in
    let x = done_same _ _ _ c.in_ok-x.ensures refl in
    let w = c.in_ok-write.ensures.written in
    let h = filled_one a t n o i (j + 1) (subst (λ y. Written true n t.result (i ∷ (j + 1) ∷ []) y o) x w) in
    row_more a t a.zero m n o (g.met.S.Store.lawful c.args.s.now) c.requires.conforms i j c.requires.low c.requires.high c.loop-j-test.true c.loop-j.invariant h
