use Rattle.std.proofs.Common.{◌≡◌, ◌+◌, ◌<◌, length, sym, ◌∙◌, arith}
use Rattle.shapes.specs.Shapes.{shapes_of, extents_of}
use Rattle.shapes.proofs.Asked.{done_same}
use Rattle.shapes.proofs.Tables.{shape_next, pick_next, counted, listed}
use Rattle.padding.proofs.Cleared.{cleared_step}
use Rattle.padding.proofs.clearing.clear_all.Goals as goal

pub loop-k-preserved : goal.loop-k-preserved
loop-k-preserved g c =
    let k = c.loop-k.k in let ss = shapes_of c.args.own.now in
    let b = g.S.Store.meaning c.args.below.now in let rs = b.shapes in
    let e : shapes_of c.table.result.now ≡ rs = c.table.ensures ∙ c.loop-k.invariant.shapes in
    let l : k < length ss = omega (arith, c.loop-k-test.true, c.shapes-inner-items.ensures.count) in
    let m : k < length rs = omega (arith, c.requires) in
    let p = listed ss _ k _ c.shapes-inner-items.ensures.shapes c.loop-k-test.true c.inner-item.is in
    let q = rw e at c.in-Ok.ensures in
    cleared_step g.K.Kind.algebra.zero ss b k (g.S.Store.meaning c.loop-k.below) (g.S.Store.meaning c.clear.new.below)
    (extents_of c.inner-item.result) (extents_of c.in-Ok.outer) (g.met.S.Store.lawful c.args.below.now)
    (pick_next ss k ∙ sym p)
    (pick_next rs k ∙ sym (done_same _ _ _ q (shape_next rs k m)))
    (counted (length rs) (k + 1) (omega arith) (omega arith)) c.loop-k.invariant c.clear.ensures
