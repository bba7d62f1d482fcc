use Rattle.fourpiles.proofs.Products.{rows_more}
use Rattle.fourpiles.proofs.product.multiply.Goals as goal

pub loop-i-preserved : goal.loop-i-preserved
loop-i-preserved g c =
    let m = g.S.Store.meaning c.args.s.now in let n = g.S.Store.meaning c.loop-i.s in let o = g.S.Store.meaning c.row.new.s in
    let t = c.args.t in let a = g.K.Kind.algebra in
    rows_more a t a.zero m n o (g.met.S.Store.lawful c.args.s.now) c.requires c.loop-i.i c.loop-i-test.true c.loop-i.invariant c.row.ensures.filled
