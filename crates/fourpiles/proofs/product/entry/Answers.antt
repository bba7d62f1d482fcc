use Rattle.std.proofs.Common.{◌+◌, [], ◌∷◌, sym, ap, ◌∙◌, arith}
use Rattle.shapes.proofs.Asked.{never_refused, done_same}
use Rattle.fourpiles.proofs.Products.{reads, total_more}
use Rattle.fourpiles.proofs.product.entry.Goals as goal

pub returns-in_err-x : goal.returns-in_err-x
returns-in_err-x g c =
    let m = g.S.Store.meaning c.args.s.now in let t = c.args.t in let k = c.requires.conforms in let l = c.loop-l.l in
    let r = reads g.K.Kind.algebra.zero m (g.met.S.Store.lawful c.args.s.now) t.left t.rows t.inner k.left c.args.i (l + 1)
    c.requires.place.0 c.requires.place.1 (omega arith) (omega (arith, c.loop-l-test.true)) in
    never_refused _ _ _ _ c.in_err-x.ensures r

pub returns-in_err-y : goal.returns-in_err-y
returns-in_err-y g c =
    let m = g.S.Store.meaning c.args.s.now in let t = c.args.t in let k = c.requires.conforms in let l = c.loop-l.l in
    let r = reads g.K.Kind.algebra.zero m (g.met.S.Store.lawful c.args.s.now) t.right t.inner t.columns k.right (l + 1) c.args.j
    (omega arith) (omega (arith, c.loop-l-test.true)) c.requires.place.2 c.requires.place.3 in
    never_refused _ _ _ _ c.in_err-y.ensures r

pub loop-l-preserved : goal.loop-l-preserved
loop-l-preserved g c =
    let m = g.S.Store.meaning c.args.s.now in let t = c.args.t in let k = c.requires.conforms in let l = c.loop-l.l in
    let a = g.K.Kind.algebra in let i = c.args.i in let j = c.args.j in
    let law = g.met.S.Store.lawful c.args.s.now in
    let x = done_same _ _ _ c.in_ok-x.ensures
    (reads a.zero m law t.left t.rows t.inner k.left i (l + 1) c.requires.place.0 c.requires.place.1 (omega arith) (omega (arith, c.loop-l-test.true))) in
    let y = done_same _ _ _ c.in_ok-y.ensures
    (reads a.zero m law t.right t.inner t.columns k.right (l + 1) j (omega arith) (omega (arith, c.loop-l-test.true)) c.requires.place.2 c.requires.place.3) in
    c.sum-sum.ensures
    ∙ ap (λ u. a.plus u c.product.result) c.loop-l.invariant
    ∙ ap (a.plus _) (c.product.ensures ∙ ap (λ u. a.times u c.in_ok-y.y) x ∙ ap (a.times (m.at t.left (i ∷ (l + 1) ∷ []))) y)
    ∙ sym (total_more a (λ n. a.times (m.at t.left (i ∷ n ∷ [])) (m.at t.right (n ∷ j ∷ []))) l)
