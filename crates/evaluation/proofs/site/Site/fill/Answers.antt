use Rattle.std.proofs.Common.{◌≡◌, ◌&&◌, leb, ◌++◌, length, drop, Some, None, sym, ap, ◌∙◌, arith}
use Rattle.std.proofs.lemmas.Bool.{and_from, le-leb, both_ways, cond-true}
use Rattle.std.proofs.lemmas.List.{length-take-le}
use Rattle.indices.specs.Coordinates.{coordinates}
use Rattle.indices.specs.Places.{has, pick, product, unplace, within}
use Rattle.shapes.specs.Shapes.{extents_of}
use Rattle.shapes.proofs.Asked.{some_since, none_since}
use Rattle.shapes.proofs.Extents.{proper_parts, each_solid}
use Rattle.shapes.proofs.Numbering.{within_unplace}
use Rattle.sheets.specs.Sheets.{contents}
use Rattle.sheets.proofs.Judged.{judged}
use Rattle.evaluation.specs.Tray.{counted, statement_of, target, roomy, worked}
use Rattle.evaluation.specs.Value.{node_value}
use Rattle.evaluation.proofs.Filled.{filled_more, filled_all}
use Rattle.evaluation.proofs.Targets.{given_one, given_is, given_known, given_there, given_reach}
use Rattle.evaluation.proofs.Unwrapped.{some_value}
use Rattle.evaluation.proofs.site.Site.fill.Goals as goal

pub returns-in_err-reach : goal.returns-in_err-reach
returns-in_err-reach g c =
    let b = g.S.Store.meaning c.args.self.now.store.now in let d = contents c.args.self.now.sheet.now in
    let st = c.in_ok-statement.statement in
    let k = given_known b (g.met.S.Store.lawful c.args.self.now.store.now) d (judged c.args.self.now.sheet.now) c.args.self.now.fits c.args.n st c.in_ok-statement.ensures in
    absurd (both_ways (has b.shapes st.variable) (none_since (has b.shapes st.variable) (pick b.reach st.variable) c.in_err-reach.ensures) k)

pub evaluate-requires : goal.evaluate-requires
evaluate-requires g c =
    let b = g.S.Store.meaning c.args.self.now.store.now in let d = contents c.args.self.now.sheet.now in
    let law = g.met.S.Store.lawful c.args.self.now.store.now in let all = judged c.args.self.now.sheet.now in
    let st = c.in_ok-statement.statement in let wide = extents_of c.in_ok-reach.reach in let k = c.loop-k.k in
    let e = (some_since (has b.shapes st.variable) wide (pick b.reach st.variable) c.in_ok-reach.ensures).1 in
    let l = length-take-le c.size-size.result c.args.tray.now c.if-tray-size.false in
    let w = within_unplace wide k (each_solid wide (proper_parts wide c.in_ok-reach.reach.sound).extents) (omega (arith, l, c.loop-k-test.true, c.size-size.ensures)) in
    record {
      there = given_there b law d all c.args.self.now.fits c.args.n st c.in_ok-statement.ensures;
      reached =
          ap (λ es. within es (coordinates c.unwrap.result)) (given_reach b law d all c.args.self.now.fits c.args.n st c.in_ok-statement.ensures ∙ sym e)
          ∙ ap (within wide) (some_value coordinates _ _ _ _ c.index.ensures c.unwrap.ensures) ∙ w;
    }

pub loop-k-preserved : goal.loop-k-preserved
loop-k-preserved g c =
    let b = g.S.Store.meaning c.args.self.now.store.now in let d = contents c.args.self.now.sheet.now in
    let node = c.in_ok-statement.statement.node in let wide = extents_of c.in_ok-reach.reach in let k = c.loop-k.k in
    let x : c.evaluate.result ≡ node_value g.K.Kind.algebra b d node (unplace wide k) = c.evaluate.ensures ∙ ap (node_value g.K.Kind.algebra b d node) (some_value coordinates _ _ _ _ c.index.ensures c.unwrap.ensures) in
    rw x (filled_more (λ n. node_value g.K.Kind.algebra b d node (unplace wide n)) k c.loop-k.place-items (omega (arith, c.loop-k-test.true, c.loop-k.auto.place-items)) c.loop-k.invariant)

pub returns : goal.returns
returns g c =
    let a = g.K.Kind.algebra in let b = g.S.Store.meaning c.args.self.now.store.now in let d = contents c.args.self.now.sheet.now in
    let law = g.met.S.Store.lawful c.args.self.now.store.now in let all = judged c.args.self.now.sheet.now in
    let n = c.args.n in let st = c.in_ok-statement.statement in let wide = extents_of c.in_ok-reach.reach in
    let p = given_one b law d all c.args.self.now.fits n st c.in_ok-statement.ensures in
    let is : st ≡ statement_of d n = given_is b law d all c.args.self.now.fits n st c.in_ok-statement.ensures in
    let e : wide ≡ target b d n = (some_since (has b.shapes st.variable) wide (pick b.reach st.variable) c.in_ok-reach.ensures).1 ∙ ap (λ t. pick b.reach t.variable) is in
    let z = product (target b d n) in let tray = c.args.tray.now in
    let size : c.size-size.result ≡ z = c.size-size.ensures ∙ ap product e in
    let l = length-take-le c.size-size.result tray c.if-tray-size.false in
    let o = and_from (leb 1 n && leb n (length d.statements)) (leb z (length tray)) p (le-leb z (length tray) (omega (arith, c.if-tray-size.false, size))) in
    let f = filled_all _ c.loop-k.k z c.loop-k.place-items (omega (arith, l, c.loop-k-test.false, c.loop-k.auto.k-end, size)) (omega (arith, c.loop-k-test.false, c.loop-k.auto.place-items)) c.loop-k.invariant in
    record {
      answer = ap Some size ∙ sym (cond-true (roomy b d n (length tray)) (Some z) None o);
      tray =
          ap (λ u. u ++ drop c.size-size.result tray) f
          ∙ ap (λ u. counted (λ j. node_value a b d st.node (unplace wide j)) 0 z ++ drop u tray) size
          ∙ ap (λ u. counted (λ j. node_value a b d u.node (unplace wide j)) 0 z ++ drop z tray) is
          ∙ ap (λ u. counted (λ j. node_value a b d (statement_of d n).node (unplace u j)) 0 z ++ drop z tray) e
          ∙ sym (cond-true (roomy b d n (length tray)) (worked a b d n ++ drop z tray) tray o);
    }
