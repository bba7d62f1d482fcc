use Rattle.std.proofs.Common.{◌≡◌, true, ◌&&◌, leb, ◌++◌, length, drop, sym, refl, ap, ◌∙◌, subst, arith}
use Rattle.std.proofs.lemmas.Bool.{cond-true, cond-false, both_ways, true≢false}
use Rattle.evaluation.specs.Tray.{statement_of, target, roomy, worked}
use Rattle.evaluation.specs.Value.{fits}
use Rattle.indices.specs.Places.{pick, has, product}
use Rattle.shapes.specs.Shapes.{extents_of}
use Rattle.shapes.proofs.Asked.{some_since, none_since}
use Rattle.sheets.specs.Sheets.{contents}
use Rattle.sheets.proofs.Judged.{judged}
use Rattle.runs.specs.Plain.{works}
use Rattle.runs.specs.Writing.{SpareZero, Wrote}
use Rattle.runs.proofs.Stepping.{idle, none_left, no_work, answer_none, work, answer_done, variable_known, few_places, workable, spare_zero, step_moved}
use Rattle.runs.proofs.calls.step.Goals as goal

pub returns-in_default : goal.returns-in_default
returns-in_default g c =
    let a = g.K.Kind.algebra in let b = g.S.Store.meaning c.args.run.now.store in let d = contents c.args.run.now.sheet in
    let n = c.args.run.now.next in let size = length c.args.tray.now in
    let law = g.met.S.Store.lawful c.args.run.now.store in let all = judged c.args.run.now.sheet in
    let laws = g.met.K.Kind.lawful in let fit = c.args.run.now.fits in let long = c.if-tray-lt4096.false in
    let out = none_left d n size long (none_since (leb 1 n && leb n (length d.statements)) (statement_of d n) c.in_default.ensures) c.args.run.now.low in
    let no = no_work d n size long out in
    record {
      answer = answer_none d n size long out;
      sheet = refl;
      moved = idle a d b.reach b n size no;
      same = λ _. (refl, refl);
      tray = sym (cond-false (works d n size) (worked a b d n ++ drop (product (target b d n)) c.args.tray.now) c.args.tray.now no);
    }

pub returns-in_default-reach_of : goal.returns-in_default-reach_of
returns-in_default-reach_of g c =
    let a = g.K.Kind.algebra in let b = g.S.Store.meaning c.args.run.now.store in let d = contents c.args.run.now.sheet in
    let n = c.args.run.now.next in let size = length c.args.tray.now in
    let law = g.met.S.Store.lawful c.args.run.now.store in let all = judged c.args.run.now.sheet in
    let laws = g.met.K.Kind.lawful in let fit = c.args.run.now.fits in let long = c.if-tray-lt4096.false in
    let p = some_since (leb 1 n && leb n (length d.statements)) c.in-Some.statement (statement_of d n) c.in-Some.ensures in
    let st = p.1 in let there = p.0 in
    let v = c.in-Some.statement.variable in
    let k : has b.shapes v ≡ true = ap (λ t. has b.shapes t.variable) st ∙ variable_known d n size long there a laws b law all fit in
    absurd (both_ways (has b.shapes v) (none_since (has b.shapes v) (pick b.reach v) c.in_default-reach_of.ensures) k)

pub returns-in_default-work_out : goal.returns-in_default-work_out
returns-in_default-work_out g c =
    let a = g.K.Kind.algebra in let b = g.S.Store.meaning c.args.run.now.store in let d = contents c.args.run.now.sheet in
    let n = c.args.run.now.next in let size = length c.args.tray.now in
    let law = g.met.S.Store.lawful c.args.run.now.store in let all = judged c.args.run.now.sheet in
    let laws = g.met.K.Kind.lawful in let fit = c.args.run.now.fits in let long = c.if-tray-lt4096.false in
    let p = some_since (leb 1 n && leb n (length d.statements)) c.in-Some.statement (statement_of d n) c.in-Some.ensures in
    let st = p.1 in let there = p.0 in
    let w = workable d n size long there a laws b law all fit in
    absurd (both_ways (fits b d && roomy b d n size) (none_since (fits b d && roomy b d n size) (product (target b d n)) c.in_default-work_out.ensures.answer) w)

pub write_all-requires : goal.write_all-requires
write_all-requires g c =
    let a = g.K.Kind.algebra in let b = g.S.Store.meaning c.args.run.now.store in let d = contents c.args.run.now.sheet in
    let n = c.args.run.now.next in let size = length c.args.tray.now in
    let law = g.met.S.Store.lawful c.args.run.now.store in let all = judged c.args.run.now.sheet in
    let laws = g.met.K.Kind.lawful in let fit = c.args.run.now.fits in let long = c.if-tray-lt4096.false in
    let p = some_since (leb 1 n && leb n (length d.statements)) c.in-Some.statement (statement_of d n) c.in-Some.ensures in
    let st = p.1 in let there = p.0 in
    let v = c.in-Some.statement.variable in
    let q : v ≡ (statement_of d n).variable = ap (λ t. t.variable) st in
    let xs = c.work_out.new.tray in
    let w = workable d n size long there a laws b law all fit in
    let e : xs ≡ worked a b d n ++ drop (product (target b d n)) c.args.tray.now =
    c.in-Some-work_out.ensures.tray ∙ cond-true (fits b d && roomy b d n size) (worked a b d n ++ drop (product (target b d n)) c.args.tray.now) c.args.tray.now w in
    let wide = (some_since (has b.shapes v) (extents_of c.in-Some-reach_of.reach) (pick b.reach v) c.in-Some-reach_of.ensures).1 in
    let f = few_places d n size long there a laws b law all fit in
    let k : product (extents_of c.in-Some-reach_of.reach) ≡ product (target b d n) = ap product (wide ∙ ap (pick b.reach) q) in
    record {
      known = ap (has b.shapes) q ∙ variable_known d n size long there a laws b law all fit;
      wide = sym wide;
      room = omega (arith, k, f, long, c.work_out.auto.tray);
      spare = subst (λ u. SpareZero a.zero b u xs) (sym q) (spare_zero d n size long there a laws b law all fit xs c.args.tray.now e);
    }

pub returns : goal.returns
returns g c =
    let a = g.K.Kind.algebra in let b = g.S.Store.meaning c.args.run.now.store in let d = contents c.args.run.now.sheet in
    let n = c.args.run.now.next in let size = length c.args.tray.now in
    let law = g.met.S.Store.lawful c.args.run.now.store in let all = judged c.args.run.now.sheet in
    let laws = g.met.K.Kind.lawful in let fit = c.args.run.now.fits in let long = c.if-tray-lt4096.false in
    let p = some_since (leb 1 n && leb n (length d.statements)) c.in-Some.statement (statement_of d n) c.in-Some.ensures in
    let st = p.1 in let there = p.0 in
    let v = c.in-Some.statement.variable in
    let q : v ≡ (statement_of d n).variable = ap (λ t. t.variable) st in
    let xs = c.work_out.new.tray in
    let w = workable d n size long there a laws b law all fit in
    let e : xs ≡ worked a b d n ++ drop (product (target b d n)) c.args.tray.now =
    c.in-Some-work_out.ensures.tray ∙ cond-true (fits b d && roomy b d n size) (worked a b d n ++ drop (product (target b d n)) c.args.tray.now) c.args.tray.now w in
    record {
      answer = answer_done d n size long there;
      sheet = refl;
      moved = step_moved d n size long there a laws b law all fit xs c.args.tray.now e (g.S.Store.meaning c.write_all.new.s)
          (subst (λ u. Wrote a.zero b u xs (g.S.Store.meaning c.write_all.new.s)) q c.write_all.ensures.wrote);
      same = λ f. absurd (true≢false f);
      tray = e ∙ sym (cond-true (works d n size) (worked a b d n ++ drop (product (target b d n)) c.args.tray.now) c.args.tray.now (work d n size long there));
    }
