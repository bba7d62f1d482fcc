use Rattle.std.proofs.Common.{◌≡◌, ℕ, ◌<◌, ltb, List, is_ok, refl, ap, ◌∙◌, arith}
use Rattle.std.proofs.lemmas.List.{get_or-take, length-take, length-take-le}
use Rattle.indices.specs.Places.{unplace, product}
use Rattle.shapes.specs.Shapes.{extents_of}
use Rattle.shapes.proofs.Asked.{some_since, never_refused}
use Rattle.shapes.proofs.Extents.{proper_parts, each_solid}
use Rattle.runs.proofs.Writes.{write_none, write_takes, write_step, write_done}
use Rattle.runs.proofs.writing.write_all.Goals as goal

pub loop-k-init : goal.loop-k-init
loop-k-init g c =
    write_none g.K.Kind.algebra (extents_of c.args.reach.now) c.args.v c.args.tray.now (g.S.Store.meaning c.args.s.now)

pub returns-in_err-write : goal.returns-in_err-write
returns-in_err-write g c =
    let outer = c.args.reach.now in let wide = extents_of outer in let k = c.loop-k.k in
    let lt : k < product wide = omega (arith, c.size.ensures, c.loop-k-test.true, length-take c.size.result c.args.tray.now) in
    let x = c.x-item.is ∙ get_or-take c.size.result c.args.tray.now k c.x-item.result (omega (arith, lt, c.size.ensures)) in
    let s : List ℕ = c.as_slice.result.now in
    let e : s ≡ unplace wide k = c.as_slice.ensures ∙ (some_since (ltb k (product wide)) _ _ c.in-Some.ensures).1 in
    never_refused _ _ _ _ c.in_err-write.ensures.answer
    (write_takes g.K.Kind.algebra wide c.args.v c.args.tray.now (g.S.Store.meaning c.args.s.now) c.requires.wide k (g.S.Store.meaning c.loop-k.s) c.loop-k.invariant
    (each_solid wide (proper_parts wide outer.sound).extents) lt c.requires.known c.requires.room s e c.x-item.result x c.requires.spare)

pub loop-k-preserved : goal.loop-k-preserved
loop-k-preserved g c =
    let outer = c.args.reach.now in let wide = extents_of outer in let k = c.loop-k.k in
    let lt : k < product wide = omega (arith, c.size.ensures, c.loop-k-test.true, length-take c.size.result c.args.tray.now) in
    let x = c.x-item.is ∙ get_or-take c.size.result c.args.tray.now k c.x-item.result (omega (arith, lt, c.size.ensures)) in
    let s : List ℕ = c.as_slice.result.now in
    let e : s ≡ unplace wide k = c.as_slice.ensures ∙ (some_since (ltb k (product wide)) _ _ c.in-Some.ensures).1 in
    write_step g.K.Kind.algebra wide c.args.v c.args.tray.now (g.S.Store.meaning c.args.s.now) c.requires.wide k (g.S.Store.meaning c.loop-k.s) c.loop-k.invariant
    (each_solid wide (proper_parts wide outer.sound).extents) lt c.requires.known c.requires.room s e c.x-item.result x (g.S.Store.meaning c.write.new.self) (is_ok c.write.result) (ap is_ok c.in_ok-write.was)
    c.write.ensures.written

pub returns : goal.returns
returns g c =
    record {
      all = refl;
      wrote = write_done g.K.Kind.algebra (extents_of c.args.reach.now) c.args.v c.args.tray.now (g.S.Store.meaning c.args.s.now) c.requires.wide c.loop-k.k
          (g.S.Store.meaning c.loop-k.s) (omega (arith, c.size.ensures, c.loop-k-test.false, length-take-le c.size.result c.args.tray.now (omega (arith, c.size.ensures, c.requires.room)))) c.loop-k.invariant;
    }
