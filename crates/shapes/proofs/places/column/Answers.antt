use Rattle.std.proofs.Common.{[], ◌∷◌, length, arith, rules}
use Rattle.std.proofs.lemmas.List.{length-append}
use Rattle.std.proofs.lemmas.Slice.Zip.{zip_turn, zip_end}
use Rattle.shapes.proofs.Numbering.{within_at, within_length, count_more}
use Rattle.shapes.proofs.Columns.{block_fits, column_next, column_fits, column_all}
use Rattle.shapes.proofs.places.column.Goals as goal

pub overflow_sub-n : goal.overflow_sub-n
overflow_sub-n c =
    let es = c.args.es.now in let i = c.args.index.now in let d = length c.loop-e.yielded in
    let t = zip_turn es i c.loop-e.yielded c.into_iter-e-iterator.result c.loop-e.e-iterator c.next.new.self c.next.result (search rules) (search rules) c.loop-e.yielded_by _ c.in-Some.is c.next.ensures.steps in
    rw (t.3 0) (within_at es i d c.requires.inside t.0).0

pub overflow_mul-n : goal.overflow_mul-n
overflow_mul-n c =
    let es = c.args.es.now in let i = c.args.index.now in let d = length c.loop-e.yielded in
    let t = zip_turn es i c.loop-e.yielded c.into_iter-e-iterator.result c.loop-e.e-iterator c.next.new.self c.next.result (search rules) (search rules) c.loop-e.yielded_by _ c.in-Some.is c.next.ensures.steps in
    rw (t.3 0) (omega (arith, c.requires.places, column_fits es i c.requires.inside d c.loop-e.n c.loop-e.block t.0 c.loop-e.invariant.1))

pub overflow_add-n : goal.overflow_add-n
overflow_add-n c =
    let es = c.args.es.now in let i = c.args.index.now in let d = length c.loop-e.yielded in
    let t = zip_turn es i c.loop-e.yielded c.into_iter-e-iterator.result c.loop-e.e-iterator c.next.new.self c.next.result (search rules) (search rules) c.loop-e.yielded_by _ c.in-Some.is c.next.ensures.steps in
    rw (t.3 0) (omega (arith, c.requires.places, column_fits es i c.requires.inside d c.loop-e.n c.loop-e.block t.0 c.loop-e.invariant.1))

pub overflow_mul-block : goal.overflow_mul-block
overflow_mul-block c =
    let es = c.args.es.now in let i = c.args.index.now in let d = length c.loop-e.yielded in
    let t = zip_turn es i c.loop-e.yielded c.into_iter-e-iterator.result c.loop-e.e-iterator c.next.new.self c.next.result (search rules) (search rules) c.loop-e.yielded_by _ c.in-Some.is c.next.ensures.steps in
    rw (t.2 0) (omega (arith, c.requires.places, block_fits es i c.requires.inside d c.loop-e.block t.0 c.loop-e.invariant.0))

pub loop-e-preserved : goal.loop-e-preserved
loop-e-preserved c =
    let es = c.args.es.now in let i = c.args.index.now in let d = length c.loop-e.yielded in
    let t = zip_turn es i c.loop-e.yielded c.into_iter-e-iterator.result c.loop-e.e-iterator c.next.new.self c.next.result (search rules) (search rules) c.loop-e.yielded_by _ c.in-Some.is c.next.ensures.steps in
    rw (length-append c.loop-e.yielded ((c.in-Some.e, c.in-Some.i) ∷ []), t.2 0, t.3 0)
    (count_more es d c.loop-e.block t.0 c.loop-e.invariant.0, column_next es i c.requires.inside d c.loop-e.n c.loop-e.block t.0 c.loop-e.invariant.1)

pub returns : goal.returns
returns c =
    let es = c.args.es.now in let i = c.args.index.now in
    let e = zip_end es i c.loop-e.yielded c.into_iter-e-iterator.result c.loop-e.e-iterator c.next.new.self c.next.result (search rules) (search rules) c.loop-e.yielded_by c.in-None.is c.next.ensures.steps in
    column_all es i c.requires.inside (length c.loop-e.yielded) c.loop-e.n c.loop-e.block (omega (arith, e, within_length es i c.requires.inside)) c.loop-e.invariant.1
