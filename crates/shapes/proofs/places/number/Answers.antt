use Rattle.std.proofs.Common.{length, arith, rules}
use Rattle.std.proofs.lemmas.Slice.Zip.{zip_turn, zip_end}
use Rattle.shapes.proofs.Numbering.{number_fits, number_all, within_at, within_length}
use Rattle.shapes.proofs.places.number.Goals as goal

pub overflow_mul-n : goal.overflow_mul-n
overflow_mul-n c =
    let es = c.args.es.now in let i = c.args.index.now in let d = length c.loop-e.yielded in
    let t = zip_turn es i c.loop-e.yielded c.into_iter-e-iterator.result c.loop-e.e-iterator c.next.new.self c.next.result (search rules) (search rules) c.loop-e.yielded_by _ c.in-Some.is c.next.ensures.steps in
    rw (t.2 0) (omega (arith, c.requires.1, number_fits es i c.requires.0 d c.loop-e.n t.0 c.loop-e.invariant))

pub overflow_sub-n : goal.overflow_sub-n
overflow_sub-n c =
    let es = c.args.es.now in let i = c.args.index.now in let d = length c.loop-e.yielded in
    let t = zip_turn es i c.loop-e.yielded c.into_iter-e-iterator.result c.loop-e.e-iterator c.next.new.self c.next.result (search rules) (search rules) c.loop-e.yielded_by _ c.in-Some.is c.next.ensures.steps in
    rw (t.3 0) (within_at es i d c.requires.0 t.0).0

pub overflow_add-n : goal.overflow_add-n
overflow_add-n c =
    let es = c.args.es.now in let i = c.args.index.now in let d = length c.loop-e.yielded in
    let t = zip_turn es i c.loop-e.yielded c.into_iter-e-iterator.result c.loop-e.e-iterator c.next.new.self c.next.result (search rules) (search rules) c.loop-e.yielded_by _ c.in-Some.is c.next.ensures.steps in
    rw (t.2 0, t.3 0) (omega (arith, c.requires.1, number_fits es i c.requires.0 d c.loop-e.n t.0 c.loop-e.invariant))

pub returns : goal.returns
returns c =
    let es = c.args.es.now in let i = c.args.index.now in
    let e = zip_end es i c.loop-e.yielded c.into_iter-e-iterator.result c.loop-e.e-iterator c.next.new.self c.next.result (search rules) (search rules) c.loop-e.yielded_by c.in-None.is c.next.ensures.steps in
    number_all es i c.requires.0 (length c.loop-e.yielded) c.loop-e.n (omega (arith, e, within_length es i c.requires.0)) c.loop-e.invariant
