use Rattle.std.proofs.Common.{◌≡◌, true, false, ◌&&◌, sym, ap, ◌∙◌, subst, rules}
use Rattle.std.proofs.lemmas.Bool.{cond-true}
use Rattle.indices.specs.Places.{pick, has, within}
use Rattle.refusals.specs.Refusals.{done, refused}
use Rattle.shapes.proofs.Asked.{done_since, refused_since}
use Rattle.sheets.specs.Sheets.{contents}
use Rattle.stores.specs.Meaning.{Written}
use Rattle.padding.proofs.Cleared.{ok_since}
use Rattle.runs.specs.Plain.{in_sheet}
use Rattle.runs.proofs.Taken.{takes, put_moved}
use Rattle.runs.proofs.calls.put.Goals as goal

pub returns-clause-answer : goal.returns-clause-answer
returns-clause-answer g c =
    let s = c.args.run.now in let d = contents s.sheet in let v = c.args.v in let i = c.args.index.now in
    let h : in_sheet d v i ≡ true = (done_since (in_sheet d v i) (tt {0}) (tt {0}) 20 0 c.in_ok-in_shape.ensures).0 in
    let k = ap (λ ss. has ss v && within (pick ss v) i) (sym s.fits) ∙ h in
    c.write.ensures.answer ∙ takes g.K.Kind.algebra (g.S.Store.meaning s.store) (g.met.S.Store.lawful s.store) v i k c.args.x
    ∙ sym (cond-true (in_sheet d v i) (done tt) (refused 20 0) h)

pub returns-clause-moved : goal.returns-clause-moved
returns-clause-moved g c =
    let s = c.args.run.now in let d = contents s.sheet in let v = c.args.v in let i = c.args.index.now in let x = c.args.x in
    let b = g.S.Store.meaning s.store in let o = g.S.Store.meaning c.write.new.self in
    let h : in_sheet d v i ≡ true = (done_since (in_sheet d v i) (tt {0}) (tt {0}) 20 0 c.in_ok-in_shape.ensures).0 in
    let k = ap (λ ss. has ss v && within (pick ss v) i) (sym s.fits) ∙ h in
    let t = ok_since c.write.result (c.write.ensures.answer ∙ takes g.K.Kind.algebra b (g.met.S.Store.lawful s.store) v i k x) in
    put_moved g.K.Kind.algebra d b.reach b o s.next v i x h (subst (λ r. Written r b v i x o) t c.write.ensures.written)

pub returns-in_err-in_shape-clause-moved : goal.returns-in_err-in_shape-clause-moved
returns-in_err-in_shape-clause-moved g c =
    let h : in_sheet (contents c.args.run.now.sheet) c.args.v c.args.index.now ≡ false = (refused_since (in_sheet (contents c.args.run.now.sheet) c.args.v c.args.index.now) (tt {0}) 20 0 _ _ c.in_err-in_shape.ensures).0 in
    search rules
