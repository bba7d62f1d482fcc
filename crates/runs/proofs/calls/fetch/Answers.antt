use Rattle.std.proofs.Common.{◌≡◌, true, ◌&&◌, sym, ap, ◌∙◌}
use Rattle.std.proofs.lemmas.Bool.{cond-true}
use Rattle.indices.specs.Places.{pick, has, within}
use Rattle.refusals.specs.Refusals.{done, refused}
use Rattle.shapes.proofs.Asked.{done_since}
use Rattle.sheets.specs.Sheets.{contents}
use Rattle.stores.specs.Meaning.{in_shape}
use Rattle.runs.specs.Plain.{in_sheet}
use Rattle.runs.proofs.Taken.{reads}
use Rattle.runs.proofs.calls.fetch.Goals as goal

pub returns : goal.returns
returns g c =
    let b = g.S.Store.meaning c.args.run.now.store in let d = contents c.args.run.now.sheet in
    let v = c.args.v in let i = c.args.index.now in
    let law = g.met.S.Store.lawful c.args.run.now.store in
    let h : in_sheet d v i ≡ true = (done_since (in_sheet d v i) (tt {0}) (tt {0}) 20 0 c.in_ok-in_shape.ensures).0 in
    let k : in_shape b v i ≡ true = ap (λ ss. has ss v && within (pick ss v) i) (sym c.args.run.now.fits) ∙ h in
    c.read.ensures ∙ reads g.K.Kind.algebra b law v i k ∙ sym (cond-true (in_sheet d v i) (done (b.at v i)) (refused 20 0) h)
