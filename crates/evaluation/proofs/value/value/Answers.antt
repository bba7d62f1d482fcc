use Rattle.std.proofs.Common.{sym, arith}
use Rattle.std.proofs.lemmas.Bool.{and_parts}
use Rattle.indices.proofs.Within.{within_length}
use Rattle.indices.specs.Places.{within}
use Rattle.shapes.proofs.Held.{unheld}
use Rattle.sheets.specs.Sheets.{contents}
use Rattle.sheets.specs.Terms.{node_there}
use Rattle.sheets.proofs.Judged.{judged}
use Rattle.evaluation.specs.Value.{node_reach}
use Rattle.evaluation.proofs.Padded.{padding_law}
use Rattle.evaluation.proofs.Steps.{rank_at}
use Rattle.evaluation.proofs.Working.{works}
use Rattle.evaluation.proofs.value.value.Goals as goal

pub returns-in_err-site-clause-law : goal.returns-in_err-site-clause-law
returns-in_err-site-clause-law g c = padding_law g.K.Kind.algebra g.met.K.Kind.lawful _ (g.met.S.Store.lawful c.args.s.now)

pub returns-then-not-in_reach-clause-law : goal.returns-then-not-in_reach-clause-law
returns-then-not-in_reach-clause-law g c = padding_law g.K.Kind.algebra g.met.K.Kind.lawful _ (g.met.S.Store.lawful c.args.s.now)

pub returns-in_err-at : goal.returns-in_err-at
returns-in_err-at g c =
    let site = c.in_ok-site.site in let i = c.args.index.now in
    let w = works site.sheet.now g.met.K.Kind.lawful (g.met.S.Store.lawful site.store.now) site.fits in
    let es = node_reach (g.S.Store.meaning site.store.now) (contents site.sheet.now) c.args.k in
    let p = and_parts (node_there (contents site.sheet.now) c.args.k) (within es i) (sym c.if-not-in_reach.ensures) in
    let l = within_length es i p.1 in
    let r = rank_at w c.args.k p.0 in
    let m = ((judged site.sheet.now).nodes c.args.k p.0).rank in
    let n = unheld i c.try_from.result c.try_from.ensures c.in_err-at.ensures.value in
    absurd (omega arith)

pub returns-clause-law : goal.returns-clause-law
returns-clause-law g c = padding_law g.K.Kind.algebra g.met.K.Kind.lawful _ (g.met.S.Store.lawful c.args.s.now)
