use Rattle.std.proofs.Common.{◌<◌, ◌≤◌, length, get_or, sym, ◌∙◌, subst, arith}
use Rattle.std.proofs.lemmas.Bool.{and_right, and_from}
use Rattle.indices.specs.Places.{within}
use Rattle.shapes.proofs.Numbering.{within_uneven}
use Rattle.sheets.specs.Sheets.{contents}
use Rattle.sheets.specs.Terms.{node_there}
use Rattle.sheets.proofs.Judged.{judged}
use Rattle.evaluation.specs.Value.{node_reach}
use Rattle.evaluation.proofs.Sources.{ranked, told_there, below_first, past_limit, up_to_limit, all_within}
use Rattle.evaluation.proofs.site.Site.in_reach.Goals as goal
use Rattle.evaluation.proofs.site.Site.in_reach.Goals.{then-coordinate-lt1-via-then-coordinate-lt1, then-coordinate-lt1-via-else-coordinate-lt1+then-coordinate-rounded_of}

pub returns-then-index-rank : goal.returns-then-index-rank
returns-then-index-rank g c =
    let b = g.S.Store.meaning c.args.self.now.store.now in let sheet = contents c.args.self.now.sheet.now in
    let es = node_reach b sheet c.args.k in let cs = c.args.index.now in
    let t = told_there sheet c.args.k c.term.result c.term.ensures.unfolds c.if-is_none.ensures in
    let n = ranked b (g.met.S.Store.lawful c.args.self.now.store.now) sheet (judged c.args.self.now.sheet.now) c.args.self.now.fits c.args.k t in
    sym (and_right (node_there sheet c.args.k) (within es cs) (within_uneven es cs (λ e. c.if-index-rank.true (sym e ∙ sym n ∙ sym c.rank.ensures))))

pub rounded_of-requires : goal.rounded_of-requires
rounded_of-requires g c =
    let b = g.S.Store.meaning c.args.self.now.store.now in let sheet = contents c.args.self.now.sheet.now in
    let t = told_there sheet c.args.k c.term.result c.term.ensures.unfolds c.if-is_none.ensures in
    let n = ranked b (g.met.S.Store.lawful c.args.self.now.store.now) sheet (judged c.args.self.now.sheet.now) c.args.self.now.fits c.args.k t in
    record {
      there = t;
      low = omega arith;
      high = omega (arith, n, c.rank.ensures, c.if-index-rank.false, c.loop-d-test.true);
    }

pub returns-then-coordinate-lt1 : goal.returns-then-coordinate-lt1
returns-then-coordinate-lt1 g c =
    let b = g.S.Store.meaning c.args.self.now.store.now in let sheet = contents c.args.self.now.sheet.now in
    let es = node_reach b sheet c.args.k in let cs = c.args.index.now in let d = c.loop-d.d in
    let t = told_there sheet c.args.k c.term.result c.term.ensures.unfolds c.if-is_none.ensures in
    let n = ranked b (g.met.S.Store.lawful c.args.self.now.store.now) sheet (judged c.args.self.now.sheet.now) c.args.self.now.fits c.args.k t in
    let l : d < length es = omega (arith, n, c.rank.ensures, c.if-index-rank.false, c.loop-d-test.true) in
    sym (and_right (node_there sheet c.args.k) (within es cs) (sym c.loop-d.invariant ∙ elim c.then-coordinate-lt1.branch [
      | then-coordinate-lt1-via-then-coordinate-lt1 w ↦ below_first es cs d l c.loop-d-test.true w.if-coordinate-lt1.true
      | then-coordinate-lt1-via-else-coordinate-lt1+then-coordinate-rounded_of w ↦ past_limit es cs d l c.loop-d-test.true (subst (λ x. x < get_or cs d 0) w.rounded_of.ensures w.if-coordinate-rounded_of.true)
    ]))

pub loop-d-preserved : goal.loop-d-preserved
loop-d-preserved g c =
    let b = g.S.Store.meaning c.args.self.now.store.now in let sheet = contents c.args.self.now.sheet.now in
    let es = node_reach b sheet c.args.k in let cs = c.args.index.now in let d = c.loop-d.d in
    let t = told_there sheet c.args.k c.term.result c.term.ensures.unfolds c.if-is_none.ensures in
    let n = ranked b (g.met.S.Store.lawful c.args.self.now.store.now) sheet (judged c.args.self.now.sheet.now) c.args.self.now.fits c.args.k t in
    let l : d < length es = omega (arith, n, c.rank.ensures, c.if-index-rank.false, c.loop-d-test.true) in
    up_to_limit es cs d l c.loop-d-test.true c.if-coordinate-lt1.false (subst (λ x. get_or cs d 0 ≤ x) c.rounded_of.ensures c.if-coordinate-rounded_of.false) ∙ c.loop-d.invariant

pub returns : goal.returns
returns g c =
    let b = g.S.Store.meaning c.args.self.now.store.now in let sheet = contents c.args.self.now.sheet.now in
    let es = node_reach b sheet c.args.k in let cs = c.args.index.now in let d = c.loop-d.d in
    let t = told_there sheet c.args.k c.term.result c.term.ensures.unfolds c.if-is_none.ensures in
    let n = ranked b (g.met.S.Store.lawful c.args.self.now.store.now) sheet (judged c.args.self.now.sheet.now) c.args.self.now.fits c.args.k t in
    let l : length es ≤ d = omega (arith, n, c.rank.ensures, c.if-index-rank.false, c.loop-d-test.false) in
    sym (and_from (node_there sheet c.args.k) (within es cs) t (sym c.loop-d.invariant ∙ all_within es cs d l c.loop-d-test.false))
