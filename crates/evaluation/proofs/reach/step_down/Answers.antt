use Rattle.std.proofs.Common.{ap, ◌∙◌, subst, arith}
use Rattle.sheets.specs.declared.term.Term.TheVariants.{Pointwise}
use Rattle.sheets.specs.Sheets.{contents}
use Rattle.sheets.specs.Terms.{UnfoldsTo}
use Rattle.sheets.proofs.Judged.{judged}
use Rattle.evaluation.proofs.Sources.{variable_traced, left_traced, right_traced, first_traced, second_traced, first_turned, second_turned, other_turned, before_contracted, between_contracted, after_contracted}
use Rattle.evaluation.proofs.reach.step_down.Goals as goal

pub returns-in-Variable : goal.returns-in-Variable
returns-in-Variable c =
    let s = contents c.args.sheet.now in
    variable_traced s (judged c.args.sheet.now) c.args.k c.requires.there _ _ (subst (UnfoldsTo s c.args.k) c.in-Variable.is c.requires.unfolds)

pub returns-then-d-rank : goal.returns-then-d-rank
returns-then-d-rank c =
    let s = contents c.args.sheet.now in
    left_traced s (judged c.args.sheet.now) c.args.k c.requires.there c.in-Outer.a c.in-Outer.b c.args.d
    (subst (UnfoldsTo s c.args.k) c.in-Outer.is c.requires.unfolds) (omega (arith, c.if-d-rank.true, c.rank-rank.ensures))

pub returns-else-d-rank : goal.returns-else-d-rank
returns-else-d-rank c =
    let s = contents c.args.sheet.now in
    right_traced s (judged c.args.sheet.now) c.args.k c.requires.there c.in-Outer.a c.in-Outer.b c.args.d c.rank-rank.result
    (subst (UnfoldsTo s c.args.k) c.in-Outer.is c.requires.unfolds) c.rank-rank.ensures c.if-d-rank.false

pub returns-in-Times : goal.returns-in-Times
returns-in-Times c =
    let s = contents c.args.sheet.now in
    second_traced s (judged c.args.sheet.now) c.args.k c.requires.there c.in-Pointwise.a c.in-Pointwise.b c.args.d
    (subst (UnfoldsTo s c.args.k) (c.in-Pointwise.is ∙ ap (λ op. Pointwise op c.in-Pointwise.a c.in-Pointwise.b) c.in-Times.is) c.requires.unfolds)

pub returns-in_default : goal.returns-in_default
returns-in_default c =
    let s = contents c.args.sheet.now in
    first_traced s (judged c.args.sheet.now) c.args.k c.requires.there c.in-Pointwise.operation c.in-Pointwise.a c.in-Pointwise.b c.args.d
    c.in_default.not-Times (subst (UnfoldsTo s c.args.k) c.in-Pointwise.is c.requires.unfolds)

pub returns-then-d-m : goal.returns-then-d-m
returns-then-d-m c =
    let s = contents c.args.sheet.now in
    first_turned s (judged c.args.sheet.now) c.args.k c.requires.there c.in-Turned.a c.in-Turned.m c.in-Turned.n c.args.d
    (subst (UnfoldsTo s c.args.k) c.in-Turned.is c.requires.unfolds) c.if-d-m.true

pub returns-then-d-n : goal.returns-then-d-n
returns-then-d-n c =
    let s = contents c.args.sheet.now in
    second_turned s (judged c.args.sheet.now) c.args.k c.requires.there c.in-Turned.a c.in-Turned.m c.in-Turned.n c.args.d
    (subst (UnfoldsTo s c.args.k) c.in-Turned.is c.requires.unfolds) c.if-d-n.true

pub returns-else-d-n : goal.returns-else-d-n
returns-else-d-n c =
    let s = contents c.args.sheet.now in
    other_turned s (judged c.args.sheet.now) c.args.k c.requires.there c.in-Turned.a c.in-Turned.m c.in-Turned.n c.args.d
    (subst (UnfoldsTo s c.args.k) c.in-Turned.is c.requires.unfolds) c.if-d-m.false c.if-d-n.false

pub returns-then-d-m-2 : goal.returns-then-d-m-2
returns-then-d-m-2 c =
    let s = contents c.args.sheet.now in
    before_contracted s (judged c.args.sheet.now) c.args.k c.requires.there c.in-Contracted.a c.in-Contracted.m c.in-Contracted.n c.args.d
    (subst (UnfoldsTo s c.args.k) c.in-Contracted.is c.requires.unfolds) c.if-d-m-2.true

pub returns-then-d-n-2 : goal.returns-then-d-n-2
returns-then-d-n-2 c =
    let s = contents c.args.sheet.now in
    between_contracted s (judged c.args.sheet.now) c.args.k c.requires.there c.in-Contracted.a c.in-Contracted.m c.in-Contracted.n c.args.d
    (subst (UnfoldsTo s c.args.k) c.in-Contracted.is c.requires.unfolds) c.if-d-m-2.false c.if-d-n-2.true

pub returns-else-d-n-2 : goal.returns-else-d-n-2
returns-else-d-n-2 c =
    let s = contents c.args.sheet.now in
    after_contracted s (judged c.args.sheet.now) c.args.k c.requires.there c.in-Contracted.a c.in-Contracted.m c.in-Contracted.n c.args.d
    (subst (UnfoldsTo s c.args.k) c.in-Contracted.is c.requires.unfolds) c.if-d-m-2.false c.if-d-n-2.false
