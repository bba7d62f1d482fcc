use Rattle.std.proofs.Common.{take, drop, ap, ◌∙◌, arith}
use Rattle.indices.specs.Coordinates.{coordinates}
use Rattle.sheets.specs.Rules.{info_at}
use Rattle.sheets.specs.Sheets.{contents}
use Rattle.evaluation.specs.Machine.{setting, goes}
use Rattle.evaluation.proofs.Spans.{seen_alike}
use Rattle.evaluation.proofs.Stacks.{on_top, room_for}
use Rattle.evaluation.proofs.Steps.{rank_at, variable_reached, down_variable, outer_forks, pointwise_forks, fork_room, down_fork, turned_fits, down_turned, sum_there, sum_dimension, sum_extendable, sum_room, down_sum}
use Rattle.evaluation.proofs.Unwrapped.{some_there, some_value}
use Rattle.evaluation.proofs.Working.{works}
use Rattle.evaluation.proofs.site.Site.enter.Goals as goal

pub fetch-requires : goal.fetch-requires
fetch-requires g c =
    let w = works c.args.self.now.sheet.now g.met.K.Kind.lawful (g.met.S.Store.lawful c.args.self.now.store.now) c.args.self.now.fits in
    variable_reached w c.requires.sound c.requires.unfolds c.in-Variable.is

pub returns-in-Variable : goal.returns-in-Variable
returns-in-Variable g c =
    let w = works c.args.self.now.sheet.now g.met.K.Kind.lawful (g.met.S.Store.lawful c.args.self.now.store.now) c.args.self.now.fits in
    down_variable w c.requires.sound c.requires.unfolds c.in-Variable.is c.fetch.result c.fetch.ensures

pub push-requires : goal.push-requires
push-requires g c =
    let w = works c.args.self.now.sheet.now g.met.K.Kind.lawful (g.met.S.Store.lawful c.args.self.now.store.now) c.args.self.now.fits in
    (omega arith, room_for _ (fork_room w c.requires.sound (outer_forks w c.requires.sound c.requires.unfolds c.in-Outer.is)))

pub returns-in-Outer : goal.returns-in-Outer
returns-in-Outer g c =
    let w = works c.args.self.now.sheet.now g.met.K.Kind.lawful (g.met.S.Store.lawful c.args.self.now.store.now) c.args.self.now.fits in
    let f = outer_forks w c.requires.sound c.requires.unfolds c.in-Outer.is in
    let r = c.rank-rank.ensures ∙ rank_at w c.in-Outer.a f.left.there in
    let i = coordinates c.args.at in
    down_fork w c.requires.sound c.first.result c.rest.result f (c.first.ensures ∙ ap (λ j. take j i) r) (c.rest.ensures ∙ ap (λ j. drop j i) r) (on_top _ c.push.ensures.items)

pub push-requires-in-Pointwise : goal.push-requires-in-Pointwise
push-requires-in-Pointwise g c =
    let w = works c.args.self.now.sheet.now g.met.K.Kind.lawful (g.met.S.Store.lawful c.args.self.now.store.now) c.args.self.now.fits in
    (omega arith, room_for _ (fork_room w c.requires.sound (pointwise_forks w c.requires.sound c.requires.unfolds c.in-Pointwise.is)))

pub returns-in-Pointwise : goal.returns-in-Pointwise
returns-in-Pointwise g c =
    let w = works c.args.self.now.sheet.now g.met.K.Kind.lawful (g.met.S.Store.lawful c.args.self.now.store.now) c.args.self.now.fits in
    let t = setting g.K.Kind.algebra (g.S.Store.meaning c.args.self.now.store.now) (contents c.args.self.now.sheet.now) in
    let f = pointwise_forks w c.requires.sound c.requires.unfolds c.in-Pointwise.is in
    let a = c.in-Pointwise.a in let b = c.in-Pointwise.b in
    let i = coordinates c.args.at in
    down_fork w c.requires.sound c.seen-in-Pointwise.result c.seen.result f
    (c.seen-in-Pointwise.ensures ∙ seen_alike (info_at (contents c.args.self.now.sheet.now).infos a).extents (goes t a) i (rank_at w a f.left.there))
    (c.seen.ensures ∙ seen_alike (info_at (contents c.args.self.now.sheet.now).infos b).extents (goes t b) i (rank_at w b f.right.there))
    (on_top _ c.push-in-Pointwise.ensures.items)

pub unwrap-requires : goal.unwrap-requires
unwrap-requires g c =
    let w = works c.args.self.now.sheet.now g.met.K.Kind.lawful (g.met.S.Store.lawful c.args.self.now.store.now) c.args.self.now.fits in
    some_there coordinates _ _ _ c.exchanged.ensures (turned_fits w c.requires.sound c.requires.unfolds c.in-Turned.is)

pub returns-in-Turned : goal.returns-in-Turned
returns-in-Turned g c =
    let w = works c.args.self.now.sheet.now g.met.K.Kind.lawful (g.met.S.Store.lawful c.args.self.now.store.now) c.args.self.now.fits in
    down_turned w c.requires.sound c.requires.unfolds c.in-Turned.is c.unwrap.result (some_value coordinates _ _ _ _ c.exchanged.ensures c.unwrap.ensures)

pub rounded_of-requires : goal.rounded_of-requires
rounded_of-requires g c =
    let w = works c.args.self.now.sheet.now g.met.K.Kind.lawful (g.met.S.Store.lawful c.args.self.now.store.now) c.args.self.now.fits in
    let d = sum_dimension w c.requires.sound c.requires.unfolds c.in-Contracted.is in
    record { there = sum_there w c.requires.sound c.requires.unfolds c.in-Contracted.is; low = d.0; high = d.1 }

pub push-requires-in-Contracted : goal.push-requires-in-Contracted
push-requires-in-Contracted g c =
    let w = works c.args.self.now.sheet.now g.met.K.Kind.lawful (g.met.S.Store.lawful c.args.self.now.store.now) c.args.self.now.fits in
    (omega arith, room_for _ (sum_room w c.requires.sound c.requires.unfolds c.in-Contracted.is))

pub unwrap-requires-in-Contracted : goal.unwrap-requires-in-Contracted
unwrap-requires-in-Contracted g c =
    let w = works c.args.self.now.sheet.now g.met.K.Kind.lawful (g.met.S.Store.lawful c.args.self.now.store.now) c.args.self.now.fits in
    some_there coordinates _ _ _ c.extended.ensures (sum_extendable w c.requires.sound c.requires.unfolds c.in-Contracted.is)

pub returns-in-Contracted : goal.returns-in-Contracted
returns-in-Contracted g c =
    let w = works c.args.self.now.sheet.now g.met.K.Kind.lawful (g.met.S.Store.lawful c.args.self.now.store.now) c.args.self.now.fits in
    down_sum w c.requires.sound c.requires.unfolds c.in-Contracted.is c.unwrap-in-Contracted.result c.rounded_of.ensures c.zero_code.ensures (some_value coordinates _ _ _ _ c.extended.ensures c.unwrap-in-Contracted.ensures) (on_top _ c.push-in-Contracted.ensures.items)
