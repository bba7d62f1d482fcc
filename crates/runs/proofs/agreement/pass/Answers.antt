use Rattle.std.proofs.Common.{◌≡◌, ◌+◌, ◌<◌, [], ◌∷◌, ◌++◌, length, get_or, set, take, sym, refl, ap, ◌∙◌, subst, arith}
use Rattle.sheets.specs.Sheets.{contents}
use Rattle.runs.specs.Agreement.{Point, Moves, end}
use Rattle.runs.specs.declared.list.Entry.{Entry}
use Rattle.runs.specs.Lists.{call_of, reply_of, calls_of}
use Rattle.runs.proofs.Chains.{chain_next, told_same, told_more, told_next}
use Rattle.runs.proofs.agreement.pass.Goals as goal

pub loop-entry-init : goal.loop-entry-init
loop-entry-init g c = record { left_sheet = refl; right_sheet = refl; calls = refl; left = end; right = end }

pub loop-entry-preserved : goal.loop-entry-preserved
loop-entry-preserved g c =
    let xs = c.loop-entry.entries in let k = c.loop-entry.entry-index in let inv = c.loop-entry.invariant in
    let lt : k < length xs = omega (arith, c.loop-entry-test.true, c.loop-entry.auto.entries) in let room = length c.args.tray.now in
    let x = get_or xs k c.entry-item.result in
    let is = ap (get_or xs k) c.entry-item.is in
    let l = c.perform-left.ensures in let r = c.perform-right.ensures in
    let e : Entry g.row.K.Denot = record { call = x.call; left = c.perform-left.result; right = c.perform-right.result } in
    let calls : take (k + 1) (calls_of room c.args.entries.now) ≡ take k (calls_of room c.args.entries.now) ++ call_of room x.call ∷ [] =
    ap (take (k + 1)) (sym inv.calls) ∙ told_next (λ t. call_of room t.call) xs k x lt is ∙ ap (λ t. take k t ++ call_of room x.call ∷ []) inv.calls in
    let p : Point g.row.K.Denot = record { meaning = g.S.Store.meaning c.loop-entry.one.store; next = c.loop-entry.one.next } in let q : Point g.row.K.Denot = record { meaning = g.S.Store.meaning c.perform-left.new.run.store; next = c.perform-left.new.run.next } in
    let u : Point g.row.K.Denot = record { meaning = g.T.Store.meaning c.loop-entry.two.store; next = c.loop-entry.two.next } in let w : Point g.row.K.Denot = record { meaning = g.T.Store.meaning c.perform-right.new.run.store; next = c.perform-right.new.run.next } in
    let lm = subst (λ t. Moves g.K.Kind.algebra (contents t) (call_of room x.call) p (reply_of c.perform-left.result) q) inv.left_sheet
    (subst (λ t. Moves g.K.Kind.algebra (contents c.loop-entry.one.sheet) (call_of t x.call) p (reply_of c.perform-left.result) q) c.loop-entry.auto.tray l.moves) in
    let rm = subst (λ t. Moves g.K.Kind.algebra (contents t) (call_of room x.call) u (reply_of c.perform-right.result) w) inv.right_sheet
    (subst (λ t. Moves g.K.Kind.algebra (contents c.loop-entry.two.sheet) (call_of t x.call) u (reply_of c.perform-right.result) w) (c.perform-left.auto.tray ∙ c.loop-entry.auto.tray) r.moves) in
    record {
      left_sheet = l.sheet ∙ inv.left_sheet;
      right_sheet = r.sheet ∙ inv.right_sheet;
      calls = told_same (λ t. call_of room t.call) xs (set xs k e) k e x lt is refl refl ∙ inv.calls;
      left = chain_next inv.left lm calls (told_more (λ t. reply_of t.left) xs (set xs k e) k e lt refl);
      right = chain_next inv.right rm calls (told_more (λ t. reply_of t.right) xs (set xs k e) k e lt refl);
    }
