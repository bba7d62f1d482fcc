use Rattle.std.proofs.Common.{◌≡◌, length, take}
use Rattle.sheets.specs.Sheets.{contents}
use Rattle.runs.specs.Agreement.{Chain}
use Rattle.runs.specs.Lists.{calls_of, lefts_of, rights_of}
use Rattle.runs.proofs.agreement.pass.Given as goal

abbrev pub invariant-loop-entry : goal.invariant-loop-entry
invariant-loop-entry g l = record {
  left_sheet : l.one.sheet ≡ l.initial.one.sheet;
  right_sheet : l.two.sheet ≡ l.initial.two.sheet;
  calls : calls_of (length l.initial.tray) l.entries ≡ calls_of (length l.initial.tray) l.initial.entries;
  left : Chain g.K.Kind.algebra (contents l.initial.one.sheet) (record { meaning = g.S.Store.meaning l.initial.one.store; next = l.initial.one.next }) (take l.entry-index (calls_of (length l.initial.tray) l.initial.entries)) (take l.entry-index (lefts_of l.entries)) (record { meaning = g.S.Store.meaning l.one.store; next = l.one.next });
  right : Chain g.K.Kind.algebra (contents l.initial.two.sheet) (record { meaning = g.T.Store.meaning l.initial.two.store; next = l.initial.two.next }) (take l.entry-index (calls_of (length l.initial.tray) l.initial.entries)) (take l.entry-index (rights_of l.entries)) (record { meaning = g.T.Store.meaning l.two.store; next = l.two.next });
}
