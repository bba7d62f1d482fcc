use Rattle.std.proofs.Common.{◌≡◌, ℕ, zero, suc, ◌-◌, ◌<◌, List, sym, refl, ◌∙◌, arith}
use Rattle.std.proofs.lemmas.List.{get_or_past, get_or-take}
use Rattle.indices.specs.Places.{at1}
use Rattle.indices.specs.Coordinates.{coordinates}
use Rattle.indices.proofs.Entries.{entries_length}
use Rattle.indices.proofs.Entries.{at1_at}
use Rattle.indices.proofs.index.Index.entry.Goals as goal
use Rattle.indices.proofs.index.Index.entry.Goals.{then-d-lt1-via-then-d-lt1, then-d-lt1-via-else-d-lt1+then-d-self}

none : (es : List ℕ) (d : ℕ) → d < 1 → at1 es d ≡ 0
none es zero h = refl
none es (suc d) h = absurd (omega arith)

pub returns-then-d-lt1 : goal.returns-then-d-lt1
returns-then-d-lt1 c =
    let i = c.args.self.now in let d = c.args.d in
    elim c.then-d-lt1.branch [
      | then-d-lt1-via-then-d-lt1 w ↦ sym (none (coordinates i) d w.if-d-lt1.true)
      | then-d-lt1-via-else-d-lt1+then-d-self w ↦ sym (at1_at (coordinates i) d w.if-d-lt1.false ∙ get_or_past (coordinates i) (d - 1) 0 (omega (arith, entries_length i, w.if-d-self.true)))
    ]

pub returns : goal.returns
returns c =
    let i = c.args.self.now in let d = c.args.d in
    sym (at1_at (coordinates i) d c.if-d-lt1.false ∙ get_or-take i.len i.coords (d - 1) 0 (omega (arith, c.if-d-lt1.false, c.if-d-self.false)))
