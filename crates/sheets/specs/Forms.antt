-- The forms of nodes.
--   form_of   the form of a kind, 1 to 8
--   tidy      every field that the form does not use is zero
use Rattle.std.specs.Prelude.{ℕ, Bool, cond, ◌&&◌, Some, None, Option, ◌==◌}
use Rattle.sheets.specs.declared.form.Form.{Form}
use Rattle.sheets.specs.declared.form.Form.TheVariants.{Variable, Outer, Pointwise, Transposition, Contraction}
use Rattle.sheets.specs.declared.node.Node.{Node}
use Rattle.sheets.specs.declared.term.Operation.TheVariants.{Plus, Minus, Times, Over}

abbrev pub form_of : ℕ → Option Form
form_of k =
    cond (k == 1) (Some Variable)
    (cond (k == 2) (Some Outer)
    (cond (k == 3) (Some (Pointwise Plus))
    (cond (k == 4) (Some (Pointwise Minus))
    (cond (k == 5) (Some (Pointwise Times))
    (cond (k == 6) (Some (Pointwise Over))
    (cond (k == 7) (Some Transposition)
    (cond (k == 8) (Some Contraction) None)))))))

abbrev pub tidy : Form → Node → Bool
tidy Variable nd = nd.b == 0 && (nd.m == 0 && nd.n == 0)
tidy Outer nd = nd.m == 0 && nd.n == 0
tidy (Pointwise op) nd = nd.m == 0 && nd.n == 0
tidy Transposition nd = nd.b == 0
tidy Contraction nd = nd.b == 0
