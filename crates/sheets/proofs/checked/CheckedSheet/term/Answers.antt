use Rattle.std.proofs.Common.{◌≡◌, ℕ, true, Some, None, Option, sym, ap, ◌∙◌, subst}
use Rattle.shapes.proofs.Asked.{some_since}
use Rattle.sheets.specs.declared.term.Term.{Term}
use Rattle.sheets.specs.Forms.{form_of}
use Rattle.sheets.specs.Sheets.{Contents, contents}
use Rattle.sheets.specs.Terms.{node_there, node_at, term_as, term_of, Unfolds, Told}
use Rattle.sheets.proofs.Judged.{judged}
use Rattle.sheets.proofs.checked.CheckedSheet.term.Goals as goal

told : (c : Contents) (k : ℕ) (o : Option Term) → node_there c k ≡ true → Unfolds c k o → Told c k o
told c k None h u = absurd u
told c k (Some t) h u = (h, u)

pub returns-clause-unfolds : goal.returns-clause-unfolds
returns-clause-unfolds c =
    let w = contents c.args.self.now in let k = c.args.k in
    let p = some_since (node_there w k) c.in_ok-node.field-0 (node_at w.nodes k) c.in_ok-node.ensures in
    let e : term_of w.nodes k ≡ c.made_of.result = sym (c.made_of.ensures ∙ ap (λ nd. term_as nd (form_of nd.kind)) p.1) in
    subst (Told w k) e (told w k (term_of w.nodes k) p.0 ((judged c.args.self.now).unfolds k p.0))
