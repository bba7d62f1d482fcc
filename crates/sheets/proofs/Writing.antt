-- The last of the statements that assign a variable, in two lists that begin alike. Assumes nothing.
use Rattle.std.proofs.Common.{◌≡◌, ℕ, zero, suc, ◌<◌, ◌≤◌, List, ◌∷◌, get_or, take, Some, None, Option, sym, refl, ap, ◌∙◌, arith}
use Rattle.std.proofs.lemmas.List.{get_or-take}
use Rattle.sheets.specs.declared.node.Statement.{Statement}
use Rattle.sheets.specs.Language.{blank}
use Rattle.sheets.specs.Writers.{Silent, Writer}

-- of two lists that are alike before s, one does as well as the other
module _ (ps qs : List Statement) (v s : ℕ) (alike : (j : ℕ) → 1 ≤ j → j < s → get_or (blank ∷ qs) j blank ≡ get_or (blank ∷ ps) j blank) where
  quiet : (k : ℕ) → Silent ps v k s → Silent qs v k s
  quiet k q j a b w = q j a b (ap (λ st. st.variable) (sym (alike j (omega (arith, a)) b)) ∙ w)

  pub moved : (o : Option ℕ) → Writer ps v s o → Writer qs v s o
  moved (Some k) h = (h.0, (h.1.0, (ap (λ st. st.variable) (alike k h.0 h.1.0) ∙ h.1.1.0, quiet k h.1.1.1)))
  moved None h = quiet 0 h

pub before : (xs : List Statement) (n m j : ℕ) → 1 ≤ j → j ≤ n → j ≤ m → get_or (blank ∷ take m xs) j blank ≡ get_or (blank ∷ take n xs) j blank
before xs n m zero a b c = refl
before xs n m (suc j) a b c = get_or-take m xs j blank (omega arith) ∙ sym (get_or-take n xs j blank (omega arith))
