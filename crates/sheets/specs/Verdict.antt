-- The verdict on the tables of a sheet: which question is the first that is answered no.
--   infos_from        the questions about the nodes, each node's before the next one's; what is known of them where all pass
--   statements_from   the questions about the statements, 17 and 18
--   tables            both; what is known of the nodes where all pass
--   verdict           the whole: 4, 12, and then the tables
--   finds             an answer is this, as a test
use Rattle.std.specs.Prelude.{ℕ, ◌+◌, Bool, true, false, cond, ◌&&◌, List, [], ◌∷◌, ◌++◌, length, ◌==◌, nat_le}
use Rattle.shapes.specs.declared.declaration.Declaration.{Declaration}
use Rattle.indices.specs.Dimensions.{same}
use Rattle.indices.specs.Places.{pick, has}
use Rattle.refusals.specs.Refusals.{Answer, done, refused, and_then}
use Rattle.shapes.specs.Shapes.{declared}
use Rattle.sheets.specs.declared.node.Node.{Node}
use Rattle.sheets.specs.declared.node.Statement.{Statement}
use Rattle.sheets.specs.Rules.{Info, info_at, node_answer}

-- k is the number of the first node of the list, and is what is known of those before it
abbrev pub infos_from : List (List ℕ) → ℕ → List Info → List Node → Answer (List Info)
infos_from ss k is [] = done is
infos_from ss k is (nd ∷ nds) = and_then (node_answer ss k is nd) (λ i. infos_from ss (k + 1) (is ++ i ∷ []) nds)

-- s is the number of the first statement of the list
abbrev pub statements_from : List (List ℕ) → List Info → ℕ → List Statement → Answer Unit
statements_from ss is s [] = done tt
statements_from ss is s (st ∷ sts) =
    cond (has ss st.variable && (nat_le 1 st.node && nat_le st.node (length is)))
    (cond (same (pick ss st.variable) (info_at is st.node).extents) (statements_from ss is (s + 1) sts) (refused 18 s))
    (refused 17 s)

abbrev pub tables : List (List ℕ) → List Node → List Statement → Answer (List Info)
tables ss ns sts = and_then (infos_from ss 1 [] ns) (λ is. and_then (statements_from ss is 1 sts) (λ _. done is))

abbrev pub verdict : List Declaration → List Node → List Statement → Answer (List Info)
verdict ds ns sts =
    and_then (declared ds) (λ ss.
    cond (nat_le (length ns) 256 && nat_le (length sts) 64) (tables ss ns sts) (refused 12 0))

-- what is known of the nodes is that; and it is what the tables answer
abbrev pub same_infos : List Info → List Info → Bool
same_infos [] [] = true
same_infos [] (j ∷ js) = false
same_infos (i ∷ is) [] = false
same_infos (i ∷ is) (j ∷ js) = (same i.extents j.extents && (i.depth == j.depth && i.nesting == j.nesting)) && same_infos is js

abbrev pub finds : List Info → Answer (List Info) → Bool
finds is (done js) = same_infos is js
finds is (refused n p) = false
