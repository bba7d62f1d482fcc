-- What is known of the nodes, looked up and compared. Assumes nothing.
use Rattle.std.proofs.Common.{◌≡◌, ℕ, zero, suc, ◌-◌, ◌<◌, ◌≤◌, true, ◌&&◌, eqb, List, [], ◌∷◌, length, get_or, sym, refl, ap, ◌∙◌, arith}
use Rattle.std.proofs.lemmas.Bool.{and_from, and_parts, eq-eqb, eqb-true, false≢true}
use Rattle.std.proofs.lemmas.List.{get_or_past}
use Rattle.indices.proofs.Equal.{same_equal, same_self}
use Rattle.indices.specs.Dimensions.{same}
use Rattle.refusals.specs.Refusals.{Answer, done, refused}
use Rattle.sheets.specs.Rules.{Info, nothing, info_at}
use Rattle.sheets.specs.Verdict.{same_infos, finds}

pub info_at_index : (is : List Info) (j : ℕ) → 1 ≤ j → info_at is j ≡ get_or is (j - 1) nothing
info_at_index is zero h = absurd (omega arith)
info_at_index is (suc j) h = let e : j ≡ suc j - 1 = omega arith in ap (λ n. get_or is n nothing) e

pub info_none : (is : List Info) (j : ℕ) → j < 1 → info_at is j ≡ nothing
info_none is zero h = refl
info_none is (suc j) h = absurd (omega arith)

pub info_past : (is : List Info) (j : ℕ) → length is < j → info_at is j ≡ nothing
info_past is j h = info_at_index is j (omega arith) ∙ get_or_past is (j - 1) nothing (omega arith)

-- what is found is what is there
same_infos_self : (is : List Info) → same_infos is is ≡ true
same_infos_self [] = refl
same_infos_self (i ∷ is) =
    let a = same i.extents i.extents in let b = eqb i.depth i.depth in let d = eqb i.nesting i.nesting in
    and_from (a && (b && d)) (same_infos is is)
    (and_from a (b && d) (same_self i.extents) (and_from b d (eq-eqb i.depth i.depth refl) (eq-eqb i.nesting i.nesting refl)))
    (same_infos_self is)

pub found : (is : List Info) (a : Answer (List Info)) → a ≡ done is → finds is a ≡ true
found is a e = ap (finds is) e ∙ same_infos_self is

-- and the way back
alike : (x y : Info) → x.extents ≡ y.extents → x.depth ≡ y.depth → x.nesting ≡ y.nesting → x ≡ y
alike x y e d n =
    ap (λ es. record { extents = es; depth = x.depth; nesting = x.nesting }) e
    ∙ ap (λ m. record { extents = y.extents; depth = m; nesting = x.nesting }) d
    ∙ ap (λ m. record { extents = y.extents; depth = y.depth; nesting = m }) n

same_infos_equal : (is js : List Info) → same_infos is js ≡ true → is ≡ js
same_infos_equal [] [] h = refl
same_infos_equal [] (j ∷ js) h = absurd (false≢true h)
same_infos_equal (i ∷ is) [] h = absurd (false≢true h)
same_infos_equal (i ∷ is) (j ∷ js) h =
    let a = same i.extents j.extents in let b = eqb i.depth j.depth in let d = eqb i.nesting j.nesting in
    let p = and_parts (a && (b && d)) (same_infos is js) h in
    let q = and_parts a (b && d) p.0 in
    let r = and_parts b d q.1 in
    let x = alike i j (same_equal i.extents j.extents q.0) (eqb-true i.depth j.depth r.0) (eqb-true i.nesting j.nesting r.1) in
    let xs = same_infos_equal is js p.1 in
    cc

pub found_done : (is : List Info) (a : Answer (List Info)) → finds is a ≡ true → a ≡ done is
found_done is (done js) h = ap done (sym (same_infos_equal is js h))
found_done is (refused n p) h = absurd (false≢true h)
