-- Extents rounded up to a multiple of a vector length. Assumes nothing.
use Rattle.std.specs.Prelude.{◌≡◌, ℕ, zero, suc, ◌+◌, ◌-◌, ◌*◌, ◌/◌, ◌<◌, ◌≤◌, Bool, true, false, cond, List, [], ◌∷◌, length, drop, Some, None, ◌&&◌, ◌==◌, slice_index_or, refl}
use Rattle.std.proofs.Common.{sym, ap, ◌∙◌, mod-lt, add-mul, ⊎_elim, arith}
use Rattle.std.proofs.Math.Nat.{mul-mod_left}
use Rattle.std.proofs.lemmas.Nat.{div-add-mod', mul-le}
use Rattle.std.proofs.lemmas.List.{get_or-map}
use Rattle.std.proofs.lemmas.Bool.{and_parts, le-leb, cases_order, false≢true}
use Rattle.indices.specs.Places.{within, proper, pick, at1}
use Rattle.refusals.specs.Refusals.{done, refused}
use Rattle.shapes.specs.declared.declaration.Declaration.{Declaration}
use Rattle.shapes.specs.Shapes.{zeros, shape_declared, declared_extents}
use Rattle.shapes.proofs.Numbering.{within_parts, within_step}
use Rattle.indices.proofs.Entries.{at1_at}
use Rattle.padding.specs.Rounding.{round, rounded, all_rounded, rounding, rounding_from, LeastMultiple}

pub round_least : (m e : ℕ) → 1 ≤ m → LeastMultiple m e (round m e)
round_least m e h =
    let n = e + (m - 1) in
    let a = div-add-mod' n m in
    let b = mod-lt n {m = m} h in
    record { multiple = mul-mod_left (n / m) m; above = omega arith; near = omega arith }

-- there is one least multiple only
pub least_same : (m e r s : ℕ) → LeastMultiple m e r → LeastMultiple m e s → r ≡ s
least_same m e r s p q =
    let f = div-add-mod' r m in let g = div-add-mod' s m in
    ⊎_elim
    (λ (h : r / m ≡ s / m). omega (arith, f, g, p.multiple, q.multiple, ap (λ n. n * m) h))
    (⊎_elim
    (λ (h : r / m < s / m). absurd (omega (arith, f, g, p.multiple, q.multiple, p.above, q.near, mul-le (r / m + 1) m (s / m) m (omega arith) (omega arith), add-mul (r / m) 1 m)))
    (λ (h : s / m < r / m). absurd (omega (arith, f, g, p.multiple, q.multiple, q.above, p.near, mul-le (s / m + 1) m (r / m) m (omega arith) (omega arith), add-mul (s / m) 1 m))))
    (cases_order (r / m) (s / m))

pub within_rounded : (m : ℕ) (es i : List ℕ) → 1 ≤ m → within es i ≡ true → within (rounded m es) i ≡ true
within_rounded m [] i p h = h
within_rounded m (e ∷ es) [] p h = absurd (false≢true h)
within_rounded m (e ∷ es) (c ∷ i) p h =
    let q = within_parts e c es i h in
    let r = (round_least m e p).above in
    within_step (round m e) c (rounded m es) i q.0 (omega arith) ∙ within_rounded m es i p q.2

at_rounded : (m : ℕ) (ss : List (List ℕ)) (k : ℕ) → slice_index_or (all_rounded m ss) k [] ≡ rounded m (slice_index_or ss k [])
at_rounded m [] k = refl
at_rounded m (s ∷ ss) zero = refl
at_rounded m (s ∷ ss) (suc k) = at_rounded m ss k

pub pick_rounded : (m : ℕ) (ss : List (List ℕ)) (v : ℕ) → pick (all_rounded m ss) v ≡ rounded m (pick ss v)
pick_rounded m ss zero = refl
pick_rounded m ss (suc k) = at_rounded m ss k

pub at1_rounded : (m : ℕ) (es : List ℕ) (d : ℕ) → 1 ≤ d → d ≤ length es → at1 (rounded m es) d ≡ round m (at1 es d)
at1_rounded m es d p q = at1_at (rounded m es) d p ∙ get_or-map (round m) es (d - 1) 0 0 (omega arith) ∙ ap (round m) (sym (at1_at es d p))

-- what is not refused is every shape, rounded
rounded_since : (w rs : List (List ℕ)) (m k : ℕ) (ss : List (List ℕ)) → done w ≡ rounding_from rs m k ss → w ≡ rs
rounded_since w rs m k [] h = cc
rounded_since w rs m k (s ∷ ss) h = by (proper (rounded m s)) h (rounded_since w rs m (k + 1) ss)
  where
    by : (b : Bool) → done w ≡ cond b (rounding_from rs m (k + 1) ss) (refused 10 k) → (done w ≡ rounding_from rs m (k + 1) ss → w ≡ rs) → w ≡ rs
    by true h rest = rest h
    by false h rest = absurd (let z : ◌≡◌ {A = ℕ} 0 1 = cc in omega arith)

pub rounding_since : (w : List (List ℕ)) (m : ℕ) (ss : List (List ℕ)) → done w ≡ rounding m ss → w ≡ all_rounded m ss
rounding_since w m ss h = rounded_since w (all_rounded m ss) m 1 ss h

-- no extent beyond those that were set
pub zeros_drop : (es : List ℕ) (n : ℕ) → zeros es ≡ true → zeros (drop n es) ≡ true
zeros_drop es zero h = h
zeros_drop [] (suc n) h = h
zeros_drop (e ∷ es) (suc n) h = zeros_drop es n (and_parts (e == 0) (zeros es) h).1

and_yes : (p q : Bool) → q ≡ true → (p && q) ≡ p
and_yes true q e = e
and_yes false q e = refl

-- the declaration of the rounded extents is judged by these alone
pub shape_rounded : (m : ℕ) (es : List ℕ) (d : Declaration) → d.rank ≤ 4 → declared_extents d ≡ rounded m es → zeros (drop d.rank d.extents) ≡ true → shape_declared d ≡ cond (proper (rounded m es)) (Some (rounded m es)) None
shape_rounded m es d l e z =
    let p = proper (declared_extents d) in
    ap (λ t. cond (t && (p && zeros (drop d.rank d.extents))) (Some (declared_extents d)) None) (le-leb d.rank 4 l)
    ∙ ap (λ t. cond t (Some (declared_extents d)) None) (and_yes p (zeros (drop d.rank d.extents)) z)
    ∙ ap (λ t. cond (proper t) (Some t) None) e
