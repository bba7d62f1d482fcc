-- Which extents make a shape. Assumes nothing.
use Rattle.std.proofs.Common.{◌≡◌, ℕ, zero, suc, ◌+◌, ◌*◌, ◌^◌, ◌<◌, ◌≤◌, true, ◌&&◌, leb, List, [], ◌∷◌, length, get_or, drop, pow-suc, add-one, arith}
use native.Mathlib.Nat.{pow-le-pow_right}
use Rattle.std.proofs.lemmas.Bool.{and_parts, and_from, leb-true, le-leb}
use Rattle.std.proofs.lemmas.Nat.{mul-le}
use Rattle.indices.specs.Places.{each, proper, product}
use Rattle.shapes.specs.declared.declaration.Declaration.{Declaration}
use Rattle.shapes.specs.Shapes.{zeros, valid, declared_extents}
use Rattle.shapes.proofs.Numbering.{Solid}

pub each_parts : (e : ℕ) (es : List ℕ) → each (e ∷ es) ≡ true → (1 ≤ e) × (e ≤ 64) × (each es ≡ true)
each_parts e es h =
    let p = and_parts (leb 1 e && leb e 64) (each es) h in
    let q = and_parts (leb 1 e) (leb e 64) p.0 in
    (leb-true 1 e q.0, leb-true e 64 q.1, p.1)

pub each_at : (es : List ℕ) (d : ℕ) → each es ≡ true → d < length es → (1 ≤ get_or es d 0) × (get_or es d 0 ≤ 64)
each_at [] d h l = absurd (omega arith)
each_at (e ∷ es) zero h l = let p = each_parts e es h in (p.0, p.1)
each_at (e ∷ es) (suc d) h l = each_at es d (each_parts e es h).2 (omega arith)

pub each_solid : (es : List ℕ) → each es ≡ true → Solid es
each_solid [] h = tt
each_solid (e ∷ es) h = let p = each_parts e es h in (p.0, each_solid es p.2)

-- so many extents up to 64 have at most this product
pub power_more : (n e d : ℕ) → n ≤ 64 ^ d → e ≤ 64 → n * e ≤ 64 ^ (d + 1)
power_more n e d h k = rw (add-one d, pow-suc 64 d) (mul-le n e (64 ^ d) 64 h k)

pub power_four : (d : ℕ) → d ≤ 4 → 64 ^ d ≤ 16777216
power_four d h = pow-le-pow_right {n = 64} (omega arith) h

-- the parts of being a shape
pub record Parts (es : List ℕ) : Type 0 where
  pub rank : length es ≤ 4
  pub extents : each es ≡ true
  pub places : product es ≤ 4096

pub proper_parts : (es : List ℕ) → proper es ≡ true → Parts es
proper_parts es h =
    let p = and_parts (leb (length es) 4) (each es && leb (product es) 4096) h in
    let q = and_parts (each es) (leb (product es) 4096) p.1 in
    record { rank = leb-true (length es) 4 p.0; extents = q.0; places = leb-true (product es) 4096 q.1 }

pub proper_from : (es : List ℕ) → Parts es → proper es ≡ true
proper_from es p =
    and_from (leb (length es) 4) (each es && leb (product es) 4096) (le-leb (length es) 4 p.rank)
    (and_from (each es) (leb (product es) 4096) p.extents (le-leb (product es) 4096 p.places))

-- declarations
pub valid_from : (d : Declaration) → d.rank ≤ 4 → proper (declared_extents d) ≡ true → zeros (drop d.rank d.extents) ≡ true → valid d ≡ true
valid_from d r p z =
    and_from (leb d.rank 4) (proper (declared_extents d) && zeros (drop d.rank d.extents)) (le-leb d.rank 4 r)
    (and_from (proper (declared_extents d)) (zeros (drop d.rank d.extents)) p z)
