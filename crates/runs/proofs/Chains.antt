-- Chains of calls: made longer at their end, and taken apart after some of the calls. Assumes nothing.
use Rattle.std.proofs.Common.{◌≡◌, ℕ, zero, suc, ◌+◌, ◌<◌, ◌≤◌, ◌&&◌, List, [], ◌∷◌, ◌++◌, map, length, get_or, take, drop, set, sym, refl, ap, ◌∙◌, subst, arith}
use lib.ListN.{get_or-map}
use Rattle.std.proofs.lemmas.List.{take_more, take_more_set, length-map, map-set, set-get_or}
use Rattle.elements.specs.Algebra.{Algebra, Laws}
use Rattle.evaluation.specs.Law.{Shows}
use Rattle.indices.specs.Places.{pick, has, within}
use Rattle.sheets.specs.Sheets.{Contents}
use Rattle.sheets.specs.Terms.{Judged}
use Rattle.stores.specs.Meaning.{Meaning, Lawful}
use Rattle.runs.specs.Agreement.{Point, opening, Moves, Chain, end, call, Alike, Agreement}
use Rattle.runs.specs.Plain.{Call, Reply}
use Rattle.runs.proofs.Standing.{always}

module _ {E : Type 0} {a : Algebra E} {c : Contents} where
  chain_more : {p q o : Point E} {ks : List (Call E)} {rs : List (Reply E)} {k : Call E} {r : Reply E} → Chain a c p ks rs q → Moves a c k q r o → Chain a c p (ks ++ k ∷ []) (rs ++ r ∷ []) o
  chain_more end m = call m end
  chain_more (call n ch) m = call n (chain_more ch m)

  pub chain_next : {p q o : Point E} {ks js : List (Call E)} {rs qs : List (Reply E)} {k : Call E} {r : Reply E} → Chain a c p ks rs q → Moves a c k q r o → js ≡ ks ++ k ∷ [] → qs ≡ rs ++ r ∷ [] → Chain a c p js qs o
  chain_next {p} {q} {o} {ks} {js} {rs} {qs} {k} {r} ch m e f = subst (λ t. Chain a c p t qs o) (sym e) (subst (λ t. Chain a c p (ks ++ k ∷ []) t o) (sym f) (chain_more ch m))

-- a point after the first k calls
record Split {E : Type 0} (a : Algebra E) (c : Contents) (p o : Point E) (ks : List (Call E)) (rs : List (Reply E)) (k : ℕ) : Type 0 where
  point : Point E
  before : Chain a c p (take k ks) (take k rs) point
  beyond : Chain a c point (drop k ks) (drop k rs) o

split : {E : Type 0} {a : Algebra E} {c : Contents} {o : Point E} (k : ℕ) {p : Point E} {ks : List (Call E)} {rs : List (Reply E)} → k ≤ length ks → Chain a c p ks rs o → Split a c p o ks rs k
split zero {p = p} l ch = record { point = p; before = end; beyond = ch }
split (suc k) l end = absurd (omega arith)
split (suc k) l (call m ch) = let s = split k (omega arith) ch in record { point = s.point; before = call m s.before; beyond = s.beyond }

-- two runs over stores that are lawful, of a sheet that passed
module _ {E : Type 0} (a : Algebra E) (laws : Laws a) (c : Contents) (judged : Judged c) (x y : Meaning E) (lx : Lawful a.zero x) (ly : Lawful a.zero y) (fx : c.shapes ≡ x.shapes) (fy : c.shapes ≡ y.shapes) where
  shown : Shows y.at x → Shows x.at y
  shown s v i h = sym (s v i (ap (λ ss. has ss v && within (pick ss v) i) (sym fx ∙ fy) ∙ h))

  module _ (ks : List (Call E)) (ls rs : List (Reply E)) (u w : Meaning E) (m n : ℕ) (left : Chain a c (opening x) ks ls (record { meaning = u; next = m })) (right : Chain a c (opening y) ks rs (record { meaning = w; next = n })) where
    alike : Shows y.at x → (k : ℕ) → k ≤ length ks → Alike a c x y ks ls rs (record { meaning = u; next = m }) (record { meaning = w; next = n }) k
    alike s k l =
        let p = split k l left in
        let q = split k l right in
        let d = always a laws c judged x x.at lx fx (λ v i h. refl) (take k ks) (take k ls) p.point p.before in
        let e = always a laws c judged y x.at ly fy (shown s) (take k ks) (take k rs) q.point q.before in
        record {
          left = record { point = p.point; before = p.before; beyond = p.beyond };
          right = record { point = q.point; before = q.before; beyond = q.beyond };
          left_stands = d;
          right_stands = e;
          replies = d.replied ∙ sym e.replied;
          elements = λ v i h.
              sym (d.shows v i (ap (λ ss. has ss v && within (pick ss v) i) (d.shapes ∙ fx) ∙ h))
              ∙ e.shows v i (ap (λ ss. has ss v && within (pick ss v) i) (e.shapes ∙ fx) ∙ h);
        }

    pub agreement : Agreement a c x y ks ls rs u w
    agreement = record {
      left_next = m;
      right_next = n;
      left_runs = left;
      right_runs = right;
      left_always = always a laws c judged x x.at lx fx (λ v i h. refl);
      right_always = always a laws c judged y y.at ly fy (λ v i h. refl);
      alike = alike;
    }

-- the same chain, by other names of its ends
pub begun : {E : Type 0} (a : Algebra E) (c d : Contents) (b x u w : Meaning E) (n m : ℕ) (ks : List (Call E)) (rs : List (Reply E)) → c ≡ d → b ≡ x → n ≡ 1 → u ≡ w → Chain a c (record { meaning = b; next = n }) ks rs (record { meaning = u; next = m }) → Chain a d (opening x) ks rs (record { meaning = w; next = m })
begun a c d b x u w n m ks rs e f g h ch =
    subst (λ t. Chain a d (opening x) ks rs (record { meaning = t; next = m })) h
    (subst (λ t. Chain a d (record { meaning = x; next = t }) ks rs (record { meaning = u; next = m })) g
    (subst (λ t. Chain a d (record { meaning = t; next = n }) ks rs (record { meaning = u; next = m })) f
    (subst (λ t. Chain a t (record { meaning = b; next = n }) ks rs (record { meaning = u; next = m })) e ch)))

-- what a list of entries tells, while it is filled in
module _ {X Y : Type 0} (f : X → Y) where
  pub told_same : (xs ys : List X) (k : ℕ) (e x : X) → k < length xs → x ≡ get_or xs k x → f e ≡ f x → ys ≡ set xs k e → map f ys ≡ map f xs
  told_same xs ys k e x l h s d =
      let g : f x ≡ get_or (map f xs) k (f x) = ap f h ∙ sym (get_or-map f xs k x) in
      ap (map f) d ∙ map-set f xs k e ∙ ap (set (map f xs) k) (s ∙ g) ∙ set-get_or (map f xs) k (f x)

  pub told_more : (xs ys : List X) (k : ℕ) (e : X) → k < length xs → ys ≡ set xs k e → take (k + 1) (map f ys) ≡ take k (map f xs) ++ f e ∷ []
  told_more xs ys k e l d = ap (λ t. take (k + 1) (map f t)) d ∙ ap (take (k + 1)) (map-set f xs k e) ∙ take_more_set (map f xs) k (f e) (omega (arith, length-map xs f))

  pub told_next : (xs : List X) (k : ℕ) (x : X) → k < length xs → x ≡ get_or xs k x → take (k + 1) (map f xs) ≡ take k (map f xs) ++ f x ∷ []
  told_next xs k x l h =
      take_more (map f xs) k (f x) (omega (arith, length-map xs f)) ∙ ap (λ t. take k (map f xs) ++ t ∷ []) (get_or-map f xs k x ∙ ap f (sym h))
