-- One turn of an evaluation: what it keeps, and that less is left. Assumes nothing.
use Rattle.std.proofs.Common.{◌≡◌, ℕ, zero, suc, ◌+◌, ◌-◌, ◌*◌, ◌<◌, ◌≤◌, Bool, true, false, cond, ltb, leb, List, [], ◌∷◌, length, take, drop, sym, refl, ap, ◌∙◌, subst, suc-mul, arith}
use Rattle.std.proofs.lemmas.Bool.{and_parts, and_from, leb-true, ltb-true, ltb-false, le-leb}
use Rattle.elements.specs.Algebra.{Algebra, total}
use Rattle.indices.specs.declared.index.Index.{Index}
use Rattle.indices.specs.Dimensions.{two_of, exchanged, removed, inserted}
use Rattle.indices.specs.Places.{pick, at1, has, within}
use Rattle.indices.specs.Coordinates.{coordinates}
use Rattle.indices.proofs.Within.{two_parts, within_length, within_parts, length_exchanged, length_removed, within_exchanged, within_inserted}
use Rattle.sheets.specs.declared.term.Operation.{Operation}
use Rattle.sheets.specs.declared.term.Operation.TheVariants.{Times}
use Rattle.sheets.specs.declared.term.Term.{Term}
use Rattle.sheets.specs.declared.term.Term.TheVariants.{Variable, Outer, Pointwise, Turned, Contracted}
use Rattle.sheets.specs.Language.{Expr, Typed, variable, outer, pointwise, turned, contracted, depth}
use Rattle.sheets.specs.Rules.{info_at, earlier, larger}
use Rattle.sheets.specs.Terms.{meant, node_there, UnfoldsTo}
use Rattle.sheets.proofs.Typing.{variable_type, turned_type, contracted_type}
use Rattle.stores.specs.Meaning.{in_reach}
use Rattle.evaluation.specs.declared.frame.Focus.{Focus}
use Rattle.evaluation.specs.declared.frame.Focus.TheVariants.{Down, Up}
use Rattle.evaluation.specs.declared.frame.Frame.{Frame}
use Rattle.evaluation.specs.declared.frame.Frame.TheVariants.{Left, Right, Sum}
use Rattle.evaluation.specs.Machine.{Setting, Works, decoded, expr, worth, goes, Runs, extendable, onward, plug, work, turns, rest, Framed, whole, load, Sound, Stepped, Room, Resumed, on_right, with_left, to_next, to_end}
use Rattle.evaluation.specs.Value.{applied, spans, seen, value}
use Rattle.evaluation.proofs.Padded.{operands_reached, two_reached, pair_reached}
use Rattle.evaluation.proofs.Spans.{spans_length, limit_bounds}

-- sums that go on
onward_total : {E : Type 0} (a : Algebra E) (f : ℕ → E) (c l : ℕ) → onward a f (l + 1) c (total a f l) ≡ total a f (c + l)
onward_total a f zero l = let e : l ≡ 0 + l = omega arith in ap (total a f) e
onward_total a f (suc c) l =
    let s : l + 1 ≡ suc l = omega arith in
    let p : a.plus (total a f l) (f (l + 1)) ≡ total a f (l + 1) = ap (λ j. a.plus (total a f l) (f j)) s ∙ ap (total a f) (sym s) in
    let q : c + (l + 1) ≡ suc c + l = omega arith in
    ap (onward a f (l + 1 + 1) c) p ∙ onward_total a f c (l + 1) ∙ ap (total a f) q

onward_next : {E : Type 0} (a : Algebra E) (f : ℕ → E) (l limit : ℕ) (acc : E) → l < limit → onward a f (l + 1) (limit - l) acc ≡ onward a f (l + 1 + 1) (limit - (l + 1)) (a.plus acc (f (l + 1)))
onward_next a f l limit acc h = let e : limit - l ≡ suc (limit - (l + 1)) = omega arith in ap (λ c. onward a f (l + 1) c acc) e

onward_none : {E : Type 0} (a : Algebra E) (f : ℕ → E) (l limit : ℕ) (acc : E) → limit ≤ l → onward a f (l + 1) (limit - l) acc ≡ acc
onward_none a f l limit acc h = let e : limit - l ≡ 0 = omega arith in ap (λ c. onward a f (l + 1) c acc) e

larger_left : (x y : ℕ) → x ≤ larger x y
larger_left x y = by (ltb x y) refl
  where
    by : (b : Bool) → ltb x y ≡ b → x ≤ cond b y x
    by true e = let h = ltb-true x y e in omega arith
    by false e = omega arith

larger_right : (x y : ℕ) → y ≤ larger x y
larger_right x y = by (ltb x y) refl
  where
    by : (b : Bool) → ltb x y ≡ b → y ≤ cond b y x
    by true e = omega arith
    by false e = let h = ltb-false x y e in omega arith

earlier_there : {E : Type 0} (t : Setting E) (j k : ℕ) → earlier j k ≡ true → node_there t.sheet k ≡ true → node_there t.sheet j ≡ true
earlier_there t j k e h =
    let n = length t.sheet.nodes in
    let p = and_parts (leb 1 j) (ltb j k) e in
    let q = and_parts (leb 1 k) (leb k n) h in
    let a = ltb-true j k p.1 in
    let b = leb-true k n q.1 in
    and_from (leb 1 j) (leb j n) p.0 (le-leb j n (omega arith))

depth_one : (e : Expr) → 1 ≤ depth e
depth_one (variable v) = omega arith
depth_one (outer x y) = omega arith
depth_one (pointwise op x y) = omega arith
depth_one (turned m n x) = omega arith
depth_one (contracted m n x) = omega arith

-- node k at i is one operation on the nodes a at ia and b at ib
pub record Forks {E : Type 0} (t : Setting E) (used k : ℕ) (i : List ℕ) (op : Operation) (a b : ℕ) (ia ib : List ℕ) : Type 0 where
  pub is : worth t k i ≡ applied t.algebra (meant op) (worth t a ia) (worth t b ib)
  pub left : Runs t (suc used) a ia
  pub right : Runs t (suc used) b ib
  pub takes : turns t k ≡ turns t a + turns t b + 3

module _ {E : Type 0} {t : Setting E} (w : Works t) where
  -- the type that the verdict found, over the store's shapes
  typed_at : (k : ℕ) → node_there t.sheet k ≡ true → Typed t.meaning.shapes (expr t k) (info_at t.sheet.infos k).extents
  typed_at k h = subst (λ ss. Typed ss (expr t k) (info_at t.sheet.infos k).extents) w.fits (w.judged.nodes k h).typed

  pub rank_at : (k : ℕ) → node_there t.sheet k ≡ true → length (info_at t.sheet.infos k).extents ≡ length (goes t k)
  rank_at k h = spans_length t.meaning w.lawful (typed_at k h)

  -- down into a node
  module _ {fs : List Frame} {k : ℕ} {at : Index} (h : Sound t fs (Down k at)) where
    typed_as : (e : Expr) → expr t k ≡ e → Typed t.meaning.shapes e (info_at t.sheet.infos k).extents
    typed_as e u = subst (λ x. Typed t.meaning.shapes x (info_at t.sheet.infos k).extents) u (typed_at k h.focus.there)

    reached_as : (e : Expr) → expr t k ≡ e → within (spans t.meaning.reach e) (coordinates at) ≡ true
    reached_as e u = subst (λ x. within (spans t.meaning.reach x) (coordinates at) ≡ true) u h.focus.reached

    worth_as : (e : Expr) → expr t k ≡ e → worth t k (coordinates at) ≡ value t.algebra t.meaning.at t.meaning.reach e (coordinates at)
    worth_as e u = ap (λ x. value t.algebra t.meaning.at t.meaning.reach x (coordinates at)) u

    turns_as : (e : Expr) → expr t k ≡ e → turns t k ≡ work t.meaning.reach e
    turns_as e u = ap (work t.meaning.reach) u

    below : (j : ℕ) → earlier j k ≡ true → depth (expr t j) < depth (expr t k) → (i : List ℕ) → within (goes t j) i ≡ true → Runs t (suc (length fs)) j i
    below j e d i r =
        let lo = h.focus.low in
        record { there = earlier_there t j k e h.focus.there; low = omega arith; reached = r }

    pub fork_room : {op : Operation} {a b : ℕ} {ia ib : List ℕ} → Forks t (length fs) k (coordinates at) op a b ia ib → length fs < 15
    fork_room {a = a} f = let lo = f.left.low in let d = depth_one (expr t a) in omega arith

    pub down_fork : {op : Operation} {a b : ℕ} {ia ib : List ℕ} (left right : Index) {gs : List Frame} → Forks t (length fs) k (coordinates at) op a b ia ib → coordinates left ≡ ia → coordinates right ≡ ib → gs ≡ Left op b right ∷ fs → Stepped t fs (Down k at) gs (Down a left)
    unfolding whole load plug rest Framed
    down_fork {op} {a} {b} {ia} {ib} left right f p q g =
        let s = f.takes in
        subst (λ z. Stepped t fs (Down k at) z (Down a left)) (sym g)
        (record {
          sound = record {
            frames = (subst (λ i. Runs t (suc (length fs)) b i) (sym q) f.right, h.frames);
            focus = subst (λ i. Runs t (suc (length fs)) a i) (sym p) f.left;
          };
          same = ap (plug t fs) (ap (λ i. applied t.algebra (meant op) (worth t a i) (worth t b (coordinates right))) p ∙ ap (λ i. applied t.algebra (meant op) (worth t a ia) (worth t b i)) q ∙ sym f.is);
          less = omega arith;
        })

    -- one that is made of x
    module _ {x : Term} (made : UnfoldsTo t.sheet k x) where
      unfolds_as : {y : Term} → x ≡ y → UnfoldsTo t.sheet k y
      unfolds_as is = subst (UnfoldsTo t.sheet k) is made

      -- a variable
      module _ {v : ℕ} (is : x ≡ Variable v) where
        variable_is : expr t k ≡ variable v
        variable_is = unfolds_as is

        pub variable_reached : in_reach t.meaning v (coordinates at) ≡ true
        unfolding spans
        variable_reached =
            and_from (has t.meaning.shapes v) (within (pick t.meaning.reach v) (coordinates at)) (variable_type (typed_as (variable v) variable_is)).0 (reached_as (variable v) variable_is)

        pub down_variable : (c : ℕ) → decoded t.algebra c ≡ t.meaning.at v (coordinates at) → Stepped t fs (Down k at) fs (Up c)
        unfolding whole load value work
        down_variable c d =
            let s = turns_as (variable v) variable_is in
            record {
              sound = record { frames = h.frames; focus = tt };
              same = ap (plug t fs) (d ∙ sym (worth_as (variable v) variable_is));
              less = omega arith;
            }

      -- two operands
      pub outer_forks : {a b : ℕ} → x ≡ Outer a b → Forks t (length fs) k (coordinates at) Times a b (take (length (goes t a)) (coordinates at)) (drop (length (goes t a)) (coordinates at))
      unfolding spans value work
      outer_forks {a} {b} is =
          let u = unfolds_as is in
          let e = outer (expr t a) (expr t b) in
          let p = within_parts (goes t a) (goes t b) (coordinates at) (reached_as e u.2) in
          let d : depth (expr t k) ≡ larger (depth (expr t a)) (depth (expr t b)) + 1 = ap depth u.2 in
          let l = larger_left (depth (expr t a)) (depth (expr t b)) in
          let r = larger_right (depth (expr t a)) (depth (expr t b)) in
          record {
            is = worth_as e u.2;
            left = below a u.0 (omega arith) (take (length (goes t a)) (coordinates at)) p.0;
            right = below b u.1 (omega arith) (drop (length (goes t a)) (coordinates at)) p.1;
            takes = turns_as e u.2;
          }

      pub pointwise_forks : {op : Operation} {a b : ℕ} → x ≡ Pointwise op a b → Forks t (length fs) k (coordinates at) op a b (seen (goes t a) (coordinates at)) (seen (goes t b) (coordinates at))
      unfolding spans value work
      pointwise_forks {op} {a} {b} is =
          let u = unfolds_as is in
          let e = pointwise (meant op) (expr t a) (expr t b) in
          let p = operands_reached t.meaning w.lawful (typed_as e u.2) (coordinates at) (reached_as e u.2) in
          let d : depth (expr t k) ≡ larger (depth (expr t a)) (depth (expr t b)) + 1 = ap depth u.2 in
          let l = larger_left (depth (expr t a)) (depth (expr t b)) in
          let r = larger_right (depth (expr t a)) (depth (expr t b)) in
          record {
            is = worth_as e u.2;
            left = below a u.0 (omega arith) (seen (goes t a) (coordinates at)) p.0;
            right = below b u.1 (omega arith) (seen (goes t b) (coordinates at)) p.1;
            takes = turns_as e u.2;
          }

      -- dimensions exchanged
      module _ {a m n : ℕ} (is : x ≡ Turned a m n) where
        turned_is : UnfoldsTo t.sheet k (Turned a m n)
        turned_is = unfolds_as is

        turned_two : two_of m n (length (goes t a)) ≡ true
        turned_two =
            let y = turned_type (typed_as (turned m n (expr t a)) turned_is.1) in
            subst (λ j. two_of m n j ≡ true) (spans_length t.meaning w.lawful y.1) y.2

        pub turned_fits : two_of m n (length (coordinates at)) ≡ true
        unfolding spans
        turned_fits =
            let l = within_length (exchanged m n (goes t a)) (coordinates at) (reached_as (turned m n (expr t a)) turned_is.1) in
            subst (λ j. two_of m n j ≡ true) (sym (length_exchanged m n (goes t a)) ∙ l) turned_two

        pub down_turned : (inner : Index) → coordinates inner ≡ exchanged m n (coordinates at) → Stepped t fs (Down k at) fs (Down a inner)
        unfolding whole load spans value work
        down_turned inner q =
            let e = turned m n (expr t a) in
            let s = turns_as e turned_is.1 in
            let d : depth (expr t k) ≡ depth (expr t a) + 1 = ap depth turned_is.1 in
            let lo = h.focus.low in
            record {
              sound = record {
                frames = h.frames;
                focus = record {
                  there = earlier_there t a k turned_is.0 h.focus.there;
                  low = omega arith;
                  reached = ap (within (goes t a)) q ∙ within_exchanged m n (goes t a) (coordinates at) turned_two (reached_as e turned_is.1);
                };
              };
              same = ap (plug t fs) (ap (worth t a) q ∙ sym (worth_as e turned_is.1));
              less = omega arith;
            }

      -- dimensions contracted
      module _ {a m n : ℕ} (is : x ≡ Contracted a m n) where
        contracted_is : UnfoldsTo t.sheet k (Contracted a m n)
        contracted_is = unfolds_as is

        pub sum_there : node_there t.sheet a ≡ true
        sum_there = earlier_there t a k contracted_is.0 h.focus.there

        contracted_two : two_of m n (length (goes t a)) ≡ true
        contracted_two =
            let y = contracted_type (typed_as (contracted m n (expr t a)) contracted_is.1) in
            two_reached t.meaning w.lawful m n y.1 y.2

        contracted_pair : at1 (goes t a) m ≡ at1 (goes t a) n
        contracted_pair =
            let y = contracted_type (typed_as (contracted m n (expr t a)) contracted_is.1) in
            pair_reached t.meaning w.lawful m n y.1 y.2 y.3

        pub sum_dimension : (1 ≤ m) × (m ≤ length (goes t a))
        sum_dimension = let p = two_parts m n (length (goes t a)) contracted_two in (p.0, omega (arith, p.1, p.2))

        contracted_length : length (goes t a) ≡ length (coordinates at) + 2
        unfolding spans
        contracted_length =
            let l = within_length (removed m n (goes t a)) (coordinates at) (reached_as (contracted m n (expr t a)) contracted_is.1) in
            let r = length_removed m n (goes t a) contracted_two in
            omega arith

        pub sum_extendable : extendable m n (coordinates at) ≡ true
        sum_extendable =
            let l = contracted_length in
            let r = rank_at a sum_there in
            let b = (w.judged.nodes a sum_there).rank in
            and_from (two_of m n (length (coordinates at) + 2)) (leb (length (coordinates at) + 2) 8) (subst (λ j. two_of m n j ≡ true) l contracted_two) (le-leb (length (coordinates at) + 2) 8 (omega arith))

        sum_limit : 1 ≤ at1 (goes t a) m
        sum_limit =
            let y = typed_at a sum_there in
            let r = rank_at a sum_there in
            let p = sum_dimension in
            let f = p.0 in
            let g = p.1 in
            let b = limit_bounds t.meaning w.lawful y m f (omega arith) in
            let c = b.0 in
            let d = b.1 in
            omega arith

        sum_runs : (j : ℕ) → 1 ≤ j → j ≤ at1 (goes t a) m → Runs t (suc (length fs)) a (inserted m n j (coordinates at))
        unfolding spans
        sum_runs j p q =
            let d : depth (expr t k) ≡ depth (expr t a) + 1 = ap depth contracted_is.1 in
            below a contracted_is.0 (omega arith) (inserted m n j (coordinates at))
            (within_inserted m n j (goes t a) (coordinates at) contracted_two contracted_pair p q (reached_as (contracted m n (expr t a)) contracted_is.1))

        pub sum_room : length fs < 15
        sum_room = let r = (sum_runs 1 (omega arith) sum_limit).low in let d = depth_one (expr t a) in omega arith

        pub down_sum : {limit c : ℕ} (inner : Index) {gs : List Frame} → limit ≡ at1 (goes t a) m → decoded t.algebra c ≡ t.algebra.zero → coordinates inner ≡ inserted m n 1 (coordinates at) → gs ≡ Sum a at m n 1 limit c ∷ fs → Stepped t fs (Down k at) gs (Down a inner)
        unfolding whole load spans value work plug rest Framed
        down_sum {limit} {c} inner {gs} z d q g =
            let e = contracted m n (expr t a) in
            let o : 1 ≤ limit = let y = sum_limit in omega arith in
            let s : turns t k ≡ limit * (turns t a + 1) + 2 = turns_as e contracted_is.1 ∙ ap (λ j. j * (turns t a + 1) + 2) (sym z) in
            let p : limit ≡ suc (limit - 1) = omega arith in
            let y : limit * (turns t a + 1) ≡ (limit - 1) * (turns t a + 1) + (turns t a + 1) = ap (λ j. j * (turns t a + 1)) p ∙ suc-mul (limit - 1) (turns t a + 1) in
            let f : ℕ → E = λ j. worth t a (inserted m n j (coordinates at)) in
            let v : limit - 1 + 1 ≡ at1 (goes t a) m = omega arith in
            subst (λ z. Stepped t fs (Down k at) z (Down a inner)) (sym g)
            (record {
              sound = record {
                frames = (sum_extendable, (λ j x r. sum_runs j x (omega arith)), o, h.frames);
                focus = subst (λ i. Runs t (suc (length fs)) a i) (sym q) (sum_runs 1 (omega arith) sum_limit);
              };
              same =
                  ap (plug t fs)
                  (ap (λ i. onward t.algebra f 2 (limit - 1) (t.algebra.plus (decoded t.algebra c) (worth t a i))) q
                  ∙ ap (λ x. onward t.algebra f 2 (limit - 1) (t.algebra.plus x (f 1))) d
                  ∙ onward_total t.algebra f (limit - 1) 1
                  ∙ ap (total t.algebra f) v
                  ∙ sym (worth_as e contracted_is.1));
              less = omega arith;
            })

-- a frame that is resumed
module _ {E : Type 0} (t : Setting E) (fs : List Frame) (c : ℕ) where
  frame_room : (f : Frame) → Sound t (f ∷ fs) (Up c) → Room f fs
  unfolding Framed
  frame_room (Left op right at) h = let r = h.frames.0.low in let d = depth_one (expr t right) in omega arith
  frame_room (Right op left) h = tt
  frame_room (Sum k at m n l limit sum) h =
      let r = (h.frames.1 1 (omega arith) h.frames.2).low in
      let d = depth_one (expr t k) in
      (omega arith, h.frames.0)

  left_steps : (op : Operation) (right : ℕ) (at : Index) (gs : List Frame) → Sound t (Left op right at ∷ fs) (Up c) → gs ≡ Right op c ∷ fs → Stepped t (Left op right at ∷ fs) (Up c) gs (Down right at)
  unfolding whole load plug rest Framed
  left_steps op right at gs h g =
      subst (λ z. Stepped t (Left op right at ∷ fs) (Up c) z (Down right at)) (sym g)
      (record { sound = record { frames = h.frames.1; focus = h.frames.0 }; same = refl; less = omega arith })

  right_steps : (op : Operation) (left c' : ℕ) (gs : List Frame) → Sound t (Right op left ∷ fs) (Up c) → gs ≡ fs → decoded t.algebra c' ≡ applied t.algebra (meant op) (decoded t.algebra left) (decoded t.algebra c) → Stepped t (Right op left ∷ fs) (Up c) gs (Up c')
  unfolding whole load plug rest Framed
  right_steps op left c' gs h g d =
      subst (λ z. Stepped t (Right op left ∷ fs) (Up c) z (Up c')) (sym g)
      (record { sound = record { frames = h.frames; focus = tt }; same = ap (plug t fs) d; less = omega arith })

  module _ (k m n l limit sum sum' : ℕ) (at : Index) (gs : List Frame) (h : Sound t (Sum k at m n l limit sum ∷ fs) (Up c)) (d : decoded t.algebra sum' ≡ t.algebra.plus (decoded t.algebra sum) (decoded t.algebra c)) where
    next_steps : (inner : Index) → l < limit → coordinates inner ≡ inserted m n (l + 1) (coordinates at) → gs ≡ Sum k at m n (l + 1) limit sum' ∷ fs → Stepped t (Sum k at m n l limit sum ∷ fs) (Up c) gs (Down k inner)
    unfolding whole load plug rest Framed
    next_steps inner p q g =
        let f : ℕ → E = λ j. worth t k (inserted m n j (coordinates at)) in
        let z : limit - l ≡ suc (limit - (l + 1)) = omega arith in
        let y : (limit - l) * (turns t k + 1) ≡ (limit - (l + 1)) * (turns t k + 1) + (turns t k + 1) = ap (λ j. j * (turns t k + 1)) z ∙ suc-mul (limit - (l + 1)) (turns t k + 1) in
        subst (λ z. Stepped t (Sum k at m n l limit sum ∷ fs) (Up c) z (Down k inner)) (sym g)
        (record {
          sound = record { frames = h.frames; focus = subst (λ i. Runs t (suc (length fs)) k i) (sym q) (h.frames.1 (l + 1) (omega arith) (omega arith)) };
          same =
              ap (plug t fs)
              (ap (λ i. onward t.algebra f (l + 1 + 1) (limit - (l + 1)) (t.algebra.plus (decoded t.algebra sum') (worth t k i))) q
              ∙ ap (λ x. onward t.algebra f (l + 1 + 1) (limit - (l + 1)) (t.algebra.plus x (f (l + 1)))) d
              ∙ sym (onward_next t.algebra f l limit (t.algebra.plus (decoded t.algebra sum) (decoded t.algebra c)) p));
          less = omega arith;
        })

    end_steps : limit ≤ l → gs ≡ fs → Stepped t (Sum k at m n l limit sum ∷ fs) (Up c) gs (Up sum')
    unfolding whole load plug rest Framed
    end_steps p g =
        let f : ℕ → E = λ j. worth t k (inserted m n j (coordinates at)) in
        subst (λ z. Stepped t (Sum k at m n l limit sum ∷ fs) (Up c) z (Up sum')) (sym g)
        (record {
          sound = record { frames = h.frames.3; focus = tt };
          same = ap (plug t fs) (d ∙ sym (onward_none t.algebra f l limit (t.algebra.plus (decoded t.algebra sum) (decoded t.algebra c)) p));
          less = omega arith;
        })

  resumed_steps : (f : Frame) (gs : List Frame) (x : Focus) → Sound t (f ∷ fs) (Up c) → Resumed t.algebra fs c gs f x → Stepped t (f ∷ fs) (Up c) gs x
  resumed_steps f gs x h r = by f h r
    where
      on_top : {y : Focus} (e f : Frame) → f ≡ e → (Sound t (e ∷ fs) (Up c) → Stepped t (e ∷ fs) (Up c) gs y) → Sound t (f ∷ fs) (Up c) → Stepped t (f ∷ fs) (Up c) gs y
      on_top {y} e f q step h = subst (λ z. Stepped t (z ∷ fs) (Up c) gs y) (sym q) (step (subst (λ z. Sound t (z ∷ fs) (Up c)) q h))

      by : {x : Focus} (f : Frame) → Sound t (f ∷ fs) (Up c) → Resumed t.algebra fs c gs f x → Stepped t (f ∷ fs) (Up c) gs x
      by f h (on_right {op} {right} {at} e g) = on_top (Left op right at) f e (λ k. left_steps op right at gs k g) h
      by f h (with_left {op} {left} {c'} e g d) = on_top (Right op left) f e (λ k. right_steps op left c' gs k g d) h
      by f h (to_next {k} {m} {n} {l} {limit} {sum} {sum'} {at} {inner} e p q d g) = on_top (Sum k at m n l limit sum) f e (λ o. next_steps k m n l limit sum sum' at gs o d inner p q g) h
      by f h (to_end {k} {m} {n} {l} {limit} {sum} {sum'} {at} e p d g) = on_top (Sum k at m n l limit sum) f e (λ o. end_steps k m n l limit sum sum' at gs o d p g) h

-- on with a value
module _ {E : Type 0} {t : Setting E} {hs : List Frame} {x : Focus} {c : ℕ} (h : Sound t hs x) (is : x ≡ Up c) where
  module _ {f : Frame} {fs : List Frame} (e : hs ≡ f ∷ fs) where
    popped : Sound t (f ∷ fs) (Up c)
    popped = subst (λ gs. Sound t gs (Up c)) e (subst (Sound t hs) is h)

    pub popped_room : Room f fs
    popped_room = frame_room t fs c f popped

    pub popped_steps : {gs : List Frame} {y : Focus} → Resumed t.algebra fs c gs f y → Stepped t hs x gs y
    popped_steps {gs} {y} r =
        subst (λ z. Stepped t hs z gs y) (sym is) (subst (λ z. Stepped t z (Up c) gs y) (sym e) (resumed_steps t fs c f gs y popped r))

  pub whole_up : hs ≡ [] → decoded t.algebra c ≡ whole t hs x
  unfolding whole plug
  whole_up e = ap (λ z. plug t z (decoded t.algebra c)) (sym e) ∙ ap (whole t hs) (sym is)

-- with no frames
module _ {E : Type 0} (t : Setting E) (fs : List Frame) (e : fs ≡ []) where
  pub whole_down : (k : ℕ) (at : Index) → whole t fs (Down k at) ≡ worth t k (coordinates at)
  unfolding whole plug
  whole_down k at = ap (λ x. plug t x (worth t k (coordinates at))) e

  pub sound_down : (k : ℕ) (at : Index) → Runs t 0 k (coordinates at) → Sound t fs (Down k at)
  unfolding Framed
  sound_down k at r = subst (λ x. Sound t x (Down k at)) (sym e) (record { frames = tt; focus = r })
