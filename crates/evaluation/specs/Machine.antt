-- The evaluation of a node by a loop over a stack: what it means, what it keeps, and how much is left.
--   Setting      what an evaluation reads and never changes: the kind, the store's meaning and the sheet
--   decoded      the value that a code stands for
--   worth        the value of node k at an index
--   goes         how far the dimensions of node k go
--   stack_of     the frames of a stack, the last one first
--   Runs         node k may be worked out at an index above so many frames
--   onward       further values added on the right
--   plug         what the frames make of a value
--   work, rest   the turns that an expression takes, and those that frames still take
--   Framed       what holds of the frames
--   Sound        what holds of frames and focus
--   Stepped      one turn: what holds still holds, the whole has the same value, and less is left
--   Room         what a frame needs to be resumed
--   Resumed      what a frame makes of the value that it waited for
use Rattle.std.specs.Prelude.{◌≡◌, ℕ, zero, suc, ◌+◌, ◌-◌, ◌*◌, ◌<◌, ◌≤◌, Bool, true, ◌&&◌, List, [], ◌∷◌, length, Some, None, Option, nat_le, reverse}
use Rattle.std.specs.declared.ops.ControlFlow.{ControlFlow}
use Rattle.std.specs.declared.ops.ControlFlow.TheVariants.{Continue, Break}
use Rattle.arrayvec.specs.ArrayVec.{ArrayVec}
use Rattle.elements.specs.Algebra.{Algebra, Laws}
use Rattle.indices.specs.declared.index.Index.{Index}
use Rattle.indices.specs.Dimensions.{two_of, inserted}
use Rattle.indices.specs.Places.{at1, within}
use Rattle.indices.specs.Coordinates.{coordinates}
use Rattle.sheets.specs.declared.term.Operation.{Operation}
use Rattle.sheets.specs.Language.{Expr, variable, outer, pointwise, turned, contracted, depth}
use Rattle.sheets.specs.Sheets.{Contents}
use Rattle.sheets.specs.Terms.{meant, expression_of, node_there, Judged}
use Rattle.stores.specs.Meaning.{Meaning, Lawful}
use Rattle.evaluation.specs.declared.frame.Focus.{Focus}
use Rattle.evaluation.specs.declared.frame.Focus.TheVariants.{Down, Up}
use Rattle.evaluation.specs.declared.frame.Frame.{Frame}
use Rattle.evaluation.specs.declared.frame.Frame.TheVariants.{Left, Right, Sum}
use Rattle.evaluation.specs.Value.{applied, spans, node_reach, node_value}

pub record Setting (E : Type 0) : Type 0 where
  pub algebra : Algebra E
  pub meaning : Meaning E
  pub sheet : Contents

abbrev pub setting : {E : Type 0} → Algebra E → Meaning E → Contents → Setting E
setting a b c = record { algebra = a; meaning = b; sheet = c }

-- what makes evaluation work: a lawful kind, a lawful store, a sheet that passed, and one list of shapes
pub record Works {E : Type 0} (t : Setting E) : Type 0 where
  pub laws : Laws t.algebra
  pub lawful : Lawful t.algebra.zero t.meaning
  pub judged : Judged t.sheet
  pub fits : t.sheet.shapes ≡ t.meaning.shapes

abbrev pub or_else : {E : Type 0} → E → Option E → E
or_else d (Some v) = v
or_else d None = d

abbrev pub decoded : {E : Type 0} → Algebra E → ℕ → E
decoded a c = or_else a.zero (a.decode c)

abbrev pub expr : {E : Type 0} → Setting E → ℕ → Expr
expr t k = expression_of t.sheet.nodes k

abbrev pub worth : {E : Type 0} → Setting E → ℕ → List ℕ → E
worth t k i = node_value t.algebra t.meaning t.sheet k i

abbrev pub goes : {E : Type 0} → Setting E → ℕ → List ℕ
goes t k = node_reach t.meaning t.sheet k

abbrev pub stack_of : ArrayVec Frame → List Frame
stack_of s = reverse s.items

pub record Runs {E : Type 0} (t : Setting E) (used k : ℕ) (i : List ℕ) : Type 0 where
  pub there : node_there t.sheet k ≡ true
  pub low : used + depth (expr t k) ≤ 16
  pub reached : within (goes t k) i ≡ true

-- an index to which two dimensions can be added
abbrev pub extendable : ℕ → ℕ → List ℕ → Bool
extendable m n i = two_of m n (length i + 2) && nat_le (length i + 2) 8

-- from acc on, the values of f at l, l + 1 and so on, so many of them
abbrev pub onward : {E : Type 0} → Algebra E → (ℕ → E) → ℕ → ℕ → E → E
onward a f l zero acc = acc
onward a f l (suc c) acc = onward a f (l + 1) c (a.plus acc (f l))

unfoldable pub plug : {E : Type 0} → Setting E → List Frame → E → E
plug t [] x = x
plug t (Left op right at ∷ fs) x = plug t fs (applied t.algebra (meant op) x (worth t right (coordinates at)))
plug t (Right op left ∷ fs) x = plug t fs (applied t.algebra (meant op) (decoded t.algebra left) x)
plug t (Sum k at m n l limit sum ∷ fs) x =
    plug t fs (onward t.algebra (λ j. worth t k (inserted m n j (coordinates at))) (l + 1) (limit - l) (t.algebra.plus (decoded t.algebra sum) x))

unfoldable pub work : List (List ℕ) → Expr → ℕ
work rs (variable v) = 1
work rs (outer x y) = work rs x + work rs y + 3
work rs (pointwise op x y) = work rs x + work rs y + 3
work rs (turned m n x) = work rs x + 1
work rs (contracted m n x) = at1 (spans rs x) m * (work rs x + 1) + 2

abbrev pub turns : {E : Type 0} → Setting E → ℕ → ℕ
turns t k = work t.meaning.reach (expr t k)

unfoldable pub rest : {E : Type 0} → Setting E → List Frame → ℕ
rest t [] = 0
rest t (Left op right at ∷ fs) = rest t fs + turns t right + 2
rest t (Right op left ∷ fs) = rest t fs + 1
rest t (Sum k at m n l limit sum ∷ fs) = rest t fs + (limit - l) * (turns t k + 1) + 1

unfoldable pub Framed : {E : Type 0} → Setting E → List Frame → Type 0
Framed t [] = Unit {0}
Framed t (Left op right at ∷ fs) = (Runs t (suc (length fs)) right (coordinates at)) × (Framed t fs)
Framed t (Right op left ∷ fs) = Framed t fs
Framed t (Sum k at m n l limit sum ∷ fs) =
    (extendable m n (coordinates at) ≡ true) × ((j : ℕ) → 1 ≤ j → j ≤ limit → Runs t (suc (length fs)) k (inserted m n j (coordinates at))) × (1 ≤ limit) × (Framed t fs)

unfoldable pub whole : {E : Type 0} → Setting E → List Frame → Focus → E
whole t fs (Down k at) = plug t fs (worth t k (coordinates at))
whole t fs (Up c) = plug t fs (decoded t.algebra c)

unfoldable pub load : {E : Type 0} → Setting E → List Frame → Focus → ℕ
load t fs (Down k at) = rest t fs + turns t k
load t fs (Up c) = rest t fs

abbrev pub Focused : {E : Type 0} → Setting E → List Frame → Focus → Type 0
Focused t fs (Down k at) = Runs t (length fs) k (coordinates at)
Focused t fs (Up c) = Unit {0}

pub record Sound {E : Type 0} (t : Setting E) (fs : List Frame) (f : Focus) : Type 0 where
  pub frames : Framed t fs
  pub focus : Focused t fs f

pub record Stepped {E : Type 0} (t : Setting E) (fs : List Frame) (f : Focus) (fs' : List Frame) (f' : Focus) : Type 0 where
  pub sound : Sound t fs' f'
  pub same : whole t fs' f' ≡ whole t fs f
  pub less : load t fs' f' < load t fs f

abbrev pub Turned : {E : Type 0} → Setting E → List Frame → Focus → List Frame → ControlFlow ℕ Focus → Type 0
Turned t fs f fs' (Continue f') = Stepped t fs f fs' f'
Turned t fs f fs' (Break c) = decoded t.algebra c ≡ whole t fs f

abbrev pub Room : Frame → List Frame → Type 0
Room (Left op right at) fs = length fs < 15
Room (Right op left) fs = Unit {0}
Room (Sum k at m n l limit sum) fs = (length fs < 15) × (extendable m n (coordinates at) ≡ true)

pub data Resumed {E : Type 0} (a : Algebra E) (fs : List Frame) (c : ℕ) (fs' : List Frame) (f : Frame) : Focus → Type 0 where
  on_right : {op : Operation} {right : ℕ} {at : Index} → f ≡ Left op right at → fs' ≡ Right op c ∷ fs → Resumed a fs c fs' f (Down right at)
  with_left : {op : Operation} {left c' : ℕ} → f ≡ Right op left → fs' ≡ fs → decoded a c' ≡ applied a (meant op) (decoded a left) (decoded a c) → Resumed a fs c fs' f (Up c')
  to_next : {k m n l limit sum sum' : ℕ} {at inner : Index} → f ≡ Sum k at m n l limit sum → l < limit → coordinates inner ≡ inserted m n (l + 1) (coordinates at) → decoded a sum' ≡ a.plus (decoded a sum) (decoded a c) → fs' ≡ Sum k at m n (l + 1) limit sum' ∷ fs → Resumed a fs c fs' f (Down k inner)
  to_end : {k m n l limit sum sum' : ℕ} {at : Index} → f ≡ Sum k at m n l limit sum → limit ≤ l → decoded a sum' ≡ a.plus (decoded a sum) (decoded a c) → fs' ≡ fs → Resumed a fs c fs' f (Up sum')
