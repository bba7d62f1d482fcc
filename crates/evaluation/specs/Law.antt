-- The law of padding: a layout cannot matter to the value of an expression.
--   Shows   an element function gives the elements of a store at every place in shape
--   Law     of a store: outside its shape every expression that has a type is zero, and inside it padding changes nothing
use Rattle.std.specs.Prelude.{◌≡◌, ℕ, true, false, List}
use Rattle.elements.specs.Algebra.{Algebra}
use Rattle.indices.specs.Places.{within}
use Rattle.sheets.specs.Language.{Expr, Typed}
use Rattle.stores.specs.Meaning.{Meaning, Lawful, in_shape}
use Rattle.evaluation.specs.Value.{spans, value}

abbrev pub Shows : {E : Type 0} → (ℕ → List ℕ → E) → Meaning E → Type 0
Shows at b = (v : ℕ) (i : List ℕ) → in_shape b v i ≡ true → at v i ≡ b.at v i

pub record Law {E : Type 0} (a : Algebra E) (b : Meaning E) : Type 0 where
  -- in reach and not in shape the value is zero
  pub spare : (e : Expr) (s i : List ℕ) → Typed b.shapes e s → within (spans b.reach e) i ≡ true → within s i ≡ false → value a b.at b.reach e i ≡ a.zero
  -- in shape the value with the rounded limits is that with the true extents, over the elements in shape alone
  pub plain : (e : Expr) (s i : List ℕ) (at : ℕ → List ℕ → E) → Typed b.shapes e s → within s i ≡ true → Shows at b → value a b.at b.reach e i ≡ value a at b.shapes e i
  -- any other store with these shapes and these elements in shape, however it is padded, gives the same in shape
  pub alike : (e : Expr) (s i : List ℕ) (o : Meaning E) → Typed b.shapes e s → within s i ≡ true → Lawful a.zero o → o.shapes ≡ b.shapes → Shows o.at b → value a o.at o.reach e i ≡ value a b.at b.reach e i
