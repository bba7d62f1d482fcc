-- The kind that an arithmetic of defined values makes, with one rule for zero and for undefined operands.
--   element      the element that an operation's result is
--   null         whether an element is the zero
--   strict       an operation that is undefined where an operand is
--   coded        the code of an element
--   found        what a code decodes to, by what it decodes to among the defined values
--   text         what is written for an element, by what is written for a defined value
--   algebra_of   the kind: zero times anything, anything times zero and zero divided by anything are zero, all else is strict
use Rattle.std.specs.Prelude.{ℕ, Bool, false, cond, ◌||◌, List, Some, None, codes, Option, ◌==◌}
use Rattle.std.specs.Option.{option_and_then, option_map, option_map_or, option_zip}
use Rattle.elements.specs.declared.element.Element.{Element}
use Rattle.elements.specs.Algebra.{Algebra}
use Rattle.elements.specs.Arithmetic.{Arithmetic}

abbrev pub element : {D : Type 0} → Option D → Element D
element o = record { 0 = o }

abbrev pub null : {D : Type 0} → Arithmetic D → Element D → Bool
null a x = option_map_or a.null x.0 false

abbrev pub strict : {D : Type 0} → (D → D → Option D) → Element D → Element D → Element D
strict f x y = element (option_and_then (λ p. f p.0 p.1) (option_zip x.0 y.0))

abbrev pub coded : {D : Type 0} → Arithmetic D → Element D → ℕ
coded a x = option_map_or a.code x.0 a.blank

abbrev pub found : {D : Type 0} → Option D → Option (Element D)
found o = option_map (λ d. element (Some d)) o

abbrev pub text : {D : Type 0} → (D → Option (List ℕ)) → Element D → Option (List ℕ)
text shown x = option_map_or shown x.0 (Some (codes "undefined"))

abbrev pub algebra_of : {D : Type 0} → Arithmetic D → Algebra (Element D)
algebra_of a = record {
  number = a.number;
  zero = element (Some a.zero);
  undefined = element None;
  plus = strict a.plus;
  minus = strict a.minus;
  times = λ x y. cond (null a x || null a y) (element (Some a.zero)) (strict a.times x y);
  over = λ x y. cond (null a x) (element (Some a.zero)) (strict a.over x y);
  code = coded a;
  decode = λ c. cond (c == a.blank) (Some (element None)) (found (a.decode c));
}
