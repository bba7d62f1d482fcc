-- Why a store is not made.
--   Refuses   a refusal is that of an answer; that memory ran out says nothing of it
use Rattle.std.specs.Prelude.{◌≡◌}
use Rattle.refusals.specs.Refusals.{Answer, refused, number_of, position_of}
use Rattle.samples.specs.declared.layouts.NotMade.{NotMade}
use Rattle.samples.specs.declared.layouts.NotMade.TheVariants.{Refused, OutOfMemory}

abbrev pub Refuses : {X : Type 0} → NotMade → Answer X → Type 0
Refuses (Refused e) a = refused (number_of e) (position_of e) ≡ a
Refuses OutOfMemory a = Unit
