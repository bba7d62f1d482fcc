-- The entries of an index.
--   coordinates   one for each dimension
--   Holds         what is made of a list of entries: the index of them, if there are at most eight
use Rattle.std.specs.Prelude.{◌≡◌, ℕ, cond, List, length, take, Some, None, Result, nat_le}
use Rattle.std.specs.Option.{option_map}
use Rattle.std.specs.Result.{result_ok}
use Rattle.indices.specs.declared.index.Index.{Index}

abbrev pub coordinates : Index → List ℕ
coordinates i = take i.len i.coords

abbrev pub Holds : {E : Type 0} → List ℕ → Result Index E → Type 0
Holds entries r = option_map coordinates (result_ok r) ≡ cond (nat_le (length entries) 8) (Some entries) None
