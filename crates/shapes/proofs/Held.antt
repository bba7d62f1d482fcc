-- What an index made of a list of entries tells. Assumes nothing.
use Rattle.std.proofs.Common.{◌≡◌, ℕ, ◌<◌, leb, List, length, Some, None, Result, ap, ◌∙◌}
use Rattle.std.proofs.lemmas.Bool.{leb-false}
use Rattle.std.specs.Option.{option_map}
use Rattle.std.specs.Result.{result_ok}
use Rattle.indices.specs.declared.index.Index.{Index}
use Rattle.indices.specs.Coordinates.{coordinates, Holds}
use Rattle.shapes.proofs.Asked.{some_since, none_since}

module _ {E : Type 0} (xs : List ℕ) (r : Result Index E) (h : Holds xs r) where
  pub held : (i : Index) → Some i ≡ result_ok r → coordinates i ≡ xs
  held i e = (some_since (leb (length xs) 8) (coordinates i) xs (ap (option_map coordinates) e ∙ h)).1

  pub unheld : None ≡ result_ok r → 8 < length xs
  unheld e = leb-false (length xs) 8 (none_since (leb (length xs) 8) xs (ap (option_map coordinates) e ∙ h))
