-- Writing a tray's elements to the places of one variable.
--   SpareZero   what the tray holds for a padded place of v is zero
--   Wrote       every place in reach of v holds the tray's element, and nothing else of the meaning has changed
use Rattle.std.specs.Prelude.{◌≡◌, ℕ, true, false, List, ◌≢◌, slice_index_or}
use Rattle.indices.specs.Places.{within, place, pick}
use Rattle.stores.specs.Meaning.{Meaning, in_reach}

abbrev pub SpareZero : {E : Type 0} → E → Meaning E → ℕ → List E → Type 0
SpareZero z b v xs = (i : List ℕ) → within (pick b.reach v) i ≡ true → within (pick b.shapes v) i ≡ false → slice_index_or xs (place (pick b.reach v) i) z ≡ z

-- b is the meaning before, o after
pub record Wrote {E : Type 0} (z : E) (b : Meaning E) (v : ℕ) (xs : List E) (o : Meaning E) : Type 0 where
  pub shapes : o.shapes ≡ b.shapes
  pub reach : o.reach ≡ b.reach
  pub set : (i : List ℕ) → within (pick b.reach v) i ≡ true → o.at v i ≡ slice_index_or xs (place (pick b.reach v) i) z
  pub others : (w : ℕ) (i : List ℕ) → in_reach b w i ≡ true → (w ≢ v) → o.at w i ≡ b.at w i
