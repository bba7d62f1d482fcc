-- Clearing the places of one variable.
--   ClearedOne   zero stands in each place of v that lies in `wide` and not in `own`, and nothing else has changed
use Rattle.std.specs.Prelude.{◌≡◌, ℕ, true, false, List, ◌≢◌}
use Rattle.indices.specs.Places.{within}
use Rattle.stores.specs.Meaning.{Meaning, in_reach}

pub record ClearedOne {E : Type 0} (zero : E) (own wide : List ℕ) (v : ℕ) (b c : Meaning E) : Type 0 where
  pub shapes : c.shapes ≡ b.shapes
  pub reach : c.reach ≡ b.reach
  pub zeroed : (i : List ℕ) → within wide i ≡ true → within own i ≡ false → c.at v i ≡ zero
  pub kept : (w : ℕ) (i : List ℕ) → in_reach b w i ≡ true → (w ≡ v → within wide i ≡ true → within own i ≢ false) → c.at w i ≡ b.at w i
