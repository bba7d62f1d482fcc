-- That equality of indices is an equivalence. Assumes nothing.
use Rattle.std.specs.Cmp.{IsEquivalence, IsPartialEquivalence, on_equiv, on_per, partial_equiv_from_equiv}
use Rattle.std.specs.Cmp.Lexicographic.{nat_list_eq_equiv}
use Rattle.indices.specs.Dimensions.{same}
use Rattle.indices.specs.Coordinates.{coordinates}
use Rattle.indices.specs.declared.index.Index.{Index}

pub same_equivalence : IsEquivalence (λ (x y : Index). same (coordinates x) (coordinates y))
same_equivalence = on_equiv coordinates nat_list_eq_equiv

pub same_partial : IsPartialEquivalence (λ (x y : Index). same (coordinates x) (coordinates y))
same_partial = on_per coordinates (partial_equiv_from_equiv nat_list_eq_equiv)
