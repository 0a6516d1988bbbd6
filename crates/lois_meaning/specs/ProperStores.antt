-- What each store keeps: its names are distinct, and its values proper.
use Rattle.std.specs.Prelude.{ℕ, All, List, map, bytes_eq}
use Rattle.std.specs.List.{IsDistinct}
use Rattle.lois_base.specs.Values.{IsProper}
use Rattle.lois_meaning.specs.Store.{NamedValue, NamedValues}

abbrev pub name_of : NamedValue → List ℕ
name_of b = b.name

-- A store has distinct names, and its values are proper ones. The laws hold of other lists too, so the definitions don't ask for it.
pub record IsStore (s : NamedValues) : Type 0 where
  pub distinct : IsDistinct bytes_eq (map name_of s)
  pub proper : All (λ b. IsProper b.holds) s
