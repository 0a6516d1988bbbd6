-- The slots of a store as contracts see them, and the values that a store and lines have at a choice of atoms.
use Rattle.std.specs.Prelude.{ℕ, List, map, IsFalse, bytes_eq}
use Rattle.std.specs.List.{All}
use Rattle.std.proofs.Common.{refl}
use Rattle.std.specs.Coded.{Coded, code_by, coded_ℕ, coded_list, coded×}
use Rattle.lois_base.specs.Atom.{Atom}
use Rattle.lois_base.specs.Codes.{term_code}
use Rattle.lois_base.specs.Data.{TermD}
use Rattle.lois_base.specs.Values.{point}
use Rattle.lois_meaning.specs.Store.{NamedValue, NamedValues, named}

-- A name with the term that it holds. In a set from outside of a loop the first `from` comprehensions stood there when the
-- loop was entered.
pub record SlotD : Type 0 where
  pub name : List ℕ
  pub term : TermD
  pub from : ℕ

abbrev pub slot_code : Coded SlotD
slot_code =
    code_by (List ℕ × (TermD × ℕ)) (coded× (coded_list coded_ℕ) (coded× term_code coded_ℕ)) (λ s. (s.name, (s.term, s.from))) (λ p. record { name = p.0; term = p.1.0; from = p.1.1 }) (λ _. refl)

abbrev pub slots_code : Coded (List SlotD)
slots_code = coded_list slot_code

abbrev pub slot_name : SlotD → List ℕ
slot_name s = s.name

-- no slot has the name
abbrev pub IsNew : List ℕ → List SlotD → Type 0
IsNew x = All (λ s. IsFalse (bytes_eq s.name x))

-- what a store holds at a choice
abbrev pub slot_at : List Atom → SlotD → NamedValue
slot_at c s = named s.name (point s.term c)

abbrev pub store_at : List Atom → List SlotD → NamedValues
store_at c = map (slot_at c)
