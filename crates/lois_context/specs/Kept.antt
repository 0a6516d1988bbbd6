-- What the type of a context keeps: the levels of its terms, where the comprehensions from outside end, distinct names.
use Rattle.std.specs.Prelude.{ℕ, ◌≤◌, List, map, bytes_eq}
use Rattle.std.specs.Coded.{×_prop, le_prop}
use Rattle.std.specs.List.{All, IsDistinct}
use Rattle.std.proofs.lemmas.Map.Keys.{IsDistinct-prop}
use Rattle.lois_base.specs.Fits.{Fits}
use Rattle.lois_base.specs.OneProof.{all_prop, fits_prop}
use Rattle.lois_answers.specs.ResultsData.{LineD}
use Rattle.lois_context.specs.Slots.{SlotD, slot_name}
use Rattle.lois_context.specs.ItemCounts.{comps_in}

-- A slot of a context with n levels: its term fits, and not more than its comprehensions stood there before.
abbrev pub IsSlot : ℕ → SlotD → Type 0
IsSlot n s = Fits n s.term × (s.from ≤ comps_in s.term)

abbrev pub AreSlots : ℕ → List SlotD → Type 0
AreSlots n = All (IsSlot n)

abbrev pub LinesFit : ℕ → List LineD → Type 0
LinesFit n = All (λ l. Fits n l.term)

abbrev pub HasDistinctNames : List SlotD → Type 0
HasDistinctNames s = IsDistinct bytes_eq (map slot_name s)

-- ---- each of these has at most one proof
pub are_slots_prop : (n : ℕ) (s : List SlotD) → IsProp (AreSlots n s)
are_slots_prop n s = all_prop (IsSlot n) (λ x. ×_prop (fits_prop n x.term) le_prop) s

pub lines_fit_prop : (n : ℕ) (ls : List LineD) → IsProp (LinesFit n ls)
lines_fit_prop n ls = all_prop (λ l. Fits n l.term) (λ x. fits_prop n x.term) ls

pub names_prop : (s : List SlotD) → IsProp (HasDistinctNames s)
names_prop s = IsDistinct-prop bytes_eq (map slot_name s)
