-- Sets that are the same, members and inclusion, comprehension by comprehension.
use Rattle.std.proofs.Common.{◌≡◌, suc, ◌↔◌, List, [], ◌∷◌, length, refl, ap}
use Rattle.lois_base.specs.Atom.{Atom}
use Rattle.lois_base.specs.Data.{TermD, coll, CompsD, terms_of}
use Rattle.lois_base.specs.Values.{point, SameAt, SamePartsAt, AllInAt, SomeIsAt, InAt, IsIn, IsIncluded}
use Rattle.lois_base.proofs.Same.{same_at_sym, all_in_is, is_all_in, some_is_is, is_some_is}

pub sets_same : (cs : CompsD) (c : List Atom) (ss : CompsD) (d : List Atom) → SameAt (coll cs) c (coll ss) d ↔ (AllInAt cs c ss d × AllInAt ss d cs c)
sets_same cs c ss d = (
  λ h. (h.0, (same_at_sym (coll cs) c (coll ss) d h).0),
  λ h. (
    h.0,
    λ w x m.
        let i : InAt w x cs c = all_in_is ss d cs c h.1 w x m in
        is_some_is cs c w x i.0 i.1 i.2 (same_at_sym w x i.0 i.1 i.3),
  ),
)

pub some_is_in : (t : TermD) (c : List Atom) (ss : CompsD) (d : List Atom) → SomeIsAt ss d t c ↔ InAt t c ss d
some_is_in t c ss d = (
  λ h. let i = some_is_is ss d t c h in (i.0, i.1, i.2, same_at_sym i.0 i.1 t c i.3),
  λ i. is_some_is ss d t c i.0 i.1 i.2 (same_at_sym t c i.0 i.1 i.3),
)

pub some_is_member : (t : TermD) (c : List Atom) (ss : CompsD) (d : List Atom) → SomeIsAt ss d t c ↔ IsIn (point t c) (point (coll ss) d)
some_is_member t c ss d = (
  λ h. let i = (some_is_in t c ss d).0 h in (point i.0 i.1, i.2, i.3),
  λ i. (some_is_in t c ss d).1 ((i.0).term_of, (i.0).choice, i.1, i.2),
)

pub all_in_included : (cs : CompsD) (c : List Atom) (ss : CompsD) (d : List Atom) → AllInAt cs c ss d ↔ IsIncluded (point (coll cs) c) (point (coll ss) d)
all_in_included cs c ss d = (
  λ h u m. let i : InAt u.term_of u.choice ss d = all_in_is cs c ss d h u.term_of u.choice m in (point i.0 i.1, i.2, i.3),
  λ h. is_all_in cs c ss d (λ w x m.
      let i : IsIn (point w x) (point (coll ss) d) = h (point w x) m in ((i.0).term_of, (i.0).choice, i.1, i.2)),
)

-- tuples of other widths differ
pub parts_as_many : (ts ss : List TermD) (c d : List Atom) → SamePartsAt (terms_of ts) c (terms_of ss) d → length ts ≡ length ss
parts_as_many [] [] c d h = refl
parts_as_many (t ∷ ts) (s ∷ ss) c d h = ap suc (parts_as_many ts ss c d h.1)
parts_as_many [] (s ∷ ss) c d h = absurd h
parts_as_many (t ∷ ts) [] c d h = absurd h
