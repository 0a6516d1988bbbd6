-- What joining leaves of the slots from before: the sets have got more comprehensions at their ends, and nothing else has changed.
use Rattle.std.proofs.Common.{◌≡◌, ℕ, false, List, [], ◌∷◌, ◌++◌, map, Some, refl, sym, ap, ◌∙◌, subst, append_assoc, append-nil, if◌then◌else◌, bytes_eq}
use Rattle.std.proofs.lemmas.Slice.Eq.{bytes_eq-Decides}
use Rattle.std.specs.List.{AllByRecursion, IsDistinct}
use Rattle.lois_base.specs.Atom.{Atom}
use Rattle.lois_base.specs.Data.{TermD, var, tag, tup, coll, CompD, comps_of}
use Rattle.lois_base.specs.Values.{point}
use Rattle.lois_base.specs.declared.guards.Lit.{Lit}
use Rattle.lois_context.specs.Entered.{items_listed}
use Rattle.lois_context.specs.Joined.{IsJoinedTerm, AreJoinedSlots, AreJoined}
use Rattle.lois_context.specs.Kept.{HasDistinctNames}
use Rattle.lois_context.specs.Slots.{SlotD, slot_name, store_at}
use Rattle.lois_context.specs.declared.contexts.Context.{Context}
use Rattle.lois_context.proofs.Entered.{listed_of}
use Rattle.lois_context.proofs.Joined.{of_listed}
use Rattle.lois_meaning.specs.Store.{looked_up}
use Rattle.lois_context.proofs.Joined.{of_listed}

-- slot by slot
abbrev pub ArePaired : (SlotD → SlotD → Type 0) → List SlotD → List SlotD → Type 0
ArePaired P [] [] = Unit {0}
ArePaired P (b ∷ bs) (r ∷ rs) = P b r × ArePaired P bs rs
ArePaired P _ _ = ⊥

pub paired_with : (P Q R : SlotD → SlotD → Type 0) (bs rs : List SlotD) → ((b r : SlotD) → P b r → Q b r → R b r) → ArePaired P bs rs → ArePaired Q bs rs → ArePaired R bs rs
paired_with P Q R [] [] f h k = tt
paired_with P Q R (b ∷ bs) (r ∷ rs) f h k = (f b r h.0 k.0, paired_with P Q R bs rs f h.1 k.1)
paired_with P Q R [] (r ∷ rs) f h k = absurd h
paired_with P Q R (b ∷ bs) [] f h k = absurd h

abbrev pub IsLongerTerm : TermD → TermD → Type 0
IsLongerTerm (coll ks) t = (added : List CompD) × (t ≡ coll (comps_of (items_listed ks ++ added)))
IsLongerTerm s t = t ≡ s

pub record IsLonger (s t : SlotD) : Type 0 where
  pub name : t.name ≡ s.name
  pub from : t.from ≡ s.from
  pub term : IsLongerTerm s.term t.term

longer_term_refl : (s : TermD) → IsLongerTerm s s
longer_term_refl (coll ks) = ([], ap coll (sym (ap comps_of (append-nil (items_listed ks)) ∙ of_listed ks)))
longer_term_refl (var i) = refl
longer_term_refl (tag x) = refl
longer_term_refl (tup ts) = refl

longer_term_trans : (s t u : TermD) → IsLongerTerm s t → IsLongerTerm t u → IsLongerTerm s u
longer_term_trans (coll ks) t u (a, e) k =
    let further : IsLongerTerm (coll (comps_of (items_listed ks ++ a))) u = subst (λ z. IsLongerTerm z u) e k in
    let listed : items_listed (comps_of (items_listed ks ++ a)) ++ further.0 ≡ items_listed ks ++ (a ++ further.0) =
    ap (λ z. z ++ further.0) (listed_of (items_listed ks ++ a)) ∙ append_assoc (items_listed ks) a further.0 in
    (a ++ further.0, further.1 ∙ ap (λ z. coll (comps_of z)) listed)
longer_term_trans (var i) t u h k = subst (λ z. IsLongerTerm z u) h k
longer_term_trans (tag x) t u h k = subst (λ z. IsLongerTerm z u) h k
longer_term_trans (tup ts) t u h k = subst (λ z. IsLongerTerm z u) h k

joined_term_longer : (g : List (List Lit)) (by : ℕ) (added : List CompD) (s t : TermD) → IsJoinedTerm g by added s t → IsLongerTerm s t
joined_term_longer g by added (coll ks) t (moved, are, e) = (moved, e)
joined_term_longer g by added (var i) t h = h
joined_term_longer g by added (tag x) t h = h
joined_term_longer g by added (tup ts) t h = h

abbrev pub AreLonger : List SlotD → List SlotD → Type 0
AreLonger = ArePaired IsLonger

longer_refl : (ss : List SlotD) → AreLonger ss ss
longer_refl [] = tt
longer_refl (s ∷ ss) = (record { name = refl; from = refl; term = longer_term_refl s.term }, longer_refl ss)

longer_trans : (ss ts us : List SlotD) → AreLonger ss ts → AreLonger ts us → AreLonger ss us
longer_trans [] [] [] h k = tt
longer_trans (s ∷ ss) (t ∷ ts) (u ∷ us) h k =
    (record { name = k.0.name ∙ h.0.name; from = k.0.from ∙ h.0.from; term = longer_term_trans s.term t.term u.term h.0.term k.0.term }, longer_trans ss ts us h.1 k.1)
longer_trans _ _ _ h k = absurd (assumption (h, k))

slots_longer : (g : List (List Lit)) (by : ℕ) (es ss ts : List SlotD) → AreJoinedSlots g by es ss ts → AreLonger ss ts
slots_longer g by es [] [] h = tt
slots_longer g by (e ∷ es) (s ∷ ss) (t ∷ ts) h =
    (record { name = h.0.name; from = h.0.from; term = joined_term_longer g by _ s.term t.term h.0.term }, slots_longer g by es ss ts h.1)
slots_longer g by [] (s ∷ ss) ts h = absurd h
slots_longer g by [] [] (t ∷ ts) h = absurd h
slots_longer g by (e ∷ es) [] (t ∷ ts) h = absurd h
slots_longer g by (e ∷ es) (s ∷ ss) [] h = absurd h

-- the store behind a loop
pub joined_longer : (n : ℕ) (ds : List Context) (ss rs : List SlotD) → AreJoined n ds ss rs → AreLonger ss rs
joined_longer n [] ss rs h = subst (λ z. AreLonger ss z) (sym h) (longer_refl ss)
joined_longer n (d ∷ ds) ss rs (ts, one, rest) = longer_trans ss ts rs (slots_longer d.«when» _ d.store ss ts one) (joined_longer n ds ts rs rest)

-- ---- what is found under the names of the slots
abbrev pub AreFound : List Atom → List SlotD → List SlotD → SlotD → SlotD → Type 0
AreFound c bs rs b r = (looked_up b.name (store_at c bs) ≡ Some (point b.term c)) × (looked_up b.name (store_at c rs) ≡ Some (point r.term c))

found_later : (c : List Atom) (b r : SlotD) (bs rs xs ys : List SlotD) → r.name ≡ b.name → AllByRecursion (λ y. bytes_eq b.name y ≡ false) (map slot_name xs) → ArePaired (AreFound c bs rs) xs ys → ArePaired (AreFound c (b ∷ bs) (r ∷ rs)) xs ys
found_later c b r bs rs [] [] e apart h = tt
found_later c b r bs rs (x ∷ xs) (y ∷ ys) e apart h = (
  (
    ap (λ p. if p then Some (point b.term c) else looked_up x.name (store_at c bs)) apart.0 ∙ h.0.0,
    ap (λ p. if p then Some (point r.term c) else looked_up x.name (store_at c rs)) (ap (λ z. bytes_eq z x.name) e ∙ apart.0) ∙ h.0.1,
  ),
  found_later c b r bs rs xs ys e apart.1 h.1,
)
found_later c b r bs rs [] (y ∷ ys) e apart h = absurd h
found_later c b r bs rs (x ∷ xs) [] e apart h = absurd h

pub all_found : (c : List Atom) (bs rs : List SlotD) → HasDistinctNames bs → AreLonger bs rs → ArePaired (AreFound c bs rs) bs rs
unfolding IsDistinct
all_found c [] [] d h = tt
all_found c (b ∷ bs) (r ∷ rs) d h = (
  (
    ap (λ p. if p then Some (point b.term c) else looked_up b.name (store_at c bs)) ((bytes_eq-Decides b.name b.name).1 refl),
    ap (λ p. if p then Some (point r.term c) else looked_up b.name (store_at c rs)) ((bytes_eq-Decides r.name b.name).1 h.0.name),
  ),
  found_later c b r bs rs bs rs h.0.name d.0 (all_found c bs rs d.1 h.1),
)
all_found c [] (r ∷ rs) d h = absurd h
all_found c (b ∷ bs) [] d h = absurd h
