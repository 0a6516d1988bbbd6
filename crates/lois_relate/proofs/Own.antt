-- Terms whose levels are those of the choice itself.
use Rattle.std.proofs.Common.{◌≡◌, ℕ, Bool, ◌↔◌, List, ◌+◌, ◌++◌, length, length-append, ap, ◌∙◌, sym, subst, arith}
use Rattle.lois_base.specs.Atom.{Atom}
use Rattle.lois_base.specs.Data.{TermD, coll, CompsD}
use Rattle.lois_base.specs.FormulaData.{FormulaD}
use Rattle.lois_base.specs.FormulaTruth.{FormulaHolds}
use Rattle.lois_base.specs.Values.{point, SameAt, AllInAt, SomeIsAt, InAt, IsIn, IsIncluded}
use Rattle.lois_relate.specs.Built.{Defines}
use Rattle.lois_relate.specs.Named.{atoms_named, AreBelow, level_range}
use Rattle.lois_relate.specs.Relations.{HoldsWhereSame, HoldsWhereIn, HoldsWhereItemIn, HoldsWhereIncluded}
use Rattle.lois_relate.proofs.Names.{chosen_own, chosen_longer, chosen_entered, own_below, length-levels_from}
use Rattle.lois_relate.proofs.Sets.{some_is_in, some_is_member, all_in_included}

then : (P Q R : Type 0) → P ↔ Q → Q ↔ R → P ↔ R
then P Q R h k = (λ p. k.0 (h.0 p), λ r. h.1 (k.1 r))

module _ (n : ℕ) (own : List ℕ) (is : own ≡ level_range 0 n) where
  pub length-own : length own ≡ n
  length-own = ap length is ∙ length-levels_from n 0

  pub all_below : AreBelow n own
  all_below = subst (AreBelow n) (sym is) (own_below n)

  unchanged : (c : List Atom) → length c ≡ n → atoms_named own c ≡ c
  unchanged c k = subst (λ z. atoms_named z c ≡ c) (sym is) (chosen_own n c k)

  module _ (A : Bool → Type 0) (f : FormulaD) where
    pub holds_where_same : (s t : TermD) → Defines n (λ c. SameAt s (atoms_named own c) t (atoms_named own c)) A f → HoldsWhereSame n s t f
    holds_where_same s t says = λ c k. subst (λ z. FormulaHolds c f ↔ SameAt s z t z) (unchanged c k) (says.truth c k)

    pub holds_where_in : (s t : TermD) (ks : CompsD) → t ≡ coll ks → Defines n (λ c. SomeIsAt ks (atoms_named own c) s (atoms_named own c)) A f → HoldsWhereIn n s t f
    holds_where_in s t ks e says = λ c k.
        let here : FormulaHolds c f ↔ SomeIsAt ks c s c = subst (λ z. FormulaHolds c f ↔ SomeIsAt ks z s z) (unchanged c k) (says.truth c k) in
        subst (λ z. FormulaHolds c f ↔ IsIn (point s c) (point z c)) (sym e) (then (FormulaHolds c f) (SomeIsAt ks c s c) (IsIn (point s c) (point (coll ks) c)) here (some_is_member s c ks c))

    pub holds_where_included : (s t : TermD) (cs ks : CompsD) → s ≡ coll cs → t ≡ coll ks → Defines n (λ c. AllInAt cs (atoms_named own c) ks (atoms_named own c)) A f → HoldsWhereIncluded n s t f
    holds_where_included s t cs ks d e says = λ c k.
        let here : FormulaHolds c f ↔ AllInAt cs c ks c = subst (λ z. FormulaHolds c f ↔ AllInAt cs z ks z) (unchanged c k) (says.truth c k) in
        subst (λ y. FormulaHolds c f ↔ IsIncluded (point y c) (point t c)) (sym d) (subst (λ z. FormulaHolds c f ↔ IsIncluded (point (coll cs) c) (point z c)) (sym e) (then (FormulaHolds c f) (AllInAt cs c ks c) (IsIncluded (point (coll cs) c) (point (coll ks) c)) here (all_in_included cs c ks c)))

-- an item behind further levels, beside a set at the first ones
module _ (n m inner : ℕ) (sum : inner ≡ n + m) (own names : List ℕ) (is : own ≡ level_range 0 n) (entered : names ≡ own ++ level_range n m) where
  pub holds_where_item_in : (A : Bool → Type 0) (f : FormulaD) (t : TermD) (ks : CompsD) → Defines inner (λ c. SomeIsAt ks (atoms_named own c) t (atoms_named names c)) A f → HoldsWhereItemIn n m t ks f
  holds_where_item_in A f t ks says c e k l =
      let below : AreBelow n own = all_below n own is in
      let own_same : atoms_named own c ≡ c = unchanged n own is c k in
      let first : atoms_named own (c ++ e) ≡ c = chosen_longer own c e (subst (λ j. AreBelow j own) (sym k) below) ∙ own_same in
      let whole : atoms_named names (c ++ e) ≡ c ++ e = subst (λ z. atoms_named z (c ++ e) ≡ c ++ e) (sym entered) (chosen_entered own n m c e k l below ∙ ap (λ z. z ++ e) own_same) in
      let long : length (c ++ e) ≡ inner = omega (arith, length-append c e) in
      let here : FormulaHolds (c ++ e) f ↔ SomeIsAt ks c t (c ++ e) = subst (λ z. FormulaHolds (c ++ e) f ↔ SomeIsAt ks z t (c ++ e)) first (subst (λ z. FormulaHolds (c ++ e) f ↔ SomeIsAt ks (atoms_named own (c ++ e)) t z) whole (says.truth (c ++ e) long)) in
      then (FormulaHolds (c ++ e) f) (SomeIsAt ks c t (c ++ e)) (InAt t (c ++ e) ks c) here (some_is_in t (c ++ e) ks c)
