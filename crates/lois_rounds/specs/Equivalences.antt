-- To be equivalent is an equivalence of families.
use Rattle.std.specs.Prelude.{[], ◌∷◌, refl}
use Rattle.std.proofs.Common.{sym, ◌∙◌}
use Rattle.lois_rounds.specs.Families.{MemberD, FamilyD, IsEquivalent, AreEquivalent}

member_sym : (m n : MemberD) → IsEquivalent m n → IsEquivalent n m
member_sym m n h = record { size = sym h.size; truth = λ c l. sym (h.truth c (l ∙ sym h.size)) }

member_trans : (m n o : MemberD) → IsEquivalent m n → IsEquivalent n o → IsEquivalent m o
member_trans m n o h k =
    record { size = h.size ∙ k.size; truth = λ c l. h.truth c l ∙ k.truth c (l ∙ h.size) }

pub equivalent_refl : (f : FamilyD) → AreEquivalent f f
equivalent_refl [] = tt
equivalent_refl (m ∷ f) = (record { size = refl; truth = λ c l. refl }, equivalent_refl f)

pub equivalent_sym : (f g : FamilyD) → AreEquivalent f g → AreEquivalent g f
equivalent_sym [] [] h = tt
equivalent_sym [] (n ∷ g) h = absurd h
equivalent_sym (m ∷ f) [] h = absurd h
equivalent_sym (m ∷ f) (n ∷ g) h = (member_sym m n h.0, equivalent_sym f g h.1)

pub equivalent_trans : (f g h : FamilyD) → AreEquivalent f g → AreEquivalent g h → AreEquivalent f h
equivalent_trans [] [] h a b = b
equivalent_trans [] (n ∷ g) h a b = absurd a
equivalent_trans (m ∷ f) [] h a b = absurd a
equivalent_trans (m ∷ f) (n ∷ g) [] a b = absurd b
equivalent_trans (m ∷ f) (n ∷ g) (o ∷ h) a b = (member_trans m n o a.0 b.0, equivalent_trans f g h a.1 b.1)
