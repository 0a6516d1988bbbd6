-- Literals as words: operands and operators are read from the front in one way.
use Rattle.std.proofs.Common.{◌≡◌, ℕ, zero, suc, ◌+◌, ◌≤◌, List, [], ◌∷◌, ◌++◌, refl, sym, ap, ◌∙◌, arith, append_assoc}
use Rattle.std.specs.Bool.{IsTrue}
use Rattle.std.proofs.lemmas.Bool.{false≢true}
use Rattle.lois_answers.specs.TermText.{level_or_name_text as named_text, op_text, literal_text}
use Rattle.lois_base.specs.Validity.{is_strict}
use Rattle.lois_base.specs.declared.guards.Lit.{Lit}
use Rattle.lois_base.specs.declared.guards.Op.{Op}
use Rattle.lois_base.specs.declared.guards.Op.TheVariants.{Eq, Ne, Lt, AtMost}
use Rattle.lois_registers.specs.Texts.{operand_names}
use Rattle.lois_registers.specs.Reading.{operand_text}

pub register_text : (i : ℕ) → i ≤ 3 → operand_text (suc i) ≡ 114 ∷ (49 + i) ∷ []
register_text zero l = refl
register_text (suc zero) l = refl
register_text (suc (suc zero)) l = refl
register_text (suc (suc (suc zero))) l = refl
register_text (suc (suc (suc (suc i)))) l = absurd (omega arith)

pub operand_unique : (i j : ℕ) (a b : List ℕ) → i ≤ 4 → j ≤ 4 → operand_text i ++ a ≡ operand_text j ++ b → (i ≡ j) × (a ≡ b)
operand_unique zero zero a b l m e = (refl, cc)
operand_unique zero (suc j) a b l m e =
    let f : 120 ∷ a ≡ 114 ∷ (49 + j) ∷ b = e ∙ ap (λ z. z ++ b) (register_text j (omega arith)) in let bad : ◌≡◌ {A = ℕ} 120 114 = cc in absurd (omega (arith, bad))
operand_unique (suc i) zero a b l m e =
    let f : 114 ∷ (49 + i) ∷ a ≡ 120 ∷ b = ap (λ z. z ++ a) (sym (register_text i (omega arith))) ∙ e in let bad : ◌≡◌ {A = ℕ} 114 120 = cc in absurd (omega (arith, bad))
operand_unique (suc i) (suc j) a b l m e =
    let f : 114 ∷ (49 + i) ∷ a ≡ 114 ∷ (49 + j) ∷ b = ap (λ z. z ++ a) (sym (register_text i (omega arith))) ∙ (e ∙ ap (λ z. z ++ b) (register_text j (omega arith))) in
    let n : 49 + i ≡ 49 + j = cc in (omega arith, cc)

pub op_unique : (p q : Op) (a b : List ℕ) → IsTrue (is_strict p) → IsTrue (is_strict q) → op_text p ++ a ≡ op_text q ++ b → (p ≡ q) × (a ≡ b)
op_unique Eq Eq a b h k e = (refl, cc)
op_unique Ne Ne a b h k e = (refl, cc)
op_unique Lt Lt a b h k e = (refl, cc)
op_unique Eq Ne a b h k e = let bad : ◌≡◌ {A = ℕ} 61 33 = cc in absurd (omega (arith, bad))
op_unique Eq Lt a b h k e = let bad : ◌≡◌ {A = ℕ} 61 60 = cc in absurd (omega (arith, bad))
op_unique Ne Eq a b h k e = let bad : ◌≡◌ {A = ℕ} 33 61 = cc in absurd (omega (arith, bad))
op_unique Ne Lt a b h k e = let bad : ◌≡◌ {A = ℕ} 33 60 = cc in absurd (omega (arith, bad))
op_unique Lt Eq a b h k e = let bad : ◌≡◌ {A = ℕ} 60 61 = cc in absurd (omega (arith, bad))
op_unique Lt Ne a b h k e = let bad : ◌≡◌ {A = ℕ} 60 33 = cc in absurd (omega (arith, bad))
op_unique AtMost q a b h k e = absurd (false≢true h)
op_unique p AtMost a b h k e = absurd (false≢true k)

names_are : (i : ℕ) → i ≤ 4 → named_text operand_names i ≡ operand_text i
names_are zero l = refl
names_are (suc zero) l = refl
names_are (suc (suc zero)) l = refl
names_are (suc (suc (suc zero))) l = refl
names_are (suc (suc (suc (suc zero)))) l = refl
names_are (suc (suc (suc (suc (suc i))))) l = absurd (omega arith)

pub literal_is : (l : Lit) → l.left ≤ 4 → l.right ≤ 4 → literal_text operand_names l ≡ operand_text l.left ++ (op_text l.op ++ operand_text l.right)
literal_is l i j =
    append_assoc (named_text operand_names l.left) (op_text l.op) (named_text operand_names l.right) ∙
    (ap (λ z. z ++ (op_text l.op ++ named_text operand_names l.right)) (names_are l.left i) ∙ ap (λ z. operand_text l.left ++ (op_text l.op ++ z)) (names_are l.right j))
