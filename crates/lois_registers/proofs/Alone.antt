-- A text is that of one register automaton.
use Rattle.std.proofs.Common.{◌≡◌, ◌+◌, ℕ, zero, suc, ◌≤◌, Bool, List, [], ◌∷◌, ◌++◌, length, map, refl, sym, ap, subst, ◌∙◌, inl, inr, arith, append-nil}
use Rattle.std.specs.Prelude.{codes}
use Rattle.std.specs.List.{All, flat_map, join_with_byte}
use Rattle.std.proofs.lemmas.List.{length-append}
use Rattle.std.proofs.lemmas.List.Elements.{All-head, All-tail, All-weaker}
use Rattle.lois_answers.specs.TermText.{literal_text, op_text}
use Rattle.lois_base.specs.declared.guards.Lit.{Lit}
use Rattle.lois_registers.specs.Places.{IsRegistersOf}
use Rattle.lois_registers.specs.Texts.{operand_names, digit, linked_words, guard_words, stored_words, step_words, order_words, count_words, text_of_words, front_lines, end_words}
use Rattle.lois_registers.specs.Reading.{operand_text}
use Rattle.lois_registers.specs.Valid.{IsLiteral, IsRegStep, IsRegisters}
use Rattle.lois_registers.specs.declared.automata.RegStep.{RegStep}
use Rattle.lois_registers.specs.declared.automata.Registers.{Registers}
use Rattle.lois_registers.proofs.Increasing.{digits_same}
use Rattle.lois_registers.proofs.Linked.{anded, linked_anded}
use Rattle.lois_registers.proofs.Literals.{literal_is, operand_unique, op_unique, register_text}
use Rattle.lois_registers.proofs.StepWords.{first_unique, guard_are, IsGuardWord}
use Rattle.lois_registers.proofs.Stops.{same_order, same_count}
use Rattle.lois_registers.proofs.Unique.{front_are, two_beginnings}

anded_same : (ws vs : List (List ℕ)) → anded ws ≡ anded vs → ws ≡ vs
anded_same [] [] e = refl
anded_same [] (v ∷ vs) e = absurd (cc)
anded_same (w ∷ ws) [] e = absurd (cc)
anded_same (w ∷ ws) (v ∷ vs) e =
    let first : w ≡ v = cc in
    let rest : anded ws ≡ anded vs = cc in
    ap (λ z. z ∷ ws) first ∙ ap (λ z. v ∷ z) (anded_same ws vs rest)

not_true : (i : ℕ) (t : List ℕ) → i ≤ 4 → operand_text i ++ t ≡ codes "true" → ⊥
not_true zero t l e = let bad : ◌≡◌ {A = ℕ} 120 116 = cc in absurd (omega (arith, bad))
not_true (suc i) t l e =
    let f : 114 ∷ (49 + i) ∷ t ≡ codes "true" = ap (λ z. z ++ t) (sym (register_text i (omega (arith, l)))) ∙ e in
    let bad : ◌≡◌ {A = ℕ} 114 116 = cc in absurd (omega (arith, bad))

module _ (ordered : Bool) (n : ℕ) (small : n ≤ 4) where
  literal_same : (l k : Lit) → IsLiteral ordered n l → IsLiteral ordered n k → literal_text operand_names l ≡ literal_text operand_names k → l ≡ k
  literal_same l k h i e =
      let la : l.left ≤ 4 = omega (arith, h.left, small) in
      let lb : l.right ≤ 4 = omega (arith, h.right, small) in
      let ka : k.left ≤ 4 = omega (arith, i.left, small) in
      let kb : k.right ≤ 4 = omega (arith, i.right, small) in
      let one = operand_unique l.left k.left (op_text l.op ++ operand_text l.right) (op_text k.op ++ operand_text k.right) la ka (sym (literal_is l la lb) ∙ (e ∙ literal_is k ka kb)) in
      let two = op_unique l.op k.op (operand_text l.right) (operand_text k.right) h.strict i.strict one.1 in
      let three = operand_unique l.right k.right [] [] lb kb (append-nil (operand_text l.right) ∙ (two.1 ∙ sym (append-nil (operand_text k.right)))) in
      ap (λ z. record { op = z; left = l.left; right = l.right }) two.0 ∙ (ap (λ z. record { op = k.op; left = z; right = l.right }) one.0 ∙ ap (λ z. record { op = k.op; left = k.left; right = z }) three.0)

  literals_same : (ls ks : List Lit) → All (IsLiteral ordered n) ls → All (IsLiteral ordered n) ks → map (literal_text operand_names) ls ≡ map (literal_text operand_names) ks → ls ≡ ks
  literals_same [] [] h i e = refl
  literals_same [] (k ∷ ks) h i e = absurd (cc)
  literals_same (l ∷ ls) [] h i e = absurd (cc)
  literals_same (l ∷ ls) (k ∷ ks) h i e =
      let first : literal_text operand_names l ≡ literal_text operand_names k = cc in
      let rest : map (literal_text operand_names) ls ≡ map (literal_text operand_names) ks = cc in
      let same = literal_same l k (All-head (IsLiteral ordered n) l ls h) (All-head (IsLiteral ordered n) k ks i) first in
      ap (λ z. z ∷ ls) same ∙ ap (λ z. k ∷ z) (literals_same ls ks (All-tail (IsLiteral ordered n) l ls h) (All-tail (IsLiteral ordered n) k ks i) rest)

  no_true : (l : Lit) (ls : List Lit) → IsLiteral ordered n l → codes "true" ∷ [] ≡ linked_words (l ∷ ls) → ⊥
  no_true l ls h e =
      let la : l.left ≤ 4 = omega (arith, h.left, small) in
      let lb : l.right ≤ 4 = omega (arith, h.right, small) in
      let both : (codes "true" ∷ []) ++ codes "and" ∷ [] ≡ anded (map (literal_text operand_names) (l ∷ ls)) = ap (λ z. z ++ codes "and" ∷ []) e ∙ linked_anded (literal_text operand_names l) (map (literal_text operand_names) ls) in
      let first : codes "true" ≡ literal_text operand_names l = cc in
      not_true l.left (op_text l.op ++ operand_text l.right) la (sym (literal_is l la lb) ∙ sym first)

  guard_same : (ls ks : List Lit) → All (IsLiteral ordered n) ls → All (IsLiteral ordered n) ks → guard_words ls ≡ guard_words ks → ls ≡ ks
  guard_same [] [] h i e = refl
  guard_same [] (k ∷ ks) h i e = absurd (no_true k ks (All-head (IsLiteral ordered n) k ks i) e)
  guard_same (l ∷ ls) [] h i e = absurd (no_true l ls (All-head (IsLiteral ordered n) l ls h) (sym e))
  guard_same (l ∷ ls) (k ∷ ks) h i e =
      literals_same (l ∷ ls) (k ∷ ks) h i
      (anded_same (map (literal_text operand_names) (l ∷ ls)) (map (literal_text operand_names) (k ∷ ks))
      (sym (linked_anded (literal_text operand_names l) (map (literal_text operand_names) ls)) ∙
      (ap (λ z. z ++ codes "and" ∷ []) e ∙ linked_anded (literal_text operand_names k) (map (literal_text operand_names) ks))))

no_none : (i : ℕ) (is : List ℕ) → codes "none" ∷ [] ≡ map digit (i ∷ is) → ⊥
no_none i is e =
    let first : codes "none" ≡ digit i = cc in
    let bad : ◌≡◌ {A = ℕ} 4 1 = ap length first in absurd (omega (arith, bad))

stored_same : (is js : List ℕ) → stored_words is ≡ stored_words js → is ≡ js
stored_same [] [] e = refl
stored_same [] (j ∷ js) e = absurd (no_none j js e)
stored_same (i ∷ is) [] e = absurd (no_none i is (sym e))
stored_same (i ∷ is) (j ∷ js) e = digits_same (i ∷ is) (j ∷ js) e

module _ (ordered : Bool) (n : ℕ) (states : List (List ℕ)) (small : n ≤ 4) where
  step_same : (s t : RegStep) → IsRegStep ordered n states s → IsRegStep ordered n states t → step_words s ≡ step_words t → s ≡ t
  step_same s t h i e =
      let from : s.from ≡ t.from = cc in
      let to : s.to ≡ t.to = cc in
      let tail : guard_words s.guard ++ codes "store" ∷ stored_words s.stored ≡ guard_words t.guard ++ codes "store" ∷ stored_words t.stored = cc in
      let cut = first_unique (codes "store") (guard_words s.guard) (guard_words t.guard) (stored_words s.stored) (stored_words t.stored)
      (All-weaker IsGuardWord (λ w. w ≡ codes "store" → ⊥) (λ w h. h.1) (guard_words s.guard) (guard_are ordered n s.guard small h.guard.literals))
      (All-weaker IsGuardWord (λ w. w ≡ codes "store" → ⊥) (λ w h. h.1) (guard_words t.guard) (guard_are ordered n t.guard small i.guard.literals)) tail in
      let guards = guard_same ordered n small s.guard t.guard h.guard.literals i.guard.literals cut.0 in
      let stores = stored_same s.stored t.stored cut.1 in
      ap (λ z. record { from = z; to = s.to; guard = s.guard; stored = s.stored }) from ∙ (ap (λ z. record { from = t.from; to = z; guard = s.guard; stored = s.stored }) to ∙
      (ap (λ z. record { from = t.from; to = t.to; guard = z; stored = s.stored }) guards ∙ ap (λ z. record { from = t.from; to = t.to; guard = t.guard; stored = z }) stores))

  steps_same : (ss ts : List RegStep) → All (IsRegStep ordered n states) ss → All (IsRegStep ordered n states) ts → map step_words ss ≡ map step_words ts → ss ≡ ts
  steps_same [] [] h i e = refl
  steps_same [] (t ∷ ts) h i e = absurd (cc)
  steps_same (s ∷ ss) [] h i e = absurd (cc)
  steps_same (s ∷ ss) (t ∷ ts) h i e =
      let first : step_words s ≡ step_words t = cc in
      let rest : map step_words ss ≡ map step_words ts = cc in
      let same = step_same s t (All-head (IsRegStep ordered n states) s ss h) (All-head (IsRegStep ordered n states) t ts i) first in
      ap (λ z. z ∷ ss) same ∙ ap (λ z. t ∷ z) (steps_same ss ts (All-tail (IsRegStep ordered n states) s ss h) (All-tail (IsRegStep ordered n states) t ts i) rest)

-- the lines of a text but its last one are those of one register automaton
lines_same : (r s : Registers) → IsRegisters r → IsRegisters s → flat_map text_of_words (front_lines r) ++ text_of_words end_words ≡ flat_map text_of_words (front_lines s) ++ text_of_words end_words → front_lines r ≡ front_lines s
lines_same r s h i e =
    elim (two_beginnings (front_lines r) (front_lines s) (text_of_words end_words) (text_of_words end_words) (front_are r h) (front_are s i) e) [
      | inl (zs, f, g) ↦ closed (front_lines r) (front_lines s) zs f g
      | inr (zs, f, g) ↦ sym (closed (front_lines s) (front_lines r) zs f g)
    ]
  where
    closed : (xs ys zs : List (List (List ℕ))) → ys ≡ xs ++ zs → text_of_words end_words ≡ flat_map text_of_words zs ++ text_of_words end_words → xs ≡ ys
    closed xs ys [] f g = sym (f ∙ append-nil xs)
    closed xs ys (z ∷ zs) f g =
        absurd (omega (arith, ap length g, length-append (flat_map text_of_words (z ∷ zs)) (text_of_words end_words), length-append (text_of_words z) (flat_map text_of_words zs), length-append (join_with_byte 32 z) (10 ∷ [])))

pub one_automaton : (text : List ℕ) (r s : Registers) → IsRegistersOf text r → IsRegistersOf text s → s ≡ r
one_automaton text r s h i =
    let e = lines_same s r i.valid h.valid (i.same ∙ sym h.same) in
    let orders : order_words s.order ≡ order_words r.order = cc in
    let counts : count_words s.registers ≡ count_words r.registers = cc in
    let order = same_order s.order r.order orders in
    let registers = same_count s.registers r.registers counts in
    let states : s.states ≡ r.states = cc in
    let initial : s.initial ≡ r.initial = cc in
    let finals : s.finals ≡ r.finals = cc in
    let tails : map step_words s.steps ≡ map step_words r.steps = cc in
    let moved = subst (λ z. All (IsRegStep z r.registers r.states) s.steps) order (subst (λ z. All (IsRegStep s.order z r.states) s.steps) registers (subst (λ z. All (IsRegStep s.order s.registers z) s.steps) states i.valid.steps)) in
    let steps = steps_same r.order r.registers r.states h.valid.few s.steps r.steps moved h.valid.steps tails in
    whole s.order r.order s.registers r.registers s.states r.states s.initial r.initial s.finals r.finals s.steps r.steps order registers states initial finals steps
  where
    whole : (o p : Bool) (k m : ℕ) (a b : List (List ℕ)) (c d : List ℕ) (e f : List (List ℕ)) (g h : List RegStep) → o ≡ p → k ≡ m → a ≡ b → c ≡ d → e ≡ f → g ≡ h →
        ◌≡◌ {A = Registers} (record { order = o; registers = k; states = a; initial = c; finals = e; steps = g }) (record { order = p; registers = m; states = b; initial = d; finals = f; steps = h })
    whole o p k m a b c d e f g h q1 q2 q3 q4 q5 q6 = cc
