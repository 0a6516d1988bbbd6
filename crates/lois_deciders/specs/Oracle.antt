-- Functions that ask a decider of any type: what they have to answer, and from where to where they lead.
use Rattle.std.specs.Prelude.{◌≡◌, ℕ, ◌<◌, ◌^◌, ◌↔◌, Option, Result, IfOk, IfSome, IsNone}
use Rattle.std.specs.Borrow.{Bor, MutBor}
use Rattle.std.specs.Global.{Vec}
use Rattle.std.specs.declared.alloc.Global.{Global}
use Rattle.lois_base.specs.Fits.{ConstraintFits}
use Rattle.lois_base.specs.declared.NoMemory.{NoMemory}
use Rattle.lois_base.specs.declared.guards.Constraint.{Constraint}
use Rattle.lois_deciders.specs.Satisfaction.{IsConstraintSample}
use Rattle.lois_deciders.specs.Satisfiability.{ConstraintIsSatisfiable}

-- what a call of f is given and leaves, with one constraint and with two
abbrev pub CallsWithOne : Type 0 → Type 0 → Type 1
CallsWithOne F D =
    (f : F) (before : MutBor D) → Global → Bor Constraint → (size : ℕ) → Result (Option (Vec ℕ)) NoMemory → (after : MutBor D) → Type 0

abbrev pub CallsWithTwo : Type 0 → Type 0 → Type 0 → Type 1
CallsWithTwo F D X =
    (f : F) (before : MutBor D) → Global → Bor Constraint → Bor Constraint → (size : ℕ) → Result (Option X) NoMemory → (after : MutBor D) → Type 0

-- it may be called where the constraint fits, and answers with a sample of it
pub record FindsSamples {F D : Type 0} (pre : F → MutBor D → Global → Bor Constraint → ℕ → Type 0) (post : CallsWithOne F D) : Type 0 where
  pub callable : (f : F) (d : MutBor D) (m : Global) (c : Bor Constraint) (n : ℕ) → n < 2 ^ 64 → ConstraintFits n c.now → pre f d m c n
  pub some : (f : F) (d e : MutBor D) (m : Global) (c : Bor Constraint) (n : ℕ) (r : Result (Option (Vec ℕ)) NoMemory) → n < 2 ^ 64 → ConstraintFits n c.now → post f d m c n r e → IfOk r (λ o. IfSome o (λ s. IsConstraintSample n c.now s.items))
  pub none : (f : F) (d e : MutBor D) (m : Global) (c : Bor Constraint) (n : ℕ) (r : Result (Option (Vec ℕ)) NoMemory) → n < 2 ^ 64 → ConstraintFits n c.now → post f d m c n r e → IfOk r (λ o. IsNone o ↔ (ConstraintIsSatisfiable n c.now → ⊥))

-- it may be called where both constraints fit; what it answers is as stated, and it answers nothing exactly as stated
pub record AnswersPairs {F D X : Type 0} (pre : F → MutBor D → Global → Bor Constraint → Bor Constraint → ℕ → Type 0) (post : CallsWithTwo F D X) (IsAnswer : ℕ → Constraint → Constraint → X → Type 0) (HasNone : ℕ → Constraint → Constraint → Type 0) : Type 0 where
  pub callable : (f : F) (d : MutBor D) (m : Global) (a b : Bor Constraint) (n : ℕ) → n < 2 ^ 64 → ConstraintFits n a.now → ConstraintFits n b.now → pre f d m a b n
  pub some : (f : F) (d e : MutBor D) (m : Global) (a b : Bor Constraint) (n : ℕ) (r : Result (Option X) NoMemory) → n < 2 ^ 64 → ConstraintFits n a.now → ConstraintFits n b.now → post f d m a b n r e → IfOk r (λ o. IfSome o (IsAnswer n a.now b.now))
  pub none : (f : F) (d e : MutBor D) (m : Global) (a b : Bor Constraint) (n : ℕ) (r : Result (Option X) NoMemory) → n < 2 ^ 64 → ConstraintFits n a.now → ConstraintFits n b.now → post f d m a b n r e → IfOk r (λ o. IsNone o ↔ HasNone n a.now b.now)

-- a question about one constraint may leave q of p
pub record LeadsByOne {F D : Type 0} (post : CallsWithOne F D) (p q : D) : Type 0 where
  pub asked : F
  pub before : MutBor D
  pub after : MutBor D
  pub memory : Global
  pub constraint : Bor Constraint
  pub size : ℕ
  pub answer : Result (Option (Vec ℕ)) NoMemory
  pub call : post asked before memory constraint size answer after
  pub from : before.now ≡ p
  pub to : after.now ≡ q

-- a question about two constraints may leave q of p
pub record LeadsByTwo {F D X : Type 0} (post : CallsWithTwo F D X) (p q : D) : Type 0 where
  pub asked : F
  pub before : MutBor D
  pub after : MutBor D
  pub memory : Global
  pub left : Bor Constraint
  pub right : Bor Constraint
  pub size : ℕ
  pub answer : Result (Option X) NoMemory
  pub call : post asked before memory left right size answer after
  pub from : before.now ≡ p
  pub to : after.now ≡ q
