-- How many of some contexts admit a choice.
use Rattle.std.proofs.Common.{◌≡◌, ℕ, ◌+◌, ◌<◌, ◌⊎◌, inl, inr, Bool, true, false, ◌&&◌, cond, List, [], ◌∷◌, ◌++◌, length, IsTrue, refl, sym, ap, ◌∙◌, subst, arith, nat_eq, zero-add}
use Rattle.std.specs.List.{Contains}
use Rattle.std.proofs.lemmas.List.Elements.{Contains-append_left, Contains-append_right, Contains-push}
use Rattle.std.proofs.lemmas.List.Sums.{sum_by-append}
use Rattle.std.proofs.lemmas.Bool.{eqb-true, eq-eqb}
use Rattle.lois_base.specs.Atom.{Atom}
use Rattle.lois_base.specs.Truth.{holds}
use Rattle.lois_context.specs.Choices.{IsAdmitted}
use Rattle.lois_context.specs.declared.contexts.Context.{Context}
use Rattle.lois_context.proofs.Later.{first_or_later}
use Rattle.lois_context.specs.Counted.{admits, times}

both_true : (a b : Bool) → a ≡ true → IsTrue b → (a && b) ≡ true
both_true true true p q = refl
both_true true false p q = absurd (cc)
both_true false b p q = absurd (cc)

from_both : (a b : Bool) → (a && b) ≡ true → (a ≡ true) × IsTrue b
from_both true true p = (refl, refl)
from_both true false p = absurd (cc)
from_both false b p = absurd (cc)

pub admits_yes : (c : List Atom) (k : Context) → IsAdmitted c k → admits c k ≡ true
admits_yes c k h = both_true (nat_eq (length c) k.size) (holds c k.«when») (eq-eqb (length c) k.size h.0) h.1

pub admits_is : (c : List Atom) (k : Context) → admits c k ≡ true → IsAdmitted c k
admits_is c k h =
    let both = from_both (nat_eq (length c) k.size) (holds c k.«when») h in
    (eqb-true (length c) k.size both.0, both.1)

pub times_append : (c : List Atom) (xs ys : List Context) → times c (xs ++ ys) ≡ times c xs + times c ys
times_append c xs ys = sum_by-append (λ k. cond (admits c k) 1 0) xs ys

-- the same admissions, context by context
pub times_like : (c : List Atom) (k d : Context) → admits c d ≡ admits c k → times c (d ∷ []) ≡ times c (k ∷ [])
times_like c k d e = ap (λ b. 0 + cond b 1 0) e

pub times_cons : (c : List Atom) (q : Context) (ks : List Context) → times c (q ∷ ks) ≡ cond (admits c q) 1 0 + times c ks
times_cons c q ks = times_append c (q ∷ []) ks ∙ ap (λ n. n + times c ks) (zero-add (cond (admits c q) 1 0))

counted_one : (b : Bool) → b ≡ true → cond {A = ℕ} b 1 0 ≡ 1
counted_one b e = ap (λ z. cond z 1 0) e

pub admits_like : (c : List Atom) (k d : Context) → d.size ≡ k.size → d.«when» ≡ k.«when» → admits c d ≡ admits c k
admits_like c k d size is =
    ap (λ n. nat_eq (length c) n && holds c d.«when») size ∙ ap (λ g. nat_eq (length c) k.size && holds c g) is

pub times_of : (c : List Atom) (ks : List Context) (k : Context) → Contains ks k → IsAdmitted c k → 0 < times c ks
times_of c [] k h adm = absurd (omega (arith, h.1))
times_of c (q ∷ ks) k h adm = go (first_or_later q ks k h) (times_of c ks k)
  where
    go : (q ≡ k) ⊎ Contains ks k → (Contains ks k → IsAdmitted c k → 0 < times c ks) → 0 < times c (q ∷ ks)
    go (inl is) later =
        let one : cond (admits c q) 1 0 ≡ 1 = counted_one (admits c q) (admits_yes c q (subst (IsAdmitted c) (sym is) adm)) in
        omega (arith, times_cons c q ks, one)
    go (inr there) later = omega (arith, times_cons c q ks, later there adm)

pub times_some : (c : List Atom) (ks : List Context) → 0 < times c ks → (k : Context) × Contains ks k × IsAdmitted c k
times_some c [] h = absurd (omega arith)
times_some c (q ∷ ks) h = go (admits c q) refl (subst (λ n. 0 < n) (times_cons c q ks) h) (times_some c ks)
  where
    go : (b : Bool) → admits c q ≡ b → 0 < cond b 1 0 + times c ks → (0 < times c ks → (k : Context) × Contains ks k × IsAdmitted c k) → (k : Context) × Contains (q ∷ ks) k × IsAdmitted c k
    go true e l later = (q, Contains-append_left (q ∷ []) ks q (Contains-push [] q), admits_is c q e)
    go false e l later = let r = later (omega arith) in (r.0, Contains-append_right (q ∷ []) ks r.0 r.1, r.2)
