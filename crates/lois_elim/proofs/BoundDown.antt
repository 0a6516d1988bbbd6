-- Levels bound one after another, from the highest down.
use Rattle.std.proofs.Common.{◌≡◌, ℕ, suc, ◌+◌, ◌-◌, ◌≤◌, Bool, List, [], ◌∷◌, ◌++◌, length, length-append, append_assoc, sym, subst, arith}
use Rattle.std.proofs.lemmas.List.{append-nil}
use Rattle.std.specs.Bool.{IsTrue}
use Rattle.lois_base.specs.Atom.{Atom}
use Rattle.lois_base.specs.Fits.{ConstraintFits}
use Rattle.lois_base.specs.Truth.{holds}
use Rattle.lois_base.specs.Validity.{AdmitsConstraint}
use Rattle.lois_base.specs.declared.guards.Lit.{Lit}
use Rattle.lois_base.specs.Bound.{HoldsForSome}
use Rattle.lois_elim.specs.Bound.{HoldsForSomeMore}

-- of the levels from n on, `all` of them, those from n + m on are bound
pub record IsBoundDown (n all m : ℕ) (c left : List (List Lit)) : Type 0 where
  pub most : m ≤ all
  pub truth : HoldsForSomeMore (n + m) (all - m) c left
  pub levels : ConstraintFits (n + m) left
  pub operators : (o : Bool) → AdmitsConstraint o c → AdmitsConstraint o left

pub bound_none : (n all : ℕ) (c : List (List Lit)) → ConstraintFits (n + all) c → IsBoundDown n all all c c
bound_none n all c fits = record {
  most = omega arith;
  truth = λ d l. (
    λ h. ([], omega arith, subst (λ z. IsTrue (holds z c)) (sym (append-nil d)) h),
    λ (e, count, h). empty_end d e count h,
  );
  levels = fits;
  operators = λ o h. h;
}
  where
    empty_end : (d e : List Atom) → length e ≡ all - all → IsTrue (holds (d ++ e) c) → IsTrue (holds d c)
    empty_end d [] count h = subst (λ z. IsTrue (holds z c)) (append-nil d) h
    empty_end d (a ∷ e) count h = absurd (omega arith)

pub bound_more : (n all m : ℕ) (c left next : List (List Lit)) → IsBoundDown n all (suc m) c left → HoldsForSome (n + m) left next → ConstraintFits (n + m) next → ((o : Bool) → AdmitsConstraint o left → AdmitsConstraint o next) → IsBoundDown n all m c next
bound_more n all m c left next before some fits admits = record {
  most = omega (arith, before.most);
  truth = λ d l. (to d l, from d l);
  levels = fits;
  operators = λ o h. admits o (before.operators o h);
}
  where
    one : (d : List Atom) (a : Atom) → length d ≡ n + m → length (d ++ a ∷ []) ≡ n + suc m
    one d a l = omega (arith, length-append d (a ∷ []))

    to : (d : List Atom) → length d ≡ n + m → IsTrue (holds d next) → (e : List Atom) × (length e ≡ all - m) × IsTrue (holds (d ++ e) c)
    to d l h =
        let (a, p) = (some d l).0 h in
        let (e, count, q) = (before.truth (d ++ a ∷ []) (one d a l)).0 p in
        (a ∷ e, omega (arith, count, before.most), subst (λ z. IsTrue (holds z c)) (append_assoc d (a ∷ []) e) q)

    from : (d : List Atom) → length d ≡ n + m → (e : List Atom) × (length e ≡ all - m) × IsTrue (holds (d ++ e) c) → IsTrue (holds d next)
    from d l ([], count, h) = absurd (omega (arith, count, before.most))
    from d l (a ∷ e, count, h) = (some d l).1 (a, (before.truth (d ++ a ∷ []) (one d a l)).1 (e, omega (arith, count, before.most), subst (λ z. IsTrue (holds z c)) (sym (append_assoc d (a ∷ []) e)) h))

pub bound_all : (n all m : ℕ) (c left : List (List Lit)) → IsBoundDown n all m c left → m ≤ 0 → HoldsForSomeMore n all c left × ConstraintFits n left
bound_all n all m c left h l =
    let e : n + m ≡ n = omega arith in
    let f : all - m ≡ all = omega arith in (
      subst (λ z. HoldsForSomeMore z all c left) e (subst (λ z. HoldsForSomeMore (n + m) z c left) f h.truth),
      subst (λ z. ConstraintFits z left) e h.levels,
    )
