-- Conditions that are true or false everywhere, and conditions that are others.
use Rattle.std.proofs.Common.{◌≡◌, ℕ, Bool, true, false, List, sym, subst}
use Rattle.lois_base.specs.Atom.{Atom}
use Rattle.lois_base.specs.Fits.{ConstraintFits}
use Rattle.lois_base.specs.Truth.{holds}
use Rattle.lois_base.specs.Validity.{AdmitsConstraint}
use Rattle.lois_base.specs.declared.guards.Lit.{Lit}
use Rattle.lois_meaning.specs.Expressions.{HasTruth}
use Rattle.lois_meaning.specs.Faults.{CondFails}
use Rattle.lois_script.specs.Tree.{CondD, truth, falsity}
use Rattle.lois_meaning.specs.declared.faults.Fault.{Fault}
use Rattle.lois_context.specs.declared.contexts.Context.{Context}
use Rattle.lois_eval.specs.Evaluated.{IsConstraintOf}
use Rattle.lois_eval.specs.WellFormed.{CondIsWellFormed}
use Rattle.lois_eval.specs.Throughout.{IsFaultOf}

-- the conditions that are true or false everywhere
pub truth_decided : (k : Context) (g : List (List Lit)) → ((c : List Atom) → holds c g ≡ true) → ((n : ℕ) → ConstraintFits n g) → ((o : Bool) → AdmitsConstraint o g) → IsConstraintOf k (HasTruth truth) (CondIsWellFormed truth) g
truth_decided k g is fits admits = record { truth = λ c a. is c; levels = fits k.size; operators = λ o h. admits o }

pub falsity_decided : (k : Context) (g : List (List Lit)) → ((c : List Atom) → holds c g ≡ false) → ((n : ℕ) → ConstraintFits n g) → ((o : Bool) → AdmitsConstraint o g) → IsConstraintOf k (HasTruth falsity) (CondIsWellFormed falsity) g
falsity_decided k g is fits admits = record { truth = λ c a. is c; levels = fits k.size; operators = λ o h. admits o }

pub decided_as : (k : Context) (c d : CondD) (g : List (List Lit)) → c ≡ d → IsConstraintOf k (HasTruth d) (CondIsWellFormed d) g → IsConstraintOf k (HasTruth c) (CondIsWellFormed c) g
decided_as k c d g is h = subst (λ z. IsConstraintOf k (HasTruth z) (CondIsWellFormed z) g) (sym is) h

pub cond_fails_as : (o : Bool) (k : Context) (c d : CondD) (f : Fault) → c ≡ d → IsFaultOf o k (CondFails d) f → IsFaultOf o k (CondFails c) f
cond_fails_as o k c d f is h = subst (λ z. IsFaultOf o k (CondFails z) f) (sym is) h
