-- Expressions evaluated one after another, and their faults.
use Rattle.std.proofs.Common.{◌≡◌, ℕ, Bool, true, false, List, [], ◌∷◌, ◌++◌, length-append, refl, sym, subst, arith}
use Rattle.lois_base.specs.Data.{TermD, terms_of}
use Rattle.lois_base.specs.Truth.{holds}
use Rattle.lois_base.specs.Values.{point}
use Rattle.lois_meaning.specs.Expressions.{Gives, GiveAll, HasTruth}
use Rattle.lois_meaning.specs.Faults.{Fails, SomeFails, CondFails}
use Rattle.lois_meaning.specs.Kinds.{part_values}
use Rattle.lois_script.specs.Tree.{ExprD, ExprsD, CondD, CondsD}
use Rattle.lois_script.specs.View.{exprs_of}
use Rattle.lois_meaning.specs.declared.faults.Fault.{Fault}
use Rattle.lois_meaning.proofs.NotBoth.{truth_fails}
use Rattle.lois_context.specs.Slots.{store_at}
use Rattle.lois_context.specs.declared.contexts.Context.{Context}
use Rattle.lois_base.specs.declared.guards.Lit.{Lit}
use Rattle.lois_eval.specs.Evaluated.{IsTermOf, AreTermsOf, IsConstraintOf}
use Rattle.lois_eval.specs.Forms.{joint}
use Rattle.lois_eval.specs.WellFormed.{IsWellFormedIn, IsWellFormed, CondIsWellFormed, names_of}
use Rattle.lois_eval.specs.Throughout.{IsValueThroughout, IsTruthThroughout, FailsNowhere, IsFaultOf}
use Rattle.lois_meaning.specs.Store.{NamedValues}
use Rattle.lois_answers.specs.declared.faults.FaultKind.{FaultKind}
use Rattle.lois_eval.proofs.FaultsAt.{fault_within}
use Rattle.lois_eval.proofs.LeftToRight.{given_nowhere}
use Rattle.lois_eval.proofs.Parts.{IsExprOf, IsCondOf, give_all_more, parts_at-append, parts_fit-more, parts_admit-more, parts_widths-more, count_of-more}

pub placed_as : (k : Context) (o : Bool) (S R : Bool → List (List ℕ) → Type 0) → ((o : Bool) (xs : List (List ℕ)) → S o xs → R o xs) → IsWellFormedIn S o k → IsWellFormedIn R o k
placed_as k o S R to h = record { names = to o (names_of k.store) h.names; operators = h.operators }

module _ (k : Context) (S : Bool → List (List ℕ) → Type 0) where
  pub terms_none : AreTermsOf k (exprs_of []) S []
  terms_none = record {
    count = refl;
    values = λ c a. refl;
    levels = tt;
    operators = λ o h. tt;
    widths = λ h. tt;
  }

  pub terms_more : (es : List ExprD) (e : ExprD) (ts after : List TermD) (t : TermD) → AreTermsOf k (exprs_of es) S ts → IsTermOf k (Gives e) (IsWellFormed e) t → ((o : Bool) → IsWellFormedIn S o k → IsWellFormedIn (IsWellFormed e) o k) → after ≡ ts ++ t ∷ [] → AreTermsOf k (exprs_of (es ++ e ∷ [])) S after
  terms_more es e ts after t so_far own placed is = subst (AreTermsOf k (exprs_of (es ++ e ∷ [])) S) (sym is) (record {
    count = omega (arith, count_of-more (es ++ e ∷ []), count_of-more es, so_far.count, length-append es (e ∷ []), length-append ts (t ∷ []));
    values = λ c a. subst (GiveAll (exprs_of (es ++ e ∷ [])) (store_at c k.store)) (sym (parts_at-append ts t c)) (give_all_more es e (store_at c k.store) (part_values (terms_of ts) c) (point t c) (so_far.values c a) (own.value c a));
    levels = parts_fit-more k.size ts t so_far.levels own.levels;
    operators = λ o h. parts_admit-more o ts t (so_far.operators o h) (own.operators o (placed o h));
    widths = λ h. parts_widths-more ts t (so_far.widths h) (own.widths h);
  })

  pub some_fails : (o : Bool) (es before : ExprsD) (ts : List TermD) (e : ExprD) (f : Fault) → IsExprOf es before e → AreTermsOf k before S ts → IsFaultOf o k (Fails e) f → IsFaultOf o k (SomeFails es) f
  some_fails o es before ts e f is so_far h =
      fault_within o k (Fails e) (SomeFails es) f (λ c a at kind bad. is.fails (store_at c k.store) (part_values (terms_of ts) c) at kind (so_far.values c a) bad) h

  pub joint_fails : (o every : Bool) (cs before : CondsD) (g : List (List Lit)) (c : CondD) (f : Fault) → IsCondOf cs before c → IsConstraintOf k (HasTruth (joint every before)) S g → IsFaultOf o k (CondFails c) f → IsFaultOf o k (CondFails (joint every cs)) f
  joint_fails o every cs before g c f is so_far h =
      fault_within o k (CondFails c) (CondFails (joint every cs)) f (λ d a at kind bad. of every (store_at d k.store) (holds d g) at kind (so_far.truth d a) bad) h
    where
      of : (every : Bool) (s : NamedValues) (b : Bool) (at : ℕ) (kind : FaultKind) → HasTruth (joint every before) s b → CondFails c s at kind → CondFails (joint every cs) s at kind
      of true s b at kind (bs, held, e) bad = is.fails s bs at kind held bad
      of false s b at kind (bs, held, e) bad = is.fails s bs at kind held bad

-- what is promised outside: no admitted choice fails
pub fails_nowhere : (k : Context) (e : ExprD) (t : TermD) → IsValueThroughout k e t → FailsNowhere k (Fails e)
fails_nowhere k e t h = given_nowhere k e (λ c a. (point t c, h c a))

pub cond_fails_nowhere : (k : Context) (c : CondD) (g : List (List Lit)) → IsTruthThroughout k c g → FailsNowhere k (CondFails c)
cond_fails_nowhere k c g h = λ d a at kind bad. truth_fails c (store_at d k.store) (holds d g) at kind (h d a) bad

pub joint_placed : (k : Context) (every : Bool) (cs before : CondsD) (c : CondD) (o : Bool) → IsCondOf cs before c → IsWellFormedIn (CondIsWellFormed (joint every cs)) o k → IsWellFormedIn (CondIsWellFormed c) o k
joint_placed k true cs before c o is h = record { names = is.stands o (names_of k.store) h.names; operators = h.operators }
joint_placed k false cs before c o is h = record { names = is.stands o (names_of k.store) h.names; operators = h.operators }
