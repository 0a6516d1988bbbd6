-- A block that stands in an `if` behind a `let`.
use Rattle.std.proofs.Common.{◌≡◌, ℕ, inl, inr, Bool, true, List, [], ◌∷◌, length, map, Option, Some, None, refl, sym, ap, ◌∙◌, subst, slice_get, option_map, arith}
use Rattle.std.specs.List.{All}
use Rattle.std.proofs.lemmas.List.Elements.{All-nil, All-cons}
use Rattle.lois_base.specs.Data.{TermD}
use Rattle.lois_base.specs.Validity.{AdmitsLit, AdmitsCube, AdmitsTerm}
use Rattle.lois_base.specs.declared.guards.Lit.{Lit}
use Rattle.lois_base.proofs.Validity.{term_admitted}
use Rattle.lois_script.specs.Limits.{Spells}
use Rattle.lois_script.specs.Scope.{inner, declare, opening_scope, with_parameters, StmtsBreak, IsWellScoped}
use Rattle.lois_script.specs.Tree.{ExprD, CondD, StmtD, «let», if, StmtsD, no_stmts, stmt, ScriptD}
use Rattle.lois_script.specs.View.{stmts_of}
use Rattle.lois_context.specs.Slots.{slot_name}
use Rattle.lois_context.specs.declared.contexts.Context.{Context}
use Rattle.lois_eval.specs.WellFormed.{IsWellFormedIn}
use Rattle.lois_interp.specs.WellScoped.{BlockIsWellScoped}
use Rattle.lois_interp.specs.WithinLimits.{StmtsAreWithinLimits}
use Rattle.lois_interp.proofs.Spelled.{spelled_formed}

-- the first statements of a list
pub two_first : (l : List StmtD) (a b : StmtD) → slice_get l 0 ≡ Some a → slice_get l 1 ≡ Some b → (rest : List StmtD) × (l ≡ a ∷ b ∷ rest)
two_first [] a b p q = absurd (cc)
two_first (x ∷ []) a b p q = absurd (cc)
two_first (x ∷ y ∷ rest) a b p q = (rest, ap (λ z. z ∷ y ∷ rest) (some_is x a p) ∙ ap (λ z. a ∷ z ∷ rest) (some_is y b q))
  where
    some_is : (u v : StmtD) → Some u ≡ Some v → u ≡ v
    some_is u v e = cc

module _ (s : ScriptD) (text : List ℕ) (spelled : Spells text s) (scoped : IsWellScoped s) (none : s.parameters ≡ []) where
  pub side_stands : (p : ℕ) (x : List ℕ) (e : ExprD) (c : CondD) (side other rest : StmtsD) → s.body ≡ stmt («let» p x e) (stmt ((if) c side other) rest) → BlockIsWellScoped side s.ordered (x ∷ [])
  side_stands p x e c side other rest is =
      let formed : StmtsAreWithinLimits (stmt («let» p x e) (stmt ((if) c side other) rest)) = subst StmtsAreWithinLimits is (spelled_formed text s spelled) in
      record {
        scope = declare x inner (opening_scope s.ordered);
        named = refl;
        order = refl;
        unbroken = λ rule at bad.
            scoped rule at (inr (subst (λ b. StmtsBreak b (with_parameters s.parameters (opening_scope s.ordered)) rule at) (sym is) (subst (λ ps. StmtsBreak (stmt («let» p x e) (stmt ((if) c side other) rest)) (with_parameters ps (opening_scope s.ordered)) rule at) (sym none) (inr (inl (inr (inl bad)))))));
        form = formed.1.0.1;
      }

  pub side_placed : (p : ℕ) (x : List ℕ) (e : ExprD) (c : CondD) (side other rest : StmtsD) → s.body ≡ stmt («let» p x e) (stmt ((if) c side other) rest) → s.ordered ≡ true →
      (k : Context) (t : TermD) (from : ℕ) → k.«when» ≡ [] ∷ [] → k.store ≡ record { name = x; term = t; from = from } ∷ [] → k.lines ≡ [] → IsWellFormedIn (BlockIsWellScoped side) true k
  side_placed p x e c side other rest is order k t from always store lines = record {
    names = subst (BlockIsWellScoped side true) (sym (ap (map slot_name) store)) (subst (λ o. BlockIsWellScoped side o (x ∷ [])) order (side_stands p x e c side other rest is));
    operators = record {
      «when» = subst (All (AdmitsCube true)) (sym always) (All-cons (AdmitsCube true) [] [] (All-nil (AdmitsLit true)) (All-nil (AdmitsCube true)));
      store = subst (All (λ z. AdmitsTerm true z.term)) (sym store) (All-cons (λ z. AdmitsTerm true z.term) _ [] (term_admitted t) (All-nil (λ z. AdmitsTerm true z.term)));
      lines = subst (All (λ l. AdmitsTerm true l.term)) (sym lines) (All-nil (λ l. AdmitsTerm true l.term));
    };
  }

pub body_is : (l : List StmtD) (a b : StmtD) (p : ℕ) (x : List ℕ) (e : ExprD) (c : CondD) (side other : StmtsD) → slice_get l 0 ≡ Some a → slice_get l 1 ≡ Some b → a ≡ «let» p x e → b ≡ (if) c side other → (rest : StmtsD) × (stmts_of l ≡ stmt («let» p x e) (stmt ((if) c side other) rest))
body_is l a b p x e c side other first second is_let is_if =
    let parts = two_first l a b first second in
    (stmts_of parts.0, ap stmts_of parts.1 ∙ (ap (λ z. stmt z (stmt b (stmts_of parts.0))) is_let ∙ ap (λ z. stmt («let» p x e) (stmt z (stmts_of parts.0))) is_if))
