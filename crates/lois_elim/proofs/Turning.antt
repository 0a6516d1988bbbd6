-- A conjunction that is met in turns.
use Rattle.std.proofs.Common.{◌≡◌, ℕ, ◌+◌, ◌<◌, ◌≤◌, Bool, true, false, ◌&&◌, ◌↔◌, List, [], ◌∷◌, ◌++◌, length, get_or, refl, sym, ap, subst, ◌∙◌, arith}
use Rattle.std.specs.Bool.{IsTrue}
use Rattle.std.proofs.lemmas.Bool.{false≢true}
use Rattle.std.proofs.lemmas.List.Elements.{All-push}
use Rattle.std.proofs.lemmas.List.Folds.{list_all-append}
use Rattle.lois_base.specs.Atom.{Atom}
use Rattle.lois_base.specs.Fits.{LitFits, CubeFits, ConstraintFits}
use Rattle.lois_base.specs.FormulaData.{FormulaD, lit, all, any, neg, exists, forall, FormulasD, no_formulas, formula, FormulaFits, FormulasFit}
use Rattle.lois_base.specs.FormulaTruth.{FormulaHolds, AllHold}
use Rattle.lois_base.specs.FormulaView.{view}
use Rattle.lois_base.specs.Truth.{lit_holds, cube_holds, holds}
use Rattle.lois_base.specs.Validity.{is_admitted, AdmitsLit, AdmitsCube, AdmitsConstraint}
use Rattle.lois_base.specs.FormulaOperators.{AdmitsFormula, AdmitsFormulas}
use Rattle.lois_base.specs.declared.guards.Lit.{Lit}
use Rattle.lois_base.specs.declared.logic.Formula.{Formula}
use Rattle.lois_base.proofs.Connectives.{both_true}
use Rattle.lois_elim.specs.Names.{named_atoms, AreNames, AgreesUnder, AgreesUnderWithBoth}
use Rattle.lois_elim.specs.Turns.{is_literal, in_turn, HoldWhere, AgreesInTurn}
use Rattle.lois_elim.proofs.Steps.{parts_from, parts_are}

-- ---- each part has one turn
one_turn : (u : List Atom) (f : FormulaD) → (IsTrue (is_literal f) → FormulaHolds u f) → (IsTrue (in_turn false f) → FormulaHolds u f) → (IsTrue (in_turn true f) → FormulaHolds u f) → FormulaHolds u f
one_turn u (lit l) a b d = a refl
one_turn u (all fs) a b d = b refl
one_turn u (any fs) a b d = b refl
one_turn u (neg f) a b d = d refl
one_turn u (exists f) a b d = b refl
one_turn u (forall f) a b d = b refl

all_from_turns : (u : List Atom) (fs : FormulasD) → HoldWhere is_literal u fs → HoldWhere (in_turn false) u fs → HoldWhere (in_turn true) u fs → AllHold u fs
all_from_turns u no_formulas a b d = tt
all_from_turns u (formula f fs) a b d =
    (one_turn u f a.0 b.0 d.0, all_from_turns u fs a.1 b.1 d.1)

hold_where : (test : FormulaD → Bool) (u : List Atom) (fs : FormulasD) → AllHold u fs → HoldWhere test u fs
hold_where test u no_formulas h = tt
hold_where test u (formula f fs) h = (λ _. h.0, hold_where test u fs h.1)

pub turns_agree : (n free : ℕ) (bound : List ℕ) (fs : FormulasD) (literals met r : List (List Lit)) (k : List Lit) → AreNames n free bound → ((c : List Atom) → free ≤ length c → IsTrue (cube_holds c k) ↔ HoldWhere is_literal (named_atoms free bound c) fs) → ((c : List Atom) → holds c literals ≡ cube_holds c k) → AgreesInTurn n free bound (in_turn false) literals fs met → AgreesInTurn n free bound (in_turn true) met fs r → AgreesUnder n free bound (all fs) r
turns_agree n free bound fs literals met r k names cube only first second c e =
    let u = named_atoms free bound c in
    let at = cube c (omega (arith, names.0)) in (
      λ p. let last = (second c e).0 p in
          let before = (first c e).0 last.0 in
          all_from_turns u fs (at.0 (sym (only c) ∙ before.0)) before.1 last.1,
      λ h. (second c e).1 ((first c e).1 (only c ∙ at.1 (hold_where is_literal u fs h), hold_where (in_turn false) u fs h), hold_where (in_turn true) u fs h),
    )

-- ---- the parts whose turn it is, one by one

-- `rest` are the parts that are left of `whole`, and `met` stands for `start` with those before whose turn it is
pub record MetSoFar (test : FormulaD → Bool) (n free : ℕ) (bound : List ℕ) (whole rest : FormulasD) (start met : List (List Lit)) : Type 0 where
  pub truth : (c : List Atom) → length c ≡ n → (IsTrue (holds c met) × HoldWhere test (named_atoms free bound c) rest) ↔ (IsTrue (holds c start) × HoldWhere test (named_atoms free bound c) whole)
  pub rest_fits : FormulasFit (free + length bound) rest
  pub levels : ConstraintFits n start → ConstraintFits n met
  pub operators : (o : Bool) → AdmitsConstraint o start → AdmitsFormulas o whole → AdmitsConstraint o met
  pub rest_operators : (o : Bool) → AdmitsFormulas o whole → AdmitsFormulas o rest

module _ (test : FormulaD → Bool) (n free : ℕ) (bound : List ℕ) (whole : FormulasD) (start : List (List Lit)) where
  pub met_begin : FormulasFit (free + length bound) whole → MetSoFar test n free bound whole whole start start
  met_begin fits = record {
    truth = λ c k. (λ h. h, λ h. h);
    rest_fits = fits;
    levels = λ h. h;
    operators = λ o h a. h;
    rest_operators = λ o a. a;
  }

  pub met_end : (met : List (List Lit)) → MetSoFar test n free bound whole no_formulas start met → AgreesInTurn n free bound test start whole met
  met_end met so_far c k = (λ p. (so_far.truth c k).0 (p, tt), λ h. ((so_far.truth c k).1 h).0)

  -- where nothing is left, nothing will be
  pub met_nowhere : (rest : FormulasD) (met : List (List Lit)) → MetSoFar test n free bound whole rest start met → length met ≡ 0 → AgreesInTurn n free bound test start whole met
  met_nowhere rest [] so_far e c k = (λ p. absurd (false≢true p), λ h. ((so_far.truth c k).1 h).0)
  met_nowhere rest (q ∷ met) so_far e c k = absurd (omega (arith, e))

  module _ (rest : FormulasD) (f : FormulaD) (met : List (List Lit)) (so_far : MetSoFar test n free bound whole (formula f rest) start met) where
    met_more : (r : List (List Lit)) → IsTrue (test f) → AgreesUnderWithBoth n free bound met f r → (ConstraintFits n met → ConstraintFits n r) → ((o : Bool) → AdmitsConstraint o met → AdmitsFormula o f → AdmitsConstraint o r) → MetSoFar test n free bound whole rest start r
    met_more r now agrees levels operators = record {
      truth = λ c k. (
        λ h. let both = (agrees c k).0 h.0 in (so_far.truth c k).0 (both.0, (λ _. both.1, h.1)),
        λ h. let each = (so_far.truth c k).1 h in ((agrees c k).1 (each.0, each.1.0 now), each.1.1),
      );
      rest_fits = so_far.rest_fits.1;
      levels = λ h. levels (so_far.levels h);
      operators = λ o h a. operators o (so_far.operators o h a) (so_far.rest_operators o a).0;
      rest_operators = λ o a. (so_far.rest_operators o a).1;
    }

    met_later : (IsTrue (test f) → ⊥) → MetSoFar test n free bound whole rest start met
    met_later not_now = record {
      truth = λ c k. (
        λ h. (so_far.truth c k).0 (h.0, (λ now. absurd (not_now now), h.1)),
        λ h. let each = (so_far.truth c k).1 h in (each.0, each.1.1),
      );
      rest_fits = so_far.rest_fits.1;
      levels = so_far.levels;
      operators = so_far.operators;
      rest_operators = λ o a. (so_far.rest_operators o a).1;
    }

  -- from one part of a list to the next
  module _ (items : List Formula) (i : ℕ) (f : Formula) (l : i < length items) (is : f ≡ get_or items i f) (met : List (List Lit)) (so_far : MetSoFar test n free bound whole (parts_from items i) start met) where
    here : MetSoFar test n free bound whole (formula (view f) (parts_from items (i + 1))) start met
    here = subst (λ rest. MetSoFar test n free bound whole rest start met) (parts_are items i f l is) so_far

    pub turn_fits : FormulaFits (free + length bound) (view f)
    turn_fits = here.rest_fits.0

    pub turn_admitted : (o : Bool) → AdmitsFormulas o whole → AdmitsFormula o (view f)
    turn_admitted o a = (here.rest_operators o a).0

    pub turn_goes_on : (r : List (List Lit)) → IsTrue (test (view f)) → AgreesUnderWithBoth n free bound met (view f) r → (ConstraintFits n met → ConstraintFits n r) → ((o : Bool) → AdmitsConstraint o met → AdmitsFormula o (view f) → AdmitsConstraint o r) → MetSoFar test n free bound whole (parts_from items (i + 1)) start r
    turn_goes_on r = met_more (parts_from items (i + 1)) (view f) met here r

    pub turn_skips : (IsTrue (test (view f)) → ⊥) → MetSoFar test n free bound whole (parts_from items (i + 1)) start met
    turn_skips = met_later (parts_from items (i + 1)) (view f) met here

-- ---- the literals among the parts, as a cube
pub record LiteralsSoFar (free : ℕ) (bound : List ℕ) (whole rest : FormulasD) (cube : List Lit) : Type 0 where
  pub truth : (c : List Atom) → free ≤ length c → (IsTrue (cube_holds c cube) × HoldWhere is_literal (named_atoms free bound c) rest) ↔ HoldWhere is_literal (named_atoms free bound c) whole
  pub rest_fits : FormulasFit (free + length bound) rest
  pub levels : (n : ℕ) → AreNames n free bound → CubeFits n cube
  pub operators : (o : Bool) → AdmitsFormulas o whole → AdmitsCube o cube × AdmitsFormulas o rest

pushed_cube : (c : List Atom) (cube r : List Lit) (l : Lit) → r ≡ cube ++ l ∷ [] → IsTrue (cube_holds c r) ↔ (IsTrue (cube_holds c cube) × IsTrue (lit_holds c l))
pushed_cube c cube r l e =
    let is : cube_holds c r ≡ (cube_holds c cube && cube_holds c (l ∷ [])) = ap (cube_holds c) e ∙ list_all-append (lit_holds c) cube (l ∷ []) in (
      λ h. let both = (both_true (cube_holds c cube) (cube_holds c (l ∷ []))).0 (sym is ∙ h) in (both.0, ((both_true (lit_holds c l) true).0 both.1).0),
      λ h. is ∙ (both_true (cube_holds c cube) (cube_holds c (l ∷ []))).1 (h.0, (both_true (lit_holds c l) true).1 (h.1, refl)),
    )

module _ (free : ℕ) (bound : List ℕ) (whole : FormulasD) where
  module _ (items : List Formula) (i : ℕ) (f : Formula) (l : i < length items) (is : f ≡ get_or items i f) (cube : List Lit) (so_far : LiteralsSoFar free bound whole (parts_from items i) cube) where
    here_literal : LiteralsSoFar free bound whole (formula (view f) (parts_from items (i + 1))) cube
    here_literal = subst (λ rest. LiteralsSoFar free bound whole rest cube) (parts_are items i f l is) so_far

    pub part_is_fit : FormulaFits (free + length bound) (view f)
    part_is_fit = here_literal.rest_fits.0

    pub no_literal : (IsTrue (is_literal (view f)) → ⊥) → LiteralsSoFar free bound whole (parts_from items (i + 1)) cube
    no_literal none = record {
      truth = λ c k. (
        λ h. (here_literal.truth c k).0 (h.0, (λ now. absurd (none now), h.1)),
        λ h. let each = (here_literal.truth c k).1 h in (each.0, each.1.1),
      );
      rest_fits = here_literal.rest_fits.1;
      levels = here_literal.levels;
      operators = λ o a. let both = here_literal.operators o a in (both.0, both.1.1);
    }

    pub one_literal : (m m' : Lit) (r : List Lit) → view f ≡ lit m → r ≡ cube ++ m' ∷ [] → ((c : List Atom) → free ≤ length c → lit_holds c m' ≡ lit_holds (named_atoms free bound c) m) → ((n : ℕ) → AreNames n free bound → LitFits n m') → m'.op ≡ m.op → LiteralsSoFar free bound whole (parts_from items (i + 1)) r
    one_literal m m' r e pushed same levels op =
        let at : LiteralsSoFar free bound whole (formula (lit m) (parts_from items (i + 1))) cube = subst (λ g. LiteralsSoFar free bound whole (formula g (parts_from items (i + 1))) cube) e here_literal in
        record {
          truth = λ c k. (
            λ h. let both = (pushed_cube c cube r m' pushed).0 h.0 in (at.truth c k).0 (both.0, (λ _. sym (same c k) ∙ both.1, h.1)),
            λ h. let each = (at.truth c k).1 h in ((pushed_cube c cube r m' pushed).1 (each.0, same c k ∙ each.1.0 refl), each.1.1),
          );
          rest_fits = at.rest_fits.1;
          levels = λ n h. subst (CubeFits n) (sym pushed) (All-push (LitFits n) cube m' (at.levels n h) (levels n h));
          operators = λ o a. let both = at.operators o a in
              (subst (AdmitsCube o) (sym pushed) (All-push (AdmitsLit o) cube m' both.0 (admitted_alike o m m' op both.1.0)), both.1.1);
        }
      where
        admitted_alike : (o : Bool) (m m' : Lit) → m'.op ≡ m.op → AdmitsLit o m → AdmitsLit o m'
        admitted_alike o m m' e h = subst (λ p. IsTrue (is_admitted o p)) (sym e) h
