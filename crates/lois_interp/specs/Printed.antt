-- What becomes of the contexts in which a script ends: lines that are normal where their context admits a choice, and cases.
use Rattle.std.specs.Prelude.{◌≡◌, ℕ, Bool, List, [], ◌∷◌}
use Rattle.std.specs.List.{AllZip}
use Rattle.lois_base.specs.Atom.{Atom}
use Rattle.lois_base.specs.Fits.{Fits, ConstraintFits}
use Rattle.lois_base.specs.Normal.{IsNormal}
use Rattle.lois_base.specs.Truth.{holds}
use Rattle.lois_base.specs.Validity.{AdmitsConstraint, AdmitsTerm, HasBoundedWidths}
use Rattle.lois_base.specs.declared.guards.Lit.{Lit}
use Rattle.lois_constraint.specs.Normalised.{IsNormalised}
use Rattle.lois_answers.specs.ResultsData.{LineD, CaseD}
use Rattle.lois_answers.specs.Sound.{HasTags}
use Rattle.lois_simplify.specs.Simplification.{IsSameWhere}
use Rattle.lois_simplify.specs.Irredundant.{HasNormalGuards}
use Rattle.lois_simplify.specs.Plain.{IsPlain, HasPlainGuards}
use Rattle.lois_context.specs.declared.contexts.Context.{Context}

-- r has the value of l at each choice of n atoms at which u holds, and is normal there, with normalised guards, of which one that
-- always holds is `true`
pub record IsPrintedLine (n : ℕ) (u : List (List Lit)) (l r : LineD) : Type 0 where
  pub name : r.name ≡ l.name
  pub value : IsSameWhere u n l.term r.term
  pub normal : IsNormal r.term u n
  pub guards : HasNormalGuards r.term
  pub plain : HasPlainGuards r.term u n
  pub levels : Fits n r.term
  pub tags : HasTags r.term
  pub operators : (ordered : Bool) → AdmitsTerm ordered l.term → AdmitsTerm ordered r.term
  pub widths : HasBoundedWidths l.term → HasBoundedWidths r.term

-- the context without its store, and with its lines as they are printed
pub record IsPrinted (k r : Context) : Type 0 where
  pub size : r.size ≡ k.size
  pub «when» : r.«when» ≡ k.«when»
  pub store : r.store ≡ []
  pub lines : AllZip (IsPrintedLine k.size k.«when») k.lines r.lines

-- a case with the lines of the context, which holds where the context admits a choice
pub record IsCaseOf (k : Context) (c : CaseD) : Type 0 where
  pub truth : (e : List Atom) → holds e c.«when» ≡ holds e k.«when»
  pub normalised : IsNormalised c.«when»
  pub plain : IsPlain c.«when» ([] ∷ []) k.size
  pub levels : ConstraintFits k.size c.«when»
  pub operators : (ordered : Bool) → AdmitsConstraint ordered k.«when» → AdmitsConstraint ordered c.«when»
  pub lines : c.lines ≡ k.lines
