use Rattle.std.proofs.Common.{[], ◌∷◌, sym, refl, subst}
use Rattle.std.proofs.lemmas.List.Elements.{All-nil, All-cons}
use Rattle.lois_base.specs.Fits.{LitFits, CubeFits, ConstraintFits}
use Rattle.lois_simplify.specs.Plain.{IsPlain}
use Rattle.lois_simplify.specs.Shortened.{IsShortened}
use Rattle.lois_simplify.proofs.Shortened.{equally_true}
use Rattle.lois_interp.proofs.cases.one_case.Goals as goal

pub returns : goal.returns
returns c =
    let k = c.args.context in
    let always = c.in_ok-anywhere.ensures in
    let short = subst (λ u. IsShortened u k.«when» c.in_ok-when.«when») always c.in_ok-when.ensures.shortened in
    let whole : ConstraintFits k.size c.in_ok-anywhere.anywhere = subst (ConstraintFits k.size) (sym always) (All-cons (CubeFits k.size) [] [] (All-nil (LitFits k.size)) (All-nil (CubeFits k.size))) in
    record {
      truth = λ e. equally_true ([] ∷ []) k.«when» c.in_ok-when.«when» short e refl;
      normalised = c.in_ok-when.ensures.normalised;
      plain = subst (λ u. IsPlain c.in_ok-when.«when» u k.size) always (c.in_ok-when.ensures.plain k.size whole k.levels);
      levels = short.levels k.size k.levels;
      operators = short.operators;
      lines = c.in_ok-into_lines.ensures.same;
    }
