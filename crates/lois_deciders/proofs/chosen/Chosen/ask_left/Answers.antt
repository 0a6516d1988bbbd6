use Rattle.std.proofs.Common.{◌&&◌, not, List, [], ◌∷◌, Option, ℕ, sym, ap, ◌∙◌, subst}
use Rattle.std.specs.Global.{Vec}
use Rattle.std.specs.Option.{IfSome}
use Rattle.lois_base.specs.Fits.{ConstraintFits}
use Rattle.lois_base.specs.Truth.{holds}
use Rattle.lois_base.specs.declared.guards.Lit.{Lit}
use Rattle.lois_deciders.specs.Satisfaction.{IsConstraintSample}
use Rattle.lois_deciders.proofs.Oracle.{one_fits, meets_within, met_not_entailed, none_found, sample_parts, none_parts}
use Rattle.lois_deciders.proofs.chosen.Chosen.ask_left.Goals as goal

pub ask-requires : goal.ask-requires
ask-requires g c =
    c.in_ok-part.ensures.fits c.args.size (subst (ConstraintFits c.args.size) (sym c.in_ok-whole.ensures.cubes) (one_fits c.args.size c.args.cube.now c.requires.first)) c.requires.second

pub returns-in-Some-clause-sample : goal.returns-in-Some-clause-sample
returns-in-Some-clause-sample g c =
    meets_within c.args.size (c.args.cube.now ∷ []) c.args.d.now c.in_ok-part.part.constraint (λ e t. ap (λ (x : List (List Lit)). holds e x && not (holds e c.args.d.now)) (sym c.in_ok-whole.ensures.cubes) ∙ c.in_ok-part.ensures.part e t) c.in-Some.sample.items (subst (λ (o : Option (Vec ℕ)). IfSome o (λ s. IsConstraintSample c.args.size c.in_ok-part.part.constraint s.items)) c.in-Some.is c.in_ok-sample.ensures.sample)

pub returns-in-Some-clause-none : goal.returns-in-Some-clause-none
returns-in-Some-clause-none g c =
    met_not_entailed c.args.size (c.args.cube.now ∷ []) c.args.d.now c.in_ok-part.part.constraint (λ e t. ap (λ (x : List (List Lit)). holds e x && not (holds e c.args.d.now)) (sym c.in_ok-whole.ensures.cubes) ∙ c.in_ok-part.ensures.part e t) c.in_ok-sample.field-0 c.in-Some.sample c.in-Some.is c.in_ok-sample.ensures.none

pub returns-then-part-clause-none : goal.returns-then-part-clause-none
returns-then-part-clause-none g c =
    none_found c.args.size (c.args.cube.now ∷ []) c.args.d.now c.in_ok-part.part.constraint (λ e. c.in_ok-part.ensures.whole c.if-part.true e ∙ ap (λ (x : List (List Lit)). holds e x && not (holds e c.args.d.now)) c.in_ok-whole.ensures.cubes) c.in_ok-sample.field-0 c.in_default.not-Some c.in_ok-sample.ensures.none

pub ask-requires-2 : goal.ask-requires-2
ask-requires-2 g c =
    c.in_ok-left.ensures.fits c.args.size (subst (ConstraintFits c.args.size) (sym c.in_ok-whole.ensures.cubes) (one_fits c.args.size c.args.cube.now c.requires.first)) c.requires.second

pub returns-clause-sample : goal.returns-clause-sample
returns-clause-sample g c =
    sample_parts c.args.size (c.args.cube.now ∷ []) c.args.d.now c.in_ok-left.left (λ e. c.in_ok-left.ensures.truth e ∙ ap (λ (x : List (List Lit)). holds e x && not (holds e c.args.d.now)) c.in_ok-whole.ensures.cubes) c.ask-2.result c.ask-2.ensures.sample

pub returns-clause-none : goal.returns-clause-none
returns-clause-none g c =
    none_parts c.args.size (c.args.cube.now ∷ []) c.args.d.now c.in_ok-left.left (λ e. c.in_ok-left.ensures.truth e ∙ ap (λ (x : List (List Lit)). holds e x && not (holds e c.args.d.now)) c.in_ok-whole.ensures.cubes) c.ask-2.result c.ask-2.ensures.none
