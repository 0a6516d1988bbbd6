use Rattle.std.proofs.Common.{◌≡◌, not, ◌&&◌, ◌||◌, List, take, subst, arith}
use Rattle.std.proofs.lemmas.Grind.{common_steps}
use Rattle.lois_base.specs.Fits.{LitFits}
use Rattle.lois_base.specs.Validity.{AdmitsLit}
use Rattle.lois_base.specs.Truth.{cube_holds, holds}
use Rattle.lois_base.specs.declared.guards.Lit.{Lit}
use Rattle.lois_census.proofs.Parting.{parts_begin, parts_more, keep_begin, keep_more}
use Rattle.lois_census.proofs.cells.push_parts.Goals as goal

pub loop-lit-init : goal.loop-lit-init
loop-lit-init c = record {
  parts = parts_begin c.args.cubes.now c.args.cube.now c.in_ok-rest.rest c.in_ok-rest.ensures.cubes;
  fits = λ n. keep_begin (LitFits n) c.args.cubes.now c.args.cube.now c.args.other.now c.in_ok-rest.rest c.in_ok-rest.ensures.cubes;
  operators = λ o. keep_begin (AdmitsLit o) c.args.cubes.now c.args.cube.now c.args.other.now c.in_ok-rest.rest c.in_ok-rest.ensures.cubes;
}

pub loop-lit-preserved : goal.loop-lit-preserved
loop-lit-preserved c =
    let lits : List Lit = c.as_slice-lit-items.result.now in
    let i = c.loop-lit.lit-index in
    let one = c.in_ok-one.one in
    let out = c.in_ok-outside.outside in
    let rest = c.loop-lit.rest in
    let kept = c.loop-lit.cubes in
    let more = c.append.new.cubes in
    let less = c.in_ok-rest-2.rest in
    record {
      parts = parts_more c.args.cubes.now c.args.cube.now lits i _ kept rest one out more less c.loop-lit.invariant.parts c.loop-lit-test.true c.in_ok-one.ensures c.in_ok-outside.ensures.truth c.in_ok-append.ensures c.in_ok-rest-2.ensures.truth;
      fits = λ n. keep_more (LitFits n) c.args.cubes.now c.args.cube.now c.args.other.now lits i _ kept rest one out more less (c.loop-lit.invariant.fits n) c.as_slice-lit-items.ensures c.loop-lit-test.true c.in_ok-one.ensures (c.in_ok-outside.ensures.fits n) c.in_ok-append.ensures (c.in_ok-rest-2.ensures.fits n);
      operators = λ o. keep_more (AdmitsLit o) c.args.cubes.now c.args.cube.now c.args.other.now lits i _ kept rest one out more less (c.loop-lit.invariant.operators o) c.as_slice-lit-items.ensures c.loop-lit-test.true c.in_ok-one.ensures (c.in_ok-outside.ensures.operators o) c.in_ok-append.ensures (c.in_ok-rest-2.ensures.operators o);
    }

pub returns-clause-truth : goal.returns-clause-truth
returns-clause-truth c =
    let all : take c.loop-lit.lit-index c.as_slice-lit-items.result.now ≡ c.args.other.now = grind (arith, common_steps) in
    λ e. subst (λ (k : List Lit). holds e c.loop-lit.cubes ≡ (holds e c.args.cubes.now || (cube_holds e c.args.cube.now && not (cube_holds e k)))) all (c.loop-lit.invariant.parts.parts e)

pub returns-clause-fits : goal.returns-clause-fits
returns-clause-fits c = λ n. (c.loop-lit.invariant.fits n).parts

pub returns-clause-operators : goal.returns-clause-operators
returns-clause-operators c = λ o. (c.loop-lit.invariant.operators o).parts
