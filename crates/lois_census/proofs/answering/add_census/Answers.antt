use Rattle.std.proofs.Common.{◌≡◌, ◌++◌, ◌∷◌, [], true, refl, sym, ◌∙◌, subst}
use Rattle.lois_answers.specs.CaseView.{case_of}
use Rattle.lois_deciders.proofs.Oracle.{on_ok}
use Rattle.lois_census.specs.CensusData.{CensusD}
use Rattle.lois_census.specs.Censuses.{NumberedD, is_met, AreCensusesOf}
use Rattle.lois_census.specs.CensusSteps.{IsCensusAdded}
use Rattle.lois_census.proofs.Numbering.{census_put}
use Rattle.lois_census.proofs.answering.add_census.Goals as goal

pub returns-clause-added : goal.returns-clause-added
returns-clause-added g c =
    let k : NumberedD = record { number = c.args.number; case = case_of c.args.case.now } in
    let e : CensusD = record { case = c.args.number; orbits = c.in_ok-orbits.orbits } in
    let name = c.args.name.now in
    let before = c.args.censuses.now in
    let after = c.push.new.self in
    let met : is_met k ≡ true = sym c.at.ensures ∙ c.if-not-at.false in
    on_ok c.push.result (after ≡ before ++ e ∷ []) (IsCensusAdded g.T.Structure.ordered name k before after) (λ is ks so_far.
    subst (AreCensusesOf g.T.Structure.ordered name (ks ++ k ∷ [])) (sym is) (census_put g.T.Structure.ordered name k ks before so_far e met (refl, c.in_ok-orbits.ensures.orbits))) c.push.ensures.appended
