use Rattle.std.proofs.Common.{◌≡◌, [], length, sym, ap, subst, arith}
use Rattle.std.specs.List.{All}
use Rattle.lois_answers.specs.Sound.{IsSoundCase}
use Rattle.lois_census.specs.Censuses.{numbered}
use Rattle.lois_census.proofs.Numbering.{none_of, censuses_text_of}
use Rattle.lois_census.proofs.answering.census_of.Goals as goal

pub all_censuses-requires-clause-sound : goal.all_censuses-requires-clause-sound
all_censuses-requires-clause-sound g c =
    let r = c.args.results.now in
    let none : r.parameters ≡ [] = none_of r.parameters (omega arith) in
    subst (λ o. All (IsSoundCase o 0) r.cases) (sym c.requires.structure) (subst (λ n. All (IsSoundCase r.order n) r.cases) (ap length none) c.requires.sound.cases)

pub returns-clause-cause : goal.returns-clause-cause
returns-clause-cause g c =
    let r = c.args.results.now in
    record {
      parameters = none_of r.parameters (omega arith);
      sets = c.in_default-first_without_set.ensures.none;
      censuses = c.in_ok-censuses.ensures.censuses;
      text = censuses_text_of g.T.Structure.ordered c.args.name.now (numbered 1 r.cases) c.in_ok-censuses.censuses c.in_ok-censuses.ensures.censuses;
    }
