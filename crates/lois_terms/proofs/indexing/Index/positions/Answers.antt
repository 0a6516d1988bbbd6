use Rattle.std.proofs.Common.{◌<◌, length, sym, ap, ◌∙◌, subst, option_copied}
use Rattle.std.specs.Prelude.{Contains}
use Rattle.std.specs.List.{All}
use Rattle.lois_terms.specs.Positions.{positions_of, listed}
use Rattle.lois_terms.proofs.Positions.{found_at, all_within}
use Rattle.lois_terms.proofs.indexing.Index.positions.Goals as goal

pub returns-in-Some-clause-exact : goal.returns-in-Some-clause-exact
returns-in-Some-clause-exact c =
    c.as_slice.ensures
    ∙ ap (λ o. listed (option_copied o)) (sym c.in-Some.is)
    ∙ ap listed c.get.ensures.value
    ∙ c.self.invariant c.args.number
    ∙ ap (positions_of c.args.number) c.self.view_is

pub returns-in-Some-clause-found : goal.returns-in-Some-clause-found
returns-in-Some-clause-found c = λ i e.
    subst (λ ps. Contains ps i) (sym (returns-in-Some-clause-exact c)) (found_at c.args.number c.args.self.now i e)

pub returns-in-Some-clause-within : goal.returns-in-Some-clause-within
returns-in-Some-clause-within c =
    subst (All (λ i. i < length c.args.self.now)) (sym (returns-in-Some-clause-exact c)) (all_within c.args.number c.args.self.now)

pub returns-in-None-clause-exact : goal.returns-in-None-clause-exact
returns-in-None-clause-exact c =
    ap (λ o. listed (option_copied o)) (sym c.in-None.is)
    ∙ ap listed c.get.ensures.value
    ∙ c.self.invariant c.args.number
    ∙ ap (positions_of c.args.number) c.self.view_is

pub returns-in-None-clause-found : goal.returns-in-None-clause-found
returns-in-None-clause-found c = λ i e.
    subst (λ ps. Contains ps i) (sym (returns-in-None-clause-exact c)) (found_at c.args.number c.args.self.now i e)
