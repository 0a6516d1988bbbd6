use Rattle.std.proofs.Common.{refl, sym, subst}
use Rattle.std.specs.List.{All}
use Rattle.lois_answers.specs.Sound.{IsSoundCase}
use Rattle.lois_answers.proofs.results.Results.sound.Goals as goal

pub returns-then-are_parameters : goal.returns-then-are_parameters
returns-then-are_parameters c =
    let r = c.args.self.now in
    record {
      exact = (
        λ h. record {
          parameters = c.if-are_parameters.ensures.exact.0 refl;
          cases = subst (λ n. All (IsSoundCase r.order n) r.cases) c.len.ensures (c.are_sound_cases.ensures.exact.0 h);
        },
        λ s. c.are_sound_cases.ensures.exact.1 (subst (λ n. All (IsSoundCase r.order n) r.cases) (sym c.len.ensures) s.cases),
      );
    }
