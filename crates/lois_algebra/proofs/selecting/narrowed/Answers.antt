use Rattle.std.proofs.Common.{◌≡◌, ◌&&◌, not, List}
use Rattle.std.proofs.lemmas.Result.{IfOk-weaker}
use Rattle.lois_base.specs.Atom.{Atom}
use Rattle.lois_base.specs.Truth.{holds}
use Rattle.lois_algebra.proofs.Selections.{narrowed_found, narrowed_others}
use Rattle.lois_algebra.proofs.selecting.narrowed.Goals as goal

pub returns-then-wanted-clause-truth : goal.returns-then-wanted-clause-truth
returns-then-wanted-clause-truth c =
    IfOk-weaker c.meet.result (λ r. (d : List Atom) → holds d r ≡ (holds d c.args.guard.now && holds d c.args.found.now)) _ (λ r met. narrowed_found c.args.wanted c.args.guard.now c.args.found.now r c.if-wanted.true met) c.meet.ensures.truth

pub returns-else-wanted-clause-truth : goal.returns-else-wanted-clause-truth
returns-else-wanted-clause-truth c =
    IfOk-weaker c.and_not.result (λ r. (d : List Atom) → holds d r ≡ (holds d c.args.guard.now && not (holds d c.args.found.now))) _ (λ r met. narrowed_others c.args.wanted c.args.guard.now c.args.found.now r c.if-wanted.false met) c.and_not.ensures.truth
