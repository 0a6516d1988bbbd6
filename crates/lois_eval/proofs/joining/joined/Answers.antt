use Rattle.std.proofs.Common.{◌≡◌, ◌&&◌, ◌||◌, List, sym, ap, ◌∙◌}
use Rattle.std.proofs.lemmas.Result.{IfOk-weaker}
use Rattle.std.specs.Prelude.{if◌then◌else◌}
use Rattle.lois_base.specs.Atom.{Atom}
use Rattle.lois_base.specs.Truth.{holds}
use Rattle.lois_eval.proofs.joining.joined.Goals as goal

pub returns-then-every-clause-truth : goal.returns-then-every-clause-truth
returns-then-every-clause-truth c =
    IfOk-weaker c.and.result (λ r. (d : List Atom) → holds d r ≡ (holds d c.args.a.now && holds d c.args.b.now)) _ (λ r both d. both d ∙ ap (λ e. if e then holds d c.args.a.now && holds d c.args.b.now else holds d c.args.a.now || holds d c.args.b.now) (sym c.if-every.true)) c.and.ensures.truth
