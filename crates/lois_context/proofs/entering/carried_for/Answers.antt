use Rattle.std.proofs.Common.{◌≡◌, sym, subst}
use Rattle.std.proofs.lemmas.List.Elements.{All-contains}
use Rattle.std.proofs.lemmas.Result.{IfOk-weaker}
use Rattle.std.specs.List.{All, Contains}
use Rattle.lois_deciders.proofs.Oracle.{some_is}
use Rattle.lois_context.specs.Entered.{IsCarried}
use Rattle.lois_context.proofs.Carried.{is_carried}
use Rattle.lois_context.proofs.entering.carried_for.Goals as goal

pub returns-in-Some-clause-carried : goal.returns-in-Some-clause-carried
returns-in-Some-clause-carried c =
    let k = c.args.context.now in
    let found = c.in-Some.found.now in
    let known = c.deref.result.now in
    let own = some_is (λ r. Contains known r.now × (r.now.by ≡ c.args.by)) c.known_for.result c.in-Some.found c.in-Some.is c.known_for.ensures in
    let all = subst (All (IsCarried k)) (sym c.deref.ensures.value) c.requires.known in
    IfOk-weaker c.copy.result _ (IsCarried k) (λ r same. is_carried k r found same.0 same.1 same.2 (All-contains (IsCarried k) known found all own.0)) c.copy.ensures
