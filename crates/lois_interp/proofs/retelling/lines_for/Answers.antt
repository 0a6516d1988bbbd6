use Rattle.std.proofs.Common.{◌≡◌, [], ◌∷◌, ◌++◌}
use Rattle.std.specs.List.{Contains}
use Rattle.std.proofs.lemmas.Result.{IfOk-weaker}
use Rattle.lois_interp.specs.Retold.{IsToldBy}
use Rattle.lois_interp.proofs.Retold.{got_there, told_by_another, told_by_itself}
use Rattle.lois_interp.proofs.retelling.lines_for.Goals as goal

pub returns-then-branch-clause-told : goal.returns-then-branch-clause-told
returns-then-branch-clause-told g c =
    let k = c.args.own.now in
    let ds = c.args.told.now in
    let d = c.in-Some.before.now in
    let there : Contains ds d = got_there ds _ d c.in-Some.ensures.value in
    let is = c.if-branch.true in
    IfOk-weaker c.share.result (λ ls. ls ≡ d.lines) (IsToldBy (ds ++ k ∷ []) k) (λ ls same. told_by_another ds k d ls there (c.in_ok-tells.ensures.size is) (c.in_ok-tells.ensures.same is) same) c.share.ensures.same

pub returns-clause-told : goal.returns-clause-told
returns-clause-told g c =
    let k = c.args.own.now in
    let ds = c.args.told.now in
    IfOk-weaker c.share-2.result (λ ls. ls ≡ k.lines) (IsToldBy (ds ++ k ∷ []) k) (λ ls same. told_by_itself ds k ls same) c.share-2.ensures.same
