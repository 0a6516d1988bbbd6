use Rattle.std.proofs.Common.{◌+◌, is_ok, subst, sym, ap, arith}
use Rattle.std.proofs.ResultArms.{chosen}
use Rattle.lois_lexer.specs.Tokens.{IsCut}
use Rattle.lois_lexer.specs.Tokens.IsCut.{at_start}
use Rattle.lois_lexer.proofs.Cutting.{cut_gap, cut_token, token_positive, rest_of}
use Rattle.lois_lexer.proofs.lexing.cut.Goals as goal

pub loop-from-init : goal.loop-from-init
loop-from-init c = (omega arith, subst (IsCut c.args.text.now 0) (sym c.new-tokens.ensures.items) at_start)

pub loop-from-preserved-in-Some : goal.loop-from-preserved-in-Some
loop-from-preserved-in-Some c =
    let cut = c.loop-from.invariant in
    cut_gap c.args.text.now c.loop-from.from c.loop-from.tokens.items cut.0 cut.1 c.in-Some.len (rw c.in-Some.is at c.in_ok-len.ensures.gap)

pub loop-from-smaller : goal.loop-from-smaller
loop-from-smaller c =
    let positive = token_positive (rest_of c.args.text.now c.loop-from.from) c.in_ok-kind-in-None.kind c.in_ok-kind-in-None.len c.in_ok-kind-in-None.ensures.longest in
    omega arith

pub loop-from-preserved : goal.loop-from-preserved
loop-from-preserved c =
    let cut = c.loop-from.invariant in
    let more = cut_token c.args.text.now c.loop-from.from c.loop-from.tokens.items cut.0 cut.1 c.in_ok-kind-in-None.kind c.in_ok-kind-in-None.len c.in_ok-kind-in-None.ensures.longest c.in_ok-kind-in-None.ensures.limits in
    let pushed = chosen _ _ _ _ c.push.ensures.items (ap is_ok c.in_ok-push-in-None.was) in
    (more.0, subst (IsCut c.args.text.now (c.loop-from.from + c.in_ok-kind-in-None.len)) (sym pushed) more.1)
