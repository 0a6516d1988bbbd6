use Rattle.std.proofs.Common.{subst}
use Rattle.lois_simplify.specs.Shortened.{IsShortened}
use Rattle.lois_simplify.proofs.Shortened.{shortened_then}
use Rattle.lois_simplify.proofs.shortening.reread.Goals as goal

pub returns-then-not-is_worth_rewording : goal.returns-then-not-is_worth_rewording
returns-then-not-is_worth_rewording c =
    let u = c.args.under.now in
    let g = c.args.guard.now in
    let whole = c.in_ok-whole.whole in
    let split : IsShortened u g whole = subst (λ z. IsShortened u z whole) c.in_ok-own.ensures (c.in_ok-whole.ensures.shortened u) in
    shortened_then u g whole c.in_ok-short.short split c.in_ok-short.ensures

pub shorter-requires : goal.shorter-requires
shorter-requires c =
    let u = c.args.under.now in
    let g = c.args.guard.now in
    let whole = c.in_ok-whole.whole in
    let split : IsShortened u g whole = subst (λ z. IsShortened u z whole) c.in_ok-own.ensures (c.in_ok-whole.ensures.shortened u) in
    shortened_then u g whole c.in_ok-short.short split c.in_ok-short.ensures
