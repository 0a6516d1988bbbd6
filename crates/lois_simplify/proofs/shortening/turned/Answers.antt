use Rattle.std.proofs.Common.{◌≡◌, ◌∷◌, sym, ◌∙◌, arith}
use Rattle.lois_simplify.proofs.Shortened.{shortened_itself, first_left_out, first_weakened, first_and_rest}
use Rattle.lois_simplify.proofs.shortening.turned.Goals as goal

pub returns-then-len-eq0 : goal.returns-then-len-eq0
returns-then-len-eq0 c = shortened_itself c.args.under.now c.args.constraint

pub returns-then-branch : goal.returns-then-branch
returns-then-branch c =
    let xs = c.args.constraint in
    let k = c.remove-first.result in
    let q = c.in_ok-others.others in
    let items = c.into_vec-cubes.result.items in
    let whole : xs ≡ k ∷ q = sym c.into_vec-cubes.ensures ∙ first_and_rest items q k (omega arith) c.remove-first.ensures.value (c.in_ok-others.ensures ∙ c.remove-first.ensures.items) in
    first_left_out c.args.under.now xs q k whole (c.in_ok-covers_cube.ensures.yes c.if-branch.true)

pub returns : goal.returns
returns c =
    let xs = c.args.constraint in
    let k = c.remove-first.result in
    let q = c.in_ok-others.others in
    let items = c.into_vec-cubes.result.items in
    let whole : xs ≡ k ∷ q = sym c.into_vec-cubes.ensures ∙ first_and_rest items q k (omega arith) c.remove-first.ensures.value (c.in_ok-others.ensures ∙ c.remove-first.ensures.items) in
    first_weakened c.args.under.now xs q _ k c.in_ok-short.short whole c.in_ok-push.ensures.ok c.in_ok-short.ensures
