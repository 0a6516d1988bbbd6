use Rattle.lois_base.specs.Tree.{tree}
use Rattle.lois_automata.proofs.Apart.{first_keyless, second_keyless, keys_apart}
use Rattle.lois_automata.proofs.unmatched.keys_clash.Goals as goal

pub returns-in_default : goal.returns-in_default
returns-in_default c h =
    let k = c.args.first.now in
    let q = c.args.second.now in
    first_keyless k.binders k.guard (tree k.item) q.binders q.guard (tree q.item) c.in_default.ensures.none

pub returns-in_default-pair_parts : goal.returns-in_default-pair_parts
returns-in_default-pair_parts c h =
    let k = c.args.first.now in
    let q = c.args.second.now in
    second_keyless k.binders k.guard (tree k.item) q.binders q.guard (tree q.item) c.in_default-pair_parts.ensures.none

pub returns : goal.returns
returns c h =
    let k = c.args.first.now in
    let q = c.args.second.now in
    keys_apart k.binders k.guard (tree k.item) q.binders q.guard (tree q.item) _ _ _ _ c.in-Some.ensures.some c.in-Some-pair_parts.ensures.some (c.clash.ensures h)
