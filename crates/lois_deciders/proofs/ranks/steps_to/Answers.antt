use Rattle.std.proofs.Common.{ℕ, ◌<◌, ◌≤◌, length, get_or, arith, rules}
use Rattle.lois_base.specs.declared.guards.Lit.{Lit}
use Rattle.lois_base.specs.declared.guards.Op.TheVariants.{Eq}
use Rattle.lois_deciders.specs.Ranks.{is_step_to}
use Rattle.lois_deciders.proofs.Queued.{read_count, count_so_far}
use Rattle.lois_deciders.proofs.ranks.steps_to.Goals as goal

pub overflow_add-index_mut : goal.overflow_add-index_mut
overflow_add-index_mut c =
    let xs = c.as_slice-lit-items.result.now in
    let i = c.loop-lit.lit-index in
    let d : Lit = record { op = Eq; left = 0; right = 0 } in
    let y : ℕ = get_or c.args.labels.now (get_or xs i d).right 0 in
    let inside : y < length c.loop-lit.steps.items = search rules in
    let small = count_so_far (is_step_to c.args.labels.now y) xs i in
    let bound : c.index_mut.result.now ≤ i = read_count c.loop-lit.steps.items y c.index_mut.result.now i c.index_mut.ensures.value inside (omega (arith, small, c.loop-lit.invariant.steps y)) in
    omega (arith, bound)
