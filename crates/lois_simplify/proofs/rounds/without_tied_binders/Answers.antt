use Rattle.std.proofs.Common.{◌+◌, arith}
use Rattle.lois_base.specs.Tree.{tree, comp_of}
use Rattle.lois_simplify.proofs.OneRound.{everywhere_refl, everywhere_trans, everywhere_fits, everywhere_admits, tied_less}
use Rattle.lois_simplify.proofs.rounds.without_tied_binders.Goals as goal

pub overflow_add-size : goal.overflow_add-size
overflow_add-size g c =
    let f = everywhere_fits c.args.size (comp_of c.args.comp) (comp_of c.loop-tied.current) c.loop-tied.invariant.kept c.requires.over.levels in
    omega (arith, f.0)

pub without_binder-requires-clause-levels : goal.without_binder-requires-clause-levels
without_binder-requires-clause-levels g c =
    everywhere_fits c.args.size (comp_of c.args.comp) (comp_of c.loop-tied.current) c.loop-tied.invariant.kept c.requires.over.levels

pub without_binder-requires-clause-operators : goal.without_binder-requires-clause-operators
without_binder-requires-clause-operators g c =
    (everywhere_admits c.args.size (comp_of c.args.comp) (comp_of c.loop-tied.current) c.loop-tied.invariant.kept g.T.Structure.ordered c.requires.over.operators).0

pub loop-tied-init : goal.loop-tied-init
loop-tied-init g c =
    record { kept = everywhere_refl c.args.size (comp_of c.args.comp); binders = omega arith }

pub loop-tied-preserved : goal.loop-tied-preserved
loop-tied-preserved g c =
    let k = c.loop-tied.current in
    let r = c.in_ok-current.current in
    let e = c.in_ok-current.ensures in
    let so_far = c.loop-tied.invariant in
    let whole = everywhere_fits c.args.size (comp_of c.args.comp) (comp_of k) so_far.kept c.requires.over.levels in
    let range = c.in-Some.ensures.range in
    let less = tied_less c.args.size k.binders r.binders c.in-Some.tied.binder c.in-Some.tied.level k.guard r.guard (tree k.item) (tree r.item) e.binders e.item range.0 range.1 e.guard e.guard_levels e.guard_operators whole range.2 (c.in-Some.ensures.tied (c.args.size + k.binders)) in
    record {
      kept = everywhere_trans c.args.size (comp_of c.args.comp) (comp_of k) (comp_of r) so_far.kept less;
      binders = omega (arith, e.binders, so_far.binders);
    }
