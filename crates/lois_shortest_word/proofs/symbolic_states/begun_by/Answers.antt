use Rattle.std.proofs.Common.{◌+◌, ap, arith}
use Rattle.lois_base.specs.Fits.{ConstraintFits}
use Rattle.lois_base.specs.Tree.{tree}
use Rattle.lois_automata.specs.Built.{HoldsWhereAdmittedIn}
use Rattle.lois_automata.proofs.Members.{admitted_is}
use Rattle.lois_constraint.proofs.Shifting.{fits_more}
use Rattle.lois_deciders.proofs.Oracle.{some_is, none_is}
use Rattle.lois_shortest_word.specs.SymbolicStates.{IsSatisfiableCube}
use Rattle.lois_shortest_word.proofs.Starts.{begun_is, never_begins}
use Rattle.lois_shortest_word.proofs.symbolic_states.begun_by.Goals as goal

pub satisfiable_cube-requires : goal.satisfiable_cube-requires
satisfiable_cube-requires g c =
    let comp = c.args.comp.now in
    let n = c.args.size + comp.binders in
    let under : ConstraintFits n c.args.under.now = fits_more c.args.size n c.args.under.now (omega arith) c.requires.under in
    c.in_ok-wanted.ensures.fits n (c.in_ok-admitted.ensures.fits n under c.requires.over.levels.1) c.in_ok-found.ensures.fits

pub returns-in_default-clause-none : goal.returns-in_default-clause-none
returns-in_default-clause-none g c = λ _.
    let comp = c.args.comp.now in
    let is : HoldsWhereAdmittedIn c.args.size comp.binders c.args.under.now comp.guard (tree comp.item) (tree c.args.layer.now) c.in_ok-wanted.wanted = admitted_is c.args.size comp.binders c.args.under.now comp.guard (tree comp.item) (tree c.args.layer.now) c.in_ok-found.found c.in_ok-admitted.admitted c.in_ok-wanted.wanted c.requires.under c.in_ok-found.ensures.truth c.in_ok-admitted.ensures.truth c.in_ok-wanted.ensures.truth in
    never_begins c.args.size comp.binders c.args.under.now comp.guard (tree comp.item) (tree c.args.layer.now) c.in_ok-wanted.wanted is (c.in_ok-met.ensures.none (none_is c.in_ok-met.field-0 c.in_default.is))

pub returns-clause-some : goal.returns-clause-some
returns-clause-some g c =
    let comp = c.args.comp.now in
    let n = c.args.size in
    let is : HoldsWhereAdmittedIn n comp.binders c.args.under.now comp.guard (tree comp.item) (tree c.args.layer.now) c.in_ok-wanted.wanted = admitted_is n comp.binders c.args.under.now comp.guard (tree comp.item) (tree c.args.layer.now) c.in_ok-found.found c.in_ok-admitted.admitted c.in_ok-wanted.wanted c.requires.under c.in_ok-found.ensures.truth c.in_ok-admitted.ensures.truth c.in_ok-wanted.ensures.truth in
    let narrow = some_is (λ m. IsSatisfiableCube (n + comp.binders) c.in_ok-wanted.wanted m.constraint m.sample) c.in_ok-met.field-0 c.in-Some.met c.in-Some.is c.in_ok-met.ensures.some in
    begun_is n c.args.under.now comp.guard (tree comp.item) (tree c.args.layer.now) c.in_ok-wanted.wanted (record { more = comp.binders; admitted = c.in-Some.met.constraint; state = c.in_ok-state.state; sample = c.in-Some.met.sample }) c.requires.over.levels.0 c.requires.over.levels.2 (ap tree c.in_ok-state.ensures) is narrow
