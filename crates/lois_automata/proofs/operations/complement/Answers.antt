use Rattle.std.proofs.Common.{◌≡◌, ap}
use Rattle.std.proofs.lemmas.Result.{IfOk-weaker}
use Rattle.lois_base.specs.Data.{coll, comps_of}
use Rattle.lois_base.specs.Tree.{tree}
use Rattle.lois_automata.specs.Projections.{five_terms}
use Rattle.lois_automata.proofs.FiveMachine.{complement_throughout}
use Rattle.lois_automata.proofs.operations.complement.Goals as goal

pub returns-in_default-clause-complement : goal.returns-in_default-clause-complement
returns-in_default-clause-complement g c = IfOk-weaker c.copy.result (λ r. r ≡ c.args.a.now) _ (λ r e d l u. let h = c.requires.whole d l u in absurd (c.in_default.ensures.none d (h.0, h.1))) c.copy.ensures

pub returns-in_default-clause-words : goal.returns-in_default-clause-words
returns-in_default-clause-words g c = IfOk-weaker c.copy.result (λ r. r ≡ c.args.a.now) _ (λ r e d l u. let h = c.requires.whole d l u in absurd (c.in_default.ensures.none d (h.0, h.1))) c.copy.ensures

pub returns-clause-complement : goal.returns-clause-complement
returns-clause-complement g c =
    let n = c.args.size in
    let sets = c.in-Some.sets in
    let s = c.in_ok-copy.field-0 in
    let l = c.in_ok-copy-2.field-0 in
    let t = c.in_ok-copy-3.field-0 in
    let i = c.in_ok-copy-4.field-0 in
    let f = c.in_ok-copy-5.field-0 in
    let others = tree c.in_ok-others.others in
    IfOk-weaker c.of_five.result (λ r. tree r ≡ five_terms (coll (comps_of s)) (coll (comps_of l)) (coll (comps_of t)) (coll (comps_of i)) others) _ (λ r made.
    (complement_throughout n c.args.under.now (tree c.args.a.now) (tree r) (comps_of sets.states.now) (comps_of sets.letters.now) (comps_of sets.steps.now) (comps_of sets.initial.now) (comps_of sets.accepting.now) c.in-Some.ensures.some
    (comps_of s) (comps_of l) (comps_of t) (comps_of i) (comps_of f) others c.requires.whole c.in_ok-others.ensures.set c.in_ok-others.ensures.members
    (ap comps_of c.in_ok-copy.ensures) (ap comps_of c.in_ok-copy-2.ensures) (ap comps_of c.in_ok-copy-3.ensures) (ap comps_of c.in_ok-copy-4.ensures) (ap comps_of c.in_ok-copy-5.ensures) made).0) c.of_five.ensures

pub returns-clause-words : goal.returns-clause-words
returns-clause-words g c =
    let n = c.args.size in
    let sets = c.in-Some.sets in
    let s = c.in_ok-copy.field-0 in
    let l = c.in_ok-copy-2.field-0 in
    let t = c.in_ok-copy-3.field-0 in
    let i = c.in_ok-copy-4.field-0 in
    let f = c.in_ok-copy-5.field-0 in
    let others = tree c.in_ok-others.others in
    IfOk-weaker c.of_five.result (λ r. tree r ≡ five_terms (coll (comps_of s)) (coll (comps_of l)) (coll (comps_of t)) (coll (comps_of i)) others) _ (λ r made.
    (complement_throughout n c.args.under.now (tree c.args.a.now) (tree r) (comps_of sets.states.now) (comps_of sets.letters.now) (comps_of sets.steps.now) (comps_of sets.initial.now) (comps_of sets.accepting.now) c.in-Some.ensures.some
    (comps_of s) (comps_of l) (comps_of t) (comps_of i) (comps_of f) others c.requires.whole c.in_ok-others.ensures.set c.in_ok-others.ensures.members
    (ap comps_of c.in_ok-copy.ensures) (ap comps_of c.in_ok-copy-2.ensures) (ap comps_of c.in_ok-copy-3.ensures) (ap comps_of c.in_ok-copy-4.ensures) (ap comps_of c.in_ok-copy-5.ensures) made).1) c.of_five.ensures
