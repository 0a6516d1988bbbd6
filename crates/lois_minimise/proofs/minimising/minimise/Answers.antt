use Rattle.std.proofs.Common.{◌≡◌, ap}
use Rattle.std.proofs.lemmas.Result.{IfOk-weaker}
use Rattle.lois_base.specs.Data.{coll, comps_of}
use Rattle.lois_base.specs.Tree.{tree}
use Rattle.lois_minimise.specs.Classes.{IsQuotientTerm}
use Rattle.lois_minimise.proofs.TheMinimal.{whole_throughout, minimal_throughout}
use Rattle.lois_minimise.proofs.minimising.minimise.Goals as goal

pub returns-in_default-clause-minimal : goal.returns-in_default-clause-minimal
returns-in_default-clause-minimal g c = IfOk-weaker c.copy.result (λ r. r ≡ c.args.a.now) _ (λ r e d l u. let h = c.requires.whole d l u in absurd (c.in_default.ensures.none d (h.0, h.1))) c.copy.ensures

pub returns-in_default-clause-least : goal.returns-in_default-clause-least
returns-in_default-clause-least g c = IfOk-weaker c.copy.result (λ r. r ≡ c.args.a.now) _ (λ r e d l u. let h = c.requires.whole d l u in absurd (c.in_default.ensures.none d (h.0, h.1))) c.copy.ensures

pub returns-clause-minimal : goal.returns-clause-minimal
returns-clause-minimal g c =
    let n = c.args.size in
    let sets = c.in-Some.sets in
    let alike = coll (comps_of c.in_ok-alike.alike) in
    let whole = whole_throughout n c.args.under.now (tree c.args.a.now) (tree c.args.reached.now) (comps_of sets.states.now) (comps_of sets.letters.now) (comps_of sets.steps.now) (comps_of sets.initial.now) (comps_of sets.accepting.now) (comps_of c.in-Coll.nodes) c.in-Some.ensures.some (ap tree c.in-Coll.is) c.requires.whole c.requires.reached in
    let classes = coll (comps_of c.in_ok-classes.classes) in
    IfOk-weaker c.quotient.result (λ r. IsQuotientTerm n (comps_of sets.states.now) (comps_of sets.letters.now) (comps_of sets.steps.now) (comps_of sets.initial.now) (comps_of sets.accepting.now) classes (tree r)) _ (λ r made.
    (minimal_throughout n c.args.under.now (tree c.args.a.now) (tree c.args.reached.now) (comps_of sets.states.now) (comps_of sets.letters.now) (comps_of sets.steps.now) (comps_of sets.initial.now) (comps_of sets.accepting.now) (comps_of c.in-Coll.nodes) c.in-Some.ensures.some (ap tree c.in-Coll.is) c.requires.whole c.requires.reached
    alike classes (tree r) (λ d l u. c.in_ok-alike.ensures.alike d l (whole d l u)) (λ d l u. c.in_ok-classes.ensures.classed d l) made).0) c.quotient.ensures.quotient

pub returns-clause-least : goal.returns-clause-least
returns-clause-least g c =
    let n = c.args.size in
    let sets = c.in-Some.sets in
    let alike = coll (comps_of c.in_ok-alike.alike) in
    let whole = whole_throughout n c.args.under.now (tree c.args.a.now) (tree c.args.reached.now) (comps_of sets.states.now) (comps_of sets.letters.now) (comps_of sets.steps.now) (comps_of sets.initial.now) (comps_of sets.accepting.now) (comps_of c.in-Coll.nodes) c.in-Some.ensures.some (ap tree c.in-Coll.is) c.requires.whole c.requires.reached in
    let classes = coll (comps_of c.in_ok-classes.classes) in
    IfOk-weaker c.quotient.result (λ r. IsQuotientTerm n (comps_of sets.states.now) (comps_of sets.letters.now) (comps_of sets.steps.now) (comps_of sets.initial.now) (comps_of sets.accepting.now) classes (tree r)) _ (λ r made.
    (minimal_throughout n c.args.under.now (tree c.args.a.now) (tree c.args.reached.now) (comps_of sets.states.now) (comps_of sets.letters.now) (comps_of sets.steps.now) (comps_of sets.initial.now) (comps_of sets.accepting.now) (comps_of c.in-Coll.nodes) c.in-Some.ensures.some (ap tree c.in-Coll.is) c.requires.whole c.requires.reached
    alike classes (tree r) (λ d l u. c.in_ok-alike.ensures.alike d l (whole d l u)) (λ d l u. c.in_ok-classes.ensures.classed d l) made).1) c.quotient.ensures.quotient
