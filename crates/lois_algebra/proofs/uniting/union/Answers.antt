use Rattle.std.proofs.Common.{◌≡◌, ◌++◌, refl, ap, ◌∙◌}
use Rattle.lois_base.specs.Tree.{tree}
use Rattle.lois_algebra.proofs.Unions.{is_union, union_fits, union_admits, union_widths, union_depth}
use Rattle.lois_algebra.proofs.uniting.union.Goals as goal

pub returns-clause-members : goal.returns-clause-members
returns-clause-members c =
    let e : c.add_all.new.comps ≡ c.in-Coll-Coll.comps ++ c.in-Coll-Coll.others = c.in_ok-add_all-in-Coll-Coll.ensures ∙ ap (λ z. z ++ c.in-Coll-Coll.others) c.in_ok-joined-in-Coll-Coll.ensures in
    is_union (tree c.args.s.now) (tree c.args.t.now) _ c.in-Coll-Coll.comps c.in-Coll-Coll.others c.add_all.new.comps (ap tree c.in-Coll-Coll.is-0) (ap tree c.in-Coll-Coll.is-1) e refl

pub returns-clause-levels : goal.returns-clause-levels
returns-clause-levels c =
    let e : c.add_all.new.comps ≡ c.in-Coll-Coll.comps ++ c.in-Coll-Coll.others = c.in_ok-add_all-in-Coll-Coll.ensures ∙ ap (λ z. z ++ c.in-Coll-Coll.others) c.in_ok-joined-in-Coll-Coll.ensures in
    union_fits (tree c.args.s.now) (tree c.args.t.now) _ c.in-Coll-Coll.comps c.in-Coll-Coll.others c.add_all.new.comps (ap tree c.in-Coll-Coll.is-0) (ap tree c.in-Coll-Coll.is-1) e refl

pub returns-clause-operators : goal.returns-clause-operators
returns-clause-operators c =
    let e : c.add_all.new.comps ≡ c.in-Coll-Coll.comps ++ c.in-Coll-Coll.others = c.in_ok-add_all-in-Coll-Coll.ensures ∙ ap (λ z. z ++ c.in-Coll-Coll.others) c.in_ok-joined-in-Coll-Coll.ensures in
    union_admits (tree c.args.s.now) (tree c.args.t.now) _ c.in-Coll-Coll.comps c.in-Coll-Coll.others c.add_all.new.comps (ap tree c.in-Coll-Coll.is-0) (ap tree c.in-Coll-Coll.is-1) e refl

pub returns-clause-widths : goal.returns-clause-widths
returns-clause-widths c =
    let e : c.add_all.new.comps ≡ c.in-Coll-Coll.comps ++ c.in-Coll-Coll.others = c.in_ok-add_all-in-Coll-Coll.ensures ∙ ap (λ z. z ++ c.in-Coll-Coll.others) c.in_ok-joined-in-Coll-Coll.ensures in
    union_widths (tree c.args.s.now) (tree c.args.t.now) _ c.in-Coll-Coll.comps c.in-Coll-Coll.others c.add_all.new.comps (ap tree c.in-Coll-Coll.is-0) (ap tree c.in-Coll-Coll.is-1) e refl

pub returns-clause-depth : goal.returns-clause-depth
returns-clause-depth c =
    let e : c.add_all.new.comps ≡ c.in-Coll-Coll.comps ++ c.in-Coll-Coll.others = c.in_ok-add_all-in-Coll-Coll.ensures ∙ ap (λ z. z ++ c.in-Coll-Coll.others) c.in_ok-joined-in-Coll-Coll.ensures in
    union_depth (tree c.args.s.now) (tree c.args.t.now) _ c.in-Coll-Coll.comps c.in-Coll-Coll.others c.add_all.new.comps (ap tree c.in-Coll-Coll.is-0) (ap tree c.in-Coll-Coll.is-1) e refl
