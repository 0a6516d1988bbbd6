use Rattle.std.proofs.Common.{sym, subst}
use Rattle.lois_base.specs.Data.{comp, comps_of}
use Rattle.lois_base.specs.Tree.{tree}
use Rattle.lois_picture.specs.Drawing.{AddsEnds}
use Rattle.lois_picture.proofs.Pairs.{makes_pairs, both_put, put_or_not}
use Rattle.lois_picture.proofs.relations.add_ends.Goals as goal

pub returns-in_default-clause-added : goal.returns-in_default-clause-added
returns-in_default-clause-added g c =
    let k = c.args.comp.now in
    put_or_not k.binders k.guard (tree k.item) (comps_of c.args.ends.now) c.in_default.ensures.none c.in_ok-member.member (λ s. s.items) c.in_ok-member.ensures.sample c.in_ok-member.ensures.none c.is_none.result c.is_none.ensures

pub returns-clause-added : goal.returns-clause-added
returns-clause-added g c =
    let k = c.args.comp.now in
    let a = tree c.in-Some.first.now in
    let b = tree c.in-Some.second.now in
    subst (λ z. AddsEnds (comp k.binders k.guard z) (comps_of c.args.ends.now) (comps_of c.put_end-2.new.ends)) (sym c.in-Some.ensures.some)
    (makes_pairs k.binders k.guard a b, both_put k.binders k.guard a b (comps_of c.args.ends.now) (comps_of c.put_end.new.ends) (comps_of c.put_end-2.new.ends) c.in_ok-put_end.ensures c.in_ok-put_end-2.ensures)
