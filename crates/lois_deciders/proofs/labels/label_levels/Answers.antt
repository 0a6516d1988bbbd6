use Rattle.std.proofs.Common.{rules, List, ℕ, ◌+◌, sym, ap, subst}
use Rattle.smallvec.specs.SmallVec.{SmallVec}
use Rattle.lois_base.specs.declared.guards.Lit.{Lit}
use Rattle.lois_base.specs.declared.guards.Op.TheVariants.{Eq}
use Rattle.lois_deciders.specs.Labels.{IsLabelling, AreClasses}
use Rattle.lois_deciders.proofs.Labelled.{own_labelling, labelling_same, labelling_joined}
use Rattle.lois_deciders.proofs.Classes.{own_are_classes}
use Rattle.lois_deciders.proofs.labels.label_levels.Goals as goal
use Rattle.lois_deciders.proofs.labels.label_levels.Goals.{then-eq+in_ok-join, else-eq}

pub loop-lit-init : goal.loop-lit-init
loop-lit-init c = record {
  labelling = own_labelling c.args.size c.args.cube.now c.in_ok-labels.labels.items c.in_ok-labels.ensures.count c.in_ok-labels.ensures.own;
  classes = own_are_classes c.args.size c.in_ok-labels.labels.items c.in_ok-classes.classes.items c.in_ok-labels.ensures.count c.in_ok-labels.ensures.own c.in_ok-classes.ensures.count c.in_ok-classes.ensures.own;
}

pub loop-lit-preserved : goal.loop-lit-preserved
loop-lit-preserved c =
    let d : Lit = record { op = Eq; left = 0; right = 0 } in
    let xs = c.as_slice-lit-items.result.now in
    let k = c.loop-lit.lit-index in
    let labels : List ℕ = c.loop-lit.labels.items in
    let kept = λ (next : List ℕ). IsLabelling c.args.size c.args.cube.now (k + 1) next in
    let h = c.loop-lit.invariant in
    elim c.if-eq.branch [
      | then-eq+in_ok-join w ↦ record {
        labelling = subst kept (ap (λ v. v.items) (sym w.labels-is)) (labelling_joined c.args.size xs c.args.cube.now k labels w.join.new.labels.items d c.as_slice-lit-items.ensures c.loop-lit-test.true (search rules) w.in_ok-join.ensures.joined c.requires h.labelling);
        classes = subst (λ (ls : List ℕ). AreClasses ls c.if-eq.classes.items) (ap (λ v. v.items) (sym w.labels-is)) (subst (λ (cs : List (SmallVec ℕ)). AreClasses w.join.new.labels.items cs) (ap (λ v. v.items) (sym w.classes-is)) w.in_ok-join.ensures.classes);
      }
      | else-eq w ↦ record {
        labelling = subst kept (ap (λ v. v.items) (sym w.labels-is)) (labelling_same c.args.size xs c.args.cube.now k labels d c.as_slice-lit-items.ensures c.loop-lit-test.true (search rules) h.labelling);
        classes = subst (λ (ls : List ℕ). AreClasses ls c.if-eq.classes.items) (ap (λ v. v.items) (sym w.labels-is)) (subst (λ (cs : List (SmallVec ℕ)). AreClasses labels cs) (ap (λ v. v.items) (sym w.classes-is)) h.classes);
      }
    ]
