use Rattle.std.proofs.Common.{◌≡◌, ℕ, ◌<◌, List, ◌++◌, length, map, get_or, set, sym, ap, ◌∙◌, subst, arith}
use Rattle.smallvec.specs.SmallVec.{SmallVec}
use Rattle.lois_constraint.specs.Substitution.{put_level}
use Rattle.lois_deciders.specs.Labels.{AreClasses}
use Rattle.lois_deciders.proofs.Classes.{IsMoved, nothing_moved, one_moved, all_moved, moved_in_place}
use Rattle.lois_deciders.proofs.labels.move_class.Goals as goal

pub loop-level-init : goal.loop-level-init
loop-level-init c = nothing_moved _ _ _

pub loop-level-preserved : goal.loop-level-preserved
loop-level-preserved c =
    let labels : List ℕ = c.args.labels.now.items in
    let d : SmallVec ℕ = c.index_mut.result.now in
    let xs : List ℕ = c.as_slice-level-items.result.now in
    let i : ℕ = c.loop-level.level-index in
    let e : xs ≡ (get_or c.args.classes.now.items c.args.old d).items = c.as_slice-level-items.ensures ∙ ap (λ (v : SmallVec ℕ). v.items) (c.replace-levels.ensures.value ∙ c.index_mut.ensures.value) in
    let inside : i < length (get_or c.args.classes.now.items c.args.old d).items = omega (arith, c.loop-level-test.true, ap length e) in
    let small : get_or xs i 0 < length labels = subst (λ (ys : List ℕ). get_or ys i 0 < length labels) (sym e) (c.requires.classes.sound c.args.old d c.requires.old i 0 inside).0 in
    one_moved labels xs c.args.new i c.loop-level.labels.items (omega (arith, small, c.loop-level.invariant.count)) c.loop-level.invariant

pub returns-clause-labels : goal.returns-clause-labels
returns-clause-labels c =
    let labels : List ℕ = c.args.labels.now.items in
    let d : SmallVec ℕ = c.index_mut.result.now in
    let xs : List ℕ = c.as_slice-level-items.result.now in
    let i : ℕ = c.loop-level.level-index in
    let e : xs ≡ (get_or c.args.classes.now.items c.args.old d).items = c.as_slice-level-items.ensures ∙ ap (λ (v : SmallVec ℕ). v.items) (c.replace-levels.ensures.value ∙ c.index_mut.ensures.value) in
    let all : i ≡ length (get_or c.args.classes.now.items c.args.old d).items = omega (arith, ap length e) in
    all_moved labels c.args.classes.now.items c.requires.classes c.args.old c.args.new d c.requires.old c.requires.new c.requires.apart c.loop-level.labels.items i all (subst (λ (ys : List ℕ). IsMoved labels ys c.args.new i c.loop-level.labels.items) e c.loop-level.invariant)

pub returns-clause-classes : goal.returns-clause-classes
returns-clause-classes c =
    let labels : List ℕ = c.args.labels.now.items in
    let d : SmallVec ℕ = c.index_mut.result.now in
    let xs : List ℕ = c.as_slice-level-items.result.now in
    let i : ℕ = c.loop-level.level-index in
    let f : c.replace-levels.result.items ≡ (get_or c.args.classes.now.items c.args.old d).items = ap (λ (v : SmallVec ℕ). v.items) (c.replace-levels.ensures.value ∙ c.index_mut.ensures.value) in
    let e : xs ≡ (get_or c.args.classes.now.items c.args.old d).items = c.as_slice-level-items.ensures ∙ f in
    let all : i ≡ length (get_or c.args.classes.now.items c.args.old d).items = omega (arith, ap length e) in
    let made : c.loop-level.labels.items ≡ map (put_level c.args.old c.args.new) labels = all_moved labels c.args.classes.now.items c.requires.classes c.args.old c.args.new d c.requires.old c.requires.new c.requires.apart c.loop-level.labels.items i all (subst (λ (ys : List ℕ). IsMoved labels ys c.args.new i c.loop-level.labels.items) e c.loop-level.invariant) in
    let grown : c.extend_from_slice.new.self.items ≡ c.index_mut-2.result.now.items ++ (get_or c.args.classes.now.items c.args.old d).items = c.in_ok-extend_from_slice.ensures.ok ∙ ap (λ (ys : List ℕ). c.index_mut-2.result.now.items ++ ys) (c.as_slice.ensures ∙ f) in
    subst (λ (ls : List ℕ). AreClasses ls (set (set c.args.classes.now.items c.args.old c.replace-levels.new.dest) c.args.new c.extend_from_slice.new.self)) (sym made) (moved_in_place labels c.args.classes.now.items c.requires.classes c.args.old c.args.new d c.requires.old c.requires.new c.requires.apart c.replace-levels.new.dest c.extend_from_slice.new.self c.index_mut-2.result.now (ap (λ (v : SmallVec ℕ). v.items) c.replace-levels.ensures.after ∙ c.new.ensures.items) c.index_mut-2.ensures.value grown)
