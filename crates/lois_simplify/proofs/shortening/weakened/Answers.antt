use Rattle.std.proofs.Common.{◌≡◌, ◌+◌, [], ◌∷◌, ◌++◌, List, get_or, drop, sym, ap, ◌∙◌, subst, append_assoc}
use Rattle.std.specs.Bool.{IsTrue, IsFalse}
use Rattle.lois_base.specs.Atom.{Atom}
use Rattle.lois_base.specs.Truth.{lit_holds, cube_holds, holds}
use Rattle.lois_base.specs.declared.guards.Lit.{Lit}
use Rattle.lois_base.specs.declared.guards.Op.TheVariants.{Eq}
use Rattle.lois_base.proofs.Viewed.{rest_at}
use Rattle.lois_simplify.specs.Shortened.{IsWeakenedCube}
use Rattle.lois_simplify.proofs.Pass.{to_the_end}
use Rattle.lois_simplify.proofs.Shortened.{literal_left_out, cube_itself, held_by_others}
use Rattle.lois_simplify.proofs.shortening.weakened.Goals as goal
use Rattle.lois_simplify.proofs.shortening.weakened.Goals.{then-not-branch+in_ok-push, else-not-branch}

pub loop-index-init : goal.loop-index-init
loop-index-init c =
    let u = c.args.under.now in
    let k = c.args.cube.now in
    let g : List (List Lit) = k ∷ c.args.others.now in
    subst (λ z. IsWeakenedCube u g k (z ++ c.as_slice-literals.result.now)) (sym c.new-kept.ensures) (subst (IsWeakenedCube u g k) (sym c.as_slice-literals.ensures) (cube_itself u c.args.others.now k))

pub loop-index-preserved : goal.loop-index-preserved
loop-index-preserved c =
    let u = c.args.under.now in
    let whole = c.args.cube.now in
    let g : List (List Lit) = whole ∷ c.args.others.now in
    let items = c.as_slice-literals.result.now in
    let i = c.loop-index.index in
    let unused : Lit = record { op = Eq; left = 0; right = 0 } in
    let l = get_or items i unused in
    let kept = c.loop-index.kept in
    let coming = drop (i + 1) items in
    let so_far = subst (λ z. IsWeakenedCube u g whole (kept ++ z)) (rest_at items i unused c.loop-index-test.true) c.loop-index.invariant in
    elim c.if-not-branch.branch [
      | then-not-branch+in_ok-push w ↦
          let pushed : c.if-not-branch.kept ≡ kept ++ l ∷ [] = w.kept-is ∙ w.in_ok-push.ensures.ok in
          subst (IsWeakenedCube u g whole) (sym (ap (λ z. z ++ coming) pushed ∙ append_assoc kept (l ∷ []) coming)) so_far
      | else-not-branch w ↦
          let rest : c.in_ok-without.without ≡ kept ++ coming = c.in_ok-without.ensures ∙ ap (λ z. kept ++ z) (to_the_end items (i + 1)) in
          let gained = subst (λ z. (e : List Atom) → IsTrue (holds e u) → IsTrue (cube_holds e z) → IsFalse (lit_holds e l) → IsTrue (holds e g)) rest (λ e o h fails. held_by_others e whole c.args.others.now (c.in_ok-has_gained.ensures w.if-not-branch.false e o h fails)) in
          subst (λ z. IsWeakenedCube u g whole (z ++ coming)) (sym w.kept-is) (literal_left_out u g whole kept coming l so_far gained)
    ]
