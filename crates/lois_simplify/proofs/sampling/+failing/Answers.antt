use Rattle.std.proofs.Common.{◌≡◌, ◌<◌, List, ◌∷◌, [], ◌++◌, length, append_assoc, subst, arith}
use Rattle.lois_base.specs.Atom.{Atom}
use Rattle.lois_base.specs.FormulaData.{exists}
use Rattle.lois_base.specs.FormulaTruth.{FormulaHolds}
use Rattle.lois_base.specs.FormulaView.{view}
use Rattle.lois_base.specs.Truth.{sampled}
use Rattle.lois_base.proofs.FormulaViews.{formula_within, view_Exists}
use Rattle.lois_simplify.proofs.sampling.+failing.Goals as goal

pub fails_at-returns-in-Exists : goal.fails_at-returns-in-Exists
fails_at-returns-in-Exists t c = λ seen e h.
    let is : view c.args.f.now ≡ exists (view c.deref.result.now) = view_Exists c.args.f.now c.in-Exists.body c.deref.result.now c.in-Exists.is c.deref.ensures in
    let u : List Atom = sampled c.args.sample.now in
    let some = subst (FormulaHolds (u ++ e)) is h in
    c.fails_at.ensures seen (e ++ some.0 ∷ []) (subst (λ z. FormulaHolds z (view c.deref.result.now)) (append_assoc u e (some.0 ∷ [])) some.1)

pub some_fails_at-fails_at-requires : goal.some_fails_at-fails_at-requires
some_fails_at-fails_at-requires t c =
    let below : c.loop-part.part-index < length c.as_slice-part-items.result.now = omega arith in
    let h = formula_within _ _ _ _ c.as_slice-part-items.ensures below c.part-item.is in
    omega (arith, h)

pub each_fails_at-fails_at-requires : goal.each_fails_at-fails_at-requires
each_fails_at-fails_at-requires t c =
    let below : c.loop-part.part-index < length c.as_slice-part-items.result.now = omega arith in
    let h = formula_within _ _ _ _ c.as_slice-part-items.ensures below c.part-item.is in
    omega (arith, h)
