use Rattle.std.proofs.Common.{◌≡◌, Bool, List, take, drop, length, IsTrue, sym, subst, arith}
use Rattle.std.proofs.lemmas.List.{take-append-drop}
use Rattle.std.proofs.lemmas.Result.{IfOk-weaker}
use Rattle.lois_base.specs.Atom.{Atom}
use Rattle.lois_base.specs.Data.{coll, comps_of}
use Rattle.lois_base.specs.Fits.{Fits, ItemsFit}
use Rattle.lois_base.specs.Tree.{tree}
use Rattle.lois_base.specs.Truth.{holds}
use Rattle.lois_base.specs.Validity.{AdmitsItems, AdmitsTerm, HasBoundedWidths}
use Rattle.lois_base.specs.Values.{point, IsSame}
use Rattle.lois_context.specs.Entered.{comps_listed}
use Rattle.lois_context.proofs.Contents.{set_of, counted_set, count_listed}
use Rattle.lois_interp.specs.Members.{ArePutBehind}
use Rattle.lois_interp.specs.Tidied.{IsTidied}
use Rattle.lois_interp.proofs.Tidying.{set_tidied, still_set, items_fit_last, items_admit_last}
use Rattle.lois_interp.proofs.joining.tidied_set.Goals as goal

pub parted-requires : goal.parted-requires
parted-requires g c = counted_set (tree c.args.set) c.args.first c.requires.count

pub simplify-requires-clause-over : goal.simplify-requires-clause-over
simplify-requires-clause-over g c =
    let s = tree c.args.set in let ks = comps_listed s in let first = c.args.first in let o = g.T.Structure.ordered in
    let is = set_of s (counted_set s first c.requires.count) in
    record {
      levels =
          subst (λ z. ItemsFit c.args.size (comps_of z)) (sym c.in_ok-parts.ensures.added)
          (items_fit_last c.args.size (take first ks) (drop first ks) (subst (λ z. ItemsFit c.args.size (comps_of z)) (sym (take-append-drop first ks)) (subst (Fits c.args.size) is c.requires.over.levels)));
      operators =
          subst (λ z. AdmitsItems o (comps_of z)) (sym c.in_ok-parts.ensures.added)
          (items_admit_last o (take first ks) (drop first ks) (subst (λ z. AdmitsItems o (comps_of z)) (sym (take-append-drop first ks)) (subst (AdmitsTerm o) is c.requires.over.operators)));
    }

pub with_items-requires-clause-set : goal.with_items-requires-clause-set
with_items-requires-clause-set g c =
    still_set c.args.size c.args.«when».now (comps_of c.in_ok-parts.parts.1) (tree c.in_ok-lean.lean) c.requires.met c.in_ok-lean.ensures.value

pub returns-clause-tidied : goal.returns-clause-tidied
returns-clause-tidied g c =
    let n = c.args.size in let u = c.args.«when».now in
    let s = tree c.args.set in let ks = comps_listed s in let first = c.args.first in
    let is = set_of s (counted_set s first c.requires.count) in
    let parts = c.in_ok-parts.parts in let P = c.in_ok-parts.ensures in
    let lean = tree c.in_ok-lean.lean in let E = c.in_ok-lean.ensures in
    IfOk-weaker c.with_items.result (λ r. ArePutBehind (comps_listed (tree parts.0)) (comps_listed lean) (tree r)) (λ r. IsTidied n u first s (tree r))
    (λ r put.
    subst (λ z. IsTidied n u first z (tree r)) (sym is)
    (set_tidied n u first ks lean (tree r) (omega (arith, c.requires.count, count_listed s)) (subst (Fits n) is c.requires.over.levels)
    (still_set n u (comps_of parts.1) lean c.requires.met E.value)
    (subst (λ z. ArePutBehind z (comps_listed lean) (tree r)) P.old put)
    E.levels
    (subst (λ z. (a : List Atom) → length a ≡ n → IsTrue (holds a u) → IsSame (point (coll (comps_of z)) a) (point lean a)) P.added E.value)
    (subst (λ z. (o : Bool) → AdmitsTerm o (coll (comps_of z)) → AdmitsTerm o lean) P.added E.operators)
    (subst (λ z. HasBoundedWidths (coll (comps_of z)) → HasBoundedWidths lean) P.added E.widths)))
    c.with_items.ensures
