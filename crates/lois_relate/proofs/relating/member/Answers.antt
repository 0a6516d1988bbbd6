use Rattle.std.proofs.Common.{◌≡◌, ◌+◌, ◌<◌, length, get_or, drop, map, refl, sym, ap, subst}
use Rattle.lois_base.specs.Data.{comps_of}
use Rattle.lois_base.specs.FormulaView.{view}
use Rattle.lois_base.specs.Tree.{tree, comp_of}
use Rattle.lois_base.specs.Validity.{AdmitsTerm, AdmitsItems}
use Rattle.lois_base.specs.Values.{SomeIsAt}
use Rattle.lois_relate.specs.Candidates.{comps_at}
use Rattle.lois_relate.specs.Named.{atoms_named}
use Rattle.lois_relate.proofs.Apart.{no_item}
use Rattle.lois_relate.proofs.Loops.{AnySoFar, any_go_on, any_cut, any_pass}
use Rattle.lois_relate.proofs.Parts.{is_comp_of}
use Rattle.lois_relate.proofs.Places.{places_are}
use Rattle.lois_relate.proofs.Steps.{some_is_split}
use Rattle.lois_relate.proofs.relating.member.Goals.{then-not-leaves_out+in_ok-one+in_ok-found+else-is_true_formula, else-not-leaves_out}
use Rattle.lois_relate.proofs.relating.member.Goals as goal

pub is_item-requires-clause-right : goal.is_item-requires-clause-right
is_item-requires-clause-right c =
    let items = c.args.among.comps.now in
    let i = get_or c.args.among.places.now c.loop-place.place-index 0 in
    let comp = get_or items i c.index-among-place.result in
    let is : comp ≡ get_or items i comp = ap (get_or items i) c.index-among-place.is in
    let k = is_comp_of items (map comp_of items) i comp refl (c.requires.places c.loop-place.place-index 0 c.loop-place-test.true) is in
    k.fits (length c.args.t_names.now) c.requires.right

pub loop-place-preserved : goal.loop-place-preserved
loop-place-preserved c =
    let items = c.args.among.comps.now in
    let places = c.args.among.places.now in
    let r = c.loop-place.place-index in
    let i = get_or places r 0 in
    let inside : i < length items = c.requires.places r 0 c.loop-place-test.true in
    let n = c.args.size in
    let sn = c.args.s_names.now in
    let tn = c.args.t_names.now in
    let s = tree c.args.s.now in
    let ks = comps_of (map comp_of items) in
    let all = comps_at (map comp_of items) places in
    let rest = comps_at (map comp_of items) (drop r places) in
    let rest' = comps_at (map comp_of items) (drop (r + 1) places) in
    let comp = get_or items i c.index-among-place.result in
    let is : comp ≡ get_or items i comp = ap (get_or items i) c.index-among-place.is in
    let q = comp_of comp in
    let k = is_comp_of items (map comp_of items) i comp refl inside is in
    let first = places_are items places r i comp c.loop-place-test.true refl inside is in
    elim c.if-not-leaves_out.branch [
      | then-not-leaves_out+in_ok-one+in_ok-found+else-is_true_formula w ↦
          subst (λ z. AnySoFar n (λ a. SomeIsAt rest' (atoms_named tn a) s (atoms_named sn a)) (λ a. SomeIsAt all (atoms_named tn a) s (atoms_named sn a)) (λ o. AdmitsItems o ks × AdmitsTerm o s) (view z)) (sym w.found-is)
          (any_go_on n _ _ _ _ _ _ (view c.loop-place.found) (view w.in_ok-one.one) (view w.in_ok-found.found) c.loop-place.invariant (λ a. some_is_split rest rest' q first (atoms_named tn a) s (atoms_named sn a)) w.in_ok-one.ensures (λ o h. (k.admits o h.0, h.1)) w.in_ok-found.ensures)
      | else-not-leaves_out w ↦
          subst (λ z. AnySoFar n (λ a. SomeIsAt rest' (atoms_named tn a) s (atoms_named sn a)) (λ a. SomeIsAt all (atoms_named tn a) s (atoms_named sn a)) (λ o. AdmitsItems o ks × AdmitsTerm o s) (view z)) (sym w.found-is)
          (any_pass n _ _ _ _ _ (view c.loop-place.found) c.loop-place.invariant (λ a. some_is_split rest rest' q first (atoms_named tn a) s (atoms_named sn a)) (λ a one. no_item q s (atoms_named tn a) (atoms_named sn a) (c.leaves_out.ensures w.if-not-leaves_out.false) one))
    ]

pub returns-then-is_true_formula : goal.returns-then-is_true_formula
returns-then-is_true_formula c =
    let items = c.args.among.comps.now in
    let places = c.args.among.places.now in
    let r = c.loop-place.place-index in
    let i = get_or places r 0 in
    let inside : i < length items = c.requires.places r 0 c.loop-place-test.true in
    let n = c.args.size in
    let sn = c.args.s_names.now in
    let tn = c.args.t_names.now in
    let s = tree c.args.s.now in
    let rest = comps_at (map comp_of items) (drop r places) in
    let rest' = comps_at (map comp_of items) (drop (r + 1) places) in
    let comp = get_or items i c.index-among-place.result in
    let is : comp ≡ get_or items i comp = ap (get_or items i) c.index-among-place.is in
    let q = comp_of comp in
    let k = is_comp_of items (map comp_of items) i comp refl inside is in
    let first = places_are items places r i comp c.loop-place-test.true refl inside is in
    any_cut n (λ a. SomeIsAt rest' (atoms_named tn a) s (atoms_named sn a)) _ _ (view c.in_ok-found.found) (c.is_true_formula.ensures.0 c.if-is_true_formula.true) (any_go_on n _ _ _ _ _ _ (view c.loop-place.found) (view c.in_ok-one.one) (view c.in_ok-found.found) c.loop-place.invariant (λ a. some_is_split rest rest' q first (atoms_named tn a) s (atoms_named sn a)) c.in_ok-one.ensures (λ o h. (k.admits o h.0, h.1)) c.in_ok-found.ensures)
