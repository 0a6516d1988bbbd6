use Rattle.std.proofs.Common.{◌≡◌, ◌+◌, ◌*◌, length, map, drop}
use Rattle.lois_base.specs.Data.{depth, terms_of, comps_of}
use Rattle.lois_base.specs.ListDepth.{depth_of_terms, depth_of_comps}
use Rattle.lois_base.specs.FormulaView.{view}
use Rattle.lois_base.specs.Tree.{tree, comp_of}
use Rattle.lois_base.specs.Validity.{AdmitsParts, AdmitsItems}
use Rattle.lois_base.specs.Values.{SamePartsAt, AllInAt}
use Rattle.lois_relate.specs.Candidates.{comps_at}
use Rattle.lois_relate.specs.Compared.{IsRow, AreRows}
use Rattle.lois_relate.specs.Named.{atoms_named}
use Rattle.lois_relate.proofs.Loops.{AllSoFar}
use Rattle.lois_relate.proofs.Pairs.{FoundSoFar}
use Rattle.lois_relate.proofs.Parts.{terms_from, comps_from}
use Rattle.lois_relate.proofs.relating.+relating.Given as goal

-- each call goes into one of both terms, or on to a function of a lower rank
abbrev pub decreases-same : goal.decreases-same
decreases-same l = 8 * (depth (tree l.s.now) + depth (tree l.t.now))

abbrev pub decreases-same_parts : goal.decreases-same_parts
decreases-same_parts l = 8 * (depth_of_terms l.terms.now + depth_of_terms l.others.now) + 1

abbrev pub decreases-same_sets : goal.decreases-same_sets
decreases-same_sets l = 8 * (depth_of_comps l.comps.now + depth_of_comps l.others.now) + 6

abbrev pub decreases-same_singles : goal.decreases-same_singles
decreases-same_singles l = 8 * (depth (tree l.one.now.item) + depth (tree l.other.now.item)) + 1

abbrev pub decreases-included : goal.decreases-included
decreases-included l = 8 * (depth_of_comps l.comps.now + depth_of_comps (map comp_of l.others.comps.now)) + 5

abbrev pub decreases-each_in : goal.decreases-each_in
decreases-each_in l = 8 * (depth (tree l.comp.now.item) + depth_of_comps (map comp_of l.others.comps.now)) + 4

abbrev pub decreases-found_in : goal.decreases-found_in
decreases-found_in l = 8 * (depth (tree l.comp.now.item) + depth_of_comps (map comp_of l.others.comps.now)) + 3

abbrev pub decreases-one_found : goal.decreases-one_found
decreases-one_found l = 8 * (depth (tree l.comp.now.item) + depth (tree l.other.now.item)) + 2

abbrev pub decreases-sets_compared : goal.decreases-sets_compared
decreases-sets_compared l = 8 * (depth_of_comps l.comps.now + depth_of_comps (map comp_of l.others.comps.now)) + 5

abbrev pub decreases-each_compared : goal.decreases-each_compared
decreases-each_compared l = 8 * (depth (tree l.comp.now.item) + depth_of_comps (map comp_of l.others.comps.now)) + 4

abbrev pub decreases-item_compared : goal.decreases-item_compared
decreases-item_compared l = 8 * (depth (tree l.comp.now.item) + depth_of_comps (map comp_of l.others.comps.now)) + 3

abbrev pub decreases-pair_compared : goal.decreases-pair_compared
decreases-pair_compared l = 8 * (depth (tree l.comp.now.item) + depth (tree l.other.now.item)) + 2

abbrev pub decreases-is_item : goal.decreases-is_item
decreases-is_item l = 8 * (depth (tree l.s.now) + depth (tree l.comp.now.item)) + 1

abbrev pub invariant-same_parts-loop-i : goal.invariant-same_parts-loop-i
invariant-same_parts-loop-i l =
    AllSoFar l.size (λ c. SamePartsAt (terms_from l.parts l.i) (atoms_named l.s_names c) (terms_from l.partners l.i) (atoms_named l.t_names c)) (λ c. SamePartsAt (terms_of l.terms) (atoms_named l.s_names c) (terms_of l.others) (atoms_named l.t_names c)) (λ o. AdmitsParts o (terms_of l.terms) × AdmitsParts o (terms_of l.others)) (view l.met)

abbrev pub invariant-included-loop-place : goal.invariant-included-loop-place
invariant-included-loop-place l =
    AllSoFar l.size (λ c. AllInAt (comps_from l.items l.place) (atoms_named l.s_names c) (comps_of (map comp_of l.others.comps.now)) (atoms_named l.t_names c)) (λ c. AllInAt (comps_of l.comps) (atoms_named l.s_names c) (comps_of (map comp_of l.others.comps.now)) (atoms_named l.t_names c)) (λ o. AdmitsItems o (comps_of l.comps) × AdmitsItems o (comps_of (map comp_of l.others.comps.now))) (view l.met)

abbrev pub invariant-found_in-loop-place : goal.invariant-found_in-loop-place
invariant-found_in-loop-place l =
    FoundSoFar l.size l.s_names l.t_names l.comp.binders l.comp.guard (tree l.comp.item) (comps_at (map comp_of l.others.comps.now) (drop l.place-index l.others.places.now)) (comps_of (map comp_of l.others.comps.now)) (view l.found)

abbrev pub invariant-item_compared-loop-place : goal.invariant-item_compared-loop-place
invariant-item_compared-loop-place l =
    FoundSoFar l.size l.s_names l.t_names l.comp.binders l.comp.guard (tree l.comp.item) (comps_at (map comp_of l.others.comps.now) (drop l.place-index l.others.places.now)) (comps_of (map comp_of l.others.comps.now)) (view l.found) × IsRow l.size (comp_of l.comp) l.s_names (map comp_of l.others.comps.now) l.t_names l.pairs.items

abbrev pub invariant-sets_compared-loop-comp : goal.invariant-sets_compared-loop-comp
invariant-sets_compared-loop-comp l =
    AllSoFar l.size (λ c. AllInAt (comps_from l.comp-items l.comp-index) (atoms_named l.s_names c) (comps_of (map comp_of l.others.comps.now)) (atoms_named l.t_names c)) (λ c. AllInAt (comps_of l.comps) (atoms_named l.s_names c) (comps_of (map comp_of l.others.comps.now)) (atoms_named l.t_names c)) (λ o. AdmitsItems o (comps_of l.comps) × AdmitsItems o (comps_of (map comp_of l.others.comps.now))) (view l.met) × (length l.rows.items ≡ l.comp-index) × AreRows l.size l.comps l.s_names (map comp_of l.others.comps.now) l.t_names l.rows.items
