use Rattle.std.proofs.Common.{map, drop}
use Rattle.lois_base.specs.Data.{comps_of}
use Rattle.lois_base.specs.FormulaView.{view}
use Rattle.lois_base.specs.Tree.{tree, comp_of}
use Rattle.lois_base.specs.Validity.{AdmitsTerm, AdmitsItems}
use Rattle.lois_base.specs.Values.{SomeIsAt}
use Rattle.lois_relate.specs.Candidates.{comps_at}
use Rattle.lois_relate.specs.Named.{atoms_named}
use Rattle.lois_relate.proofs.Loops.{AnySoFar}
use Rattle.lois_relate.proofs.relating.member.Given as goal

abbrev pub invariant-loop-place : goal.invariant-loop-place
invariant-loop-place l =
    AnySoFar l.size (λ c. SomeIsAt (comps_at (map comp_of l.among.comps.now) (drop l.place-index l.among.places.now)) (atoms_named l.t_names c) (tree l.s) (atoms_named l.s_names c)) (λ c. SomeIsAt (comps_at (map comp_of l.among.comps.now) l.among.places.now) (atoms_named l.t_names c) (tree l.s) (atoms_named l.s_names c)) (λ o. AdmitsItems o (comps_of (map comp_of l.among.comps.now)) × AdmitsTerm o (tree l.s)) (view l.found)
