-- Small expressions and scripts, and what they mean. Each fact here is proved of the definitions, and shows that they mean
-- what they should. Places are 0 where nothing is said of them.
use Rattle.std.specs.Prelude.{◌≡◌, ℕ, zero, suc, ◌+◌, ◌<◌, ◌≤◌, false, List, [], ◌∷◌, length, map, bytes_eq, ◌↔◌, Some, IsFalse}
use Rattle.std.specs.List.{IsDistinct}
use Rattle.lois_base.specs.Atom.{Atom, equal}
use Rattle.lois_base.specs.Data.{TermD, tag, tup, coll, no_terms, term, comp, no_comps, more}
use Rattle.lois_base.specs.Values.{PointValue, point, IsMember, IsSame, IsIn}
use Rattle.lois_meaning.specs.Automata.{Automaton, IsAutomatonOf, Accepts}
use Rattle.lois_meaning.specs.Expressions.{Gives, HasTruth}
use Rattle.lois_meaning.specs.Faults.{Fails}
use Rattle.lois_meaning.specs.Kinds.{IsAtomValue, IsSet}
use Rattle.lois_meaning.specs.Runs.{BlockEnds, TurnsEnd, StmtEnds, ListEnds, StmtFails, ScriptEnds}
use Rattle.lois_meaning.specs.Store.{named, NamedValues, looked_up, stored, AreSameNamed, opening, depth_limit}
use Rattle.lois_meaning.specs.ProperStores.{IsStore}
use Rattle.lois_script.specs.Tree.{ExprD, atoms, listed, each, no_exprs, expr, binding, no_bindings, bind, CondD, truth, same, StmtD, «let», add, for, while, assert, print, StmtsD, no_stmts, stmt, ParamD, ScriptD}
use Rattle.lois_answers.specs.declared.faults.FaultKind.{FaultKind}
use Rattle.lois_answers.specs.declared.faults.FaultKind.TheVariants.{Assertion, TurnLimit, DepthLimit}

-- the names a, b, p, q, s, x and y
abbrev pub name_a : List ℕ
name_a = 97 ∷ []

abbrev pub name_b : List ℕ
name_b = 98 ∷ []

abbrev pub name_p : List ℕ
name_p = 112 ∷ []

abbrev pub name_q : List ℕ
name_q = 113 ∷ []

abbrev pub name_s : List ℕ
name_s = 115 ∷ []

abbrev pub name_x : List ℕ
name_x = 120 ∷ []

abbrev pub name_y : List ℕ
name_y = 121 ∷ []

-- a name as an expression
abbrev pub the : List ℕ → ExprD
the x = ExprD.var 0 x

abbrev pub parameter_name : ParamD → List ℕ
parameter_name p = p.name

-- the set of one item
abbrev pub only_item : TermD → TermD
only_item t = coll (more (comp 0 ([] ∷ []) t) no_comps)

-- the set of an item for every atom
abbrev pub for_all_atoms : TermD → TermD
for_all_atoms t = coll (more (comp 1 ([] ∷ []) t) no_comps)

-- some values: the empty set, the set of all atoms, an atom, a tag
abbrev pub empty_set : PointValue
empty_set = point (coll no_comps) []

abbrev pub all_atoms : PointValue
all_atoms = point (for_all_atoms (TermD.var 0)) []

abbrev pub atom_value : Atom → PointValue
atom_value a = point (TermD.var 0) (a ∷ [])

abbrev pub tag_value : List ℕ → PointValue
tag_value n = point (tag n) []

-- `atoms` gives the set of exactly the atoms, and nothing else.
pub record AtomsAreAll : Type 0 where
  pub given : (p : ℕ) (s : NamedValues) → Gives (atoms p) s all_atoms
  pub alone : (p : ℕ) (s : NamedValues) (v : PointValue) → Gives (atoms p) s v → IsSame v all_atoms
  pub members : (w : PointValue) → IsIn w all_atoms ↔ ((a : Atom) × IsAtomValue w a)

-- `{x for x in atoms}` gives the set of all atoms, under each name and at each store.
abbrev pub EachAtomIsAll : Type 0
EachAtomIsAll = (x : List ℕ) (s : NamedValues) →
    Gives (each 0 (the x) (bind (binding 0 x (atoms 0)) no_bindings) truth) s all_atoms

-- With the parameters a and b, the condition `a = b` has the truth of the two atoms of the choice.
abbrev pub ParametersAreAtoms : Type 0
ParametersAreAtoms = (c d : Atom) →
    HasTruth (same (the name_a) (the name_b))
    (opening (record { place = 0; name = name_a } ∷ record { place = 0; name = name_b } ∷ []) (c ∷ d ∷ [])) (equal c d)

-- `{}` within k pairs of braces
abbrev pub nested : ℕ → ExprD
nested zero = listed 0 no_exprs
nested (suc k) = listed 0 (expr (nested k) no_exprs)

abbrev pub nested_term : ℕ → TermD
nested_term zero = coll no_comps
nested_term (suc k) = only_item (nested_term k)

-- A value that is as deep as the limit is given; one more pair of braces fails for depth, at its own place.
pub record DepthIsExact : Type 0 where
  pub given : (k : ℕ) (s : NamedValues) → k < depth_limit → Gives (nested k) s (point (nested_term k) [])
  pub fails : (p k : ℕ) (s : NamedValues) → k + 1 ≡ depth_limit →
      Fails (listed p (expr (nested k) no_exprs)) s p DepthLimit

-- The opening store is one, where the parameters are distinct and the choice has an atom for each.
abbrev pub OpensStores : Type 0
OpensStores = (ps : List ParamD) (c : List Atom) →
    IsDistinct bytes_eq (map parameter_name ps) → length c ≡ length ps → IsStore (opening ps c)

-- for x in atoms { add x to s; assert s = {x}; }
abbrev pub add_alone : StmtsD
add_alone =
    stmt (add (the name_x) 0 name_s)
    (stmt (assert 0 (same (the name_s) (listed 0 (expr (the name_x) no_exprs)))) no_stmts)

abbrev pub add_each_alone : StmtD
add_each_alone = for (binding 0 name_x (atoms 0)) truth add_alone

-- Each element's run has a private copy of s. The loop ends with all atoms in s, and fails nowhere.
pub record CopiesArePrivate : Type 0 where
  pub ends : StmtEnds add_each_alone (named name_s empty_set ∷ []) (named name_s all_atoms ∷ []) []
  pub fails_nowhere : (at : ℕ) (k : FaultKind) (path : NamedValues) →
      StmtFails add_each_alone (named name_s empty_set ∷ []) at k path → ⊥

-- A loop none of whose elements passes its condition ends, changes nothing, prints nothing and fails nowhere.
pub record IdleLoopsEnd : Type 0 where
  pub ends : (x : List ℕ) (e : ExprD) (c : CondD) (body : StmtsD) (s : NamedValues) (v : PointValue) →
      Gives e s v → IsSet v → ((m : PointValue) → IsMember m v → HasTruth c (stored x m s) false) →
      StmtEnds (for (binding 0 x e) c body) s s []
  pub fails_nowhere : (x : List ℕ) (e : ExprD) (c : CondD) (body : StmtsD) (s : NamedValues) (v : PointValue) →
      Gives e s v → IsSet v → ((m : PointValue) → IsMember m v → HasTruth c (stored x m s) false) →
      (at : ℕ) (k : FaultKind) (path : NamedValues) → StmtFails (for (binding 0 x e) c body) s at k path → ⊥
  -- for x in {} where c { .. }
  pub over_nothing : (x : List ℕ) (c : CondD) (body : StmtsD) (s : NamedValues) →
      StmtEnds (for (binding 0 x (listed 0 no_exprs)) c body) s s []

-- the loop makes k turns from s: its condition is true before each of them and false after the last
abbrev pub MakesTurns : ℕ → CondD → StmtsD → NamedValues → NamedValues → NamedValues → Type 0
MakesTurns k c body s t lines = TurnsEnd (HasTruth c) (BlockEnds (ListEnds body)) k s t lines × HasTruth c t false

-- A `while` that makes k turns ends, and fails nowhere, where it is allowed k turns or more; where it is allowed fewer, it
-- fails for the turns and doesn't end.
pub record TurnsAreExact : Type 0 where
  pub enough : (p n k : ℕ) (c : CondD) (body : StmtsD) (s t lines : NamedValues) →
      MakesTurns k c body s t lines → k ≤ n → StmtEnds (while p c n body) s t lines
  pub enough_fails_nowhere : (p n k : ℕ) (c : CondD) (body : StmtsD) (s t lines : NamedValues) →
      MakesTurns k c body s t lines → k ≤ n → (at : ℕ) (f : FaultKind) (path : NamedValues) →
      StmtFails (while p c n body) s at f path → ⊥
  pub too_few : (p n k : ℕ) (c : CondD) (body : StmtsD) (s t lines : NamedValues) →
      MakesTurns k c body s t lines → n < k → StmtFails (while p c n body) s p TurnLimit []
  pub too_few_ends_nowhere : (p n k : ℕ) (c : CondD) (body : StmtsD) (s t lines : NamedValues) →
      MakesTurns k c body s t lines → n < k → (u printed : NamedValues) → StmtEnds (while p c n body) s u printed → ⊥
  -- while true turns n { }
  pub endless : (p n : ℕ) (s : NamedValues) → StmtFails (while p truth n no_stmts) s p TurnLimit []

-- let a = 'p; let b = {}; print b; print a;
abbrev pub two_prints : ScriptD
two_prints = record {
  ordered = false;
  parameters = [];
  body =
      stmt («let» 0 name_a (ExprD.tag 0 name_p))
      (stmt («let» 0 name_b (listed 0 no_exprs)) (stmt (print 0 0 name_b) (stmt (print 0 0 name_a) no_stmts)));
}

-- The script prints two lines, in this order, and no others.
pub record PrintsTwoLines : Type 0 where
  pub ends : ScriptEnds two_prints [] (named name_b empty_set ∷ named name_a (tag_value name_p) ∷ [])
  pub alone : (lines : NamedValues) → ScriptEnds two_prints [] lines →
      AreSameNamed lines (named name_b empty_set ∷ named name_a (tag_value name_p) ∷ [])

-- Adding to a name that holds no set doesn't fail for the depth of what would be made.
abbrev pub AddsToSetsAlone : Type 0
AddsToSetsAlone = (e : ExprD) (p : ℕ) (x : List ℕ) (s path : NamedValues) (at : ℕ) (old : PointValue) →
    looked_up x s ≡ Some old → (IsSet old → ⊥) → StmtFails (add e p x) s at DepthLimit path → Fails e s at DepthLimit

-- for x in atoms { for y in atoms { assert x = y; } }, with `assert` at the place p
abbrev pub assert_alike : ℕ → StmtD
assert_alike p =
    for (binding 0 name_x (atoms 0)) truth
    (stmt (for (binding 0 name_y (atoms 0)) truth (stmt (assert p (same (the name_x) (the name_y))) no_stmts)) no_stmts)

-- It fails at `assert` for every two different atoms, and the path names them, the outer loop's first. It fails in no other way.
pub record PathsNameElements : Type 0 where
  pub fails : (p : ℕ) (c d : Atom) → IsFalse (equal c d) →
      StmtFails (assert_alike p) [] p Assertion (named name_x (atom_value c) ∷ named name_y (atom_value d) ∷ [])
  pub alone : (p at : ℕ) (k : FaultKind) (path : NamedValues) → StmtFails (assert_alike p) [] at k path →
      (at ≡ p) × (k ≡ Assertion) × (v w : PointValue) × (c d : Atom) × (path ≡ named name_x v ∷ named name_y w ∷ []) ×
      IsAtomValue v c × IsAtomValue w d × IsFalse (equal c d)

-- the automaton of the words of one atom: the states 'p and 'q, and a step ('p, a, 'q) for each atom a
abbrev pub one_atom_machine : Automaton
one_atom_machine = record {
  states = point (coll (more (comp 0 ([] ∷ []) (tag name_p)) (more (comp 0 ([] ∷ []) (tag name_q)) no_comps))) [];
  letters = all_atoms;
  steps = point (for_all_atoms (tup (term (tag name_p) (term (TermD.var 0) (term (tag name_q) no_terms))))) [];
  initial = point (only_item (tag name_p)) [];
  final = point (only_item (tag name_q)) [];
}

abbrev pub one_atom_words : PointValue
one_atom_words =
    let m : Automaton = one_atom_machine in
    point (tup (term m.states.term_of (term m.letters.term_of (term m.steps.term_of (term m.initial.term_of (term m.final.term_of no_terms)))))) []

-- It accepts each word of one atom, and neither the empty word nor a longer one.
pub record AcceptsOneAtom : Type 0 where
  pub automaton : IsAutomatonOf one_atom_words one_atom_machine
  pub one : (l : PointValue) (a : Atom) → IsAtomValue l a → Accepts one_atom_machine (l ∷ [])
  pub none : Accepts one_atom_machine [] → ⊥
  pub longer : (l m : PointValue) (word : List PointValue) → Accepts one_atom_machine (l ∷ m ∷ word) → ⊥
