-- The made script ends.
use Rattle.std.proofs.Common.{◌≡◌, ℕ, zero, suc, ◌+◌, ◌*◌, true, false, List, [], ◌∷◌, ◌⊎◌, refl, sym, ◌∙◌, subst, Some, true≢false}
use mathlib.Core.Logic.{inl, inr}
use Rattle.std.specs.Prelude.{codes, IsTrue, IsFalse}
use Rattle.lois_base.specs.Atom.{Atom, equal}
use Rattle.lois_base.specs.Data.{TermD, tag}
use Rattle.lois_base.specs.Values.{PointValue, point, IsMember, IsSame, IsIn}
use Rattle.lois_base.proofs.Members.{same_refl, same_sym, same_in}
use Rattle.lois_base.proofs.Order.{test, equal_refl}
use Rattle.lois_meaning.specs.Examples.{all_atoms, atom_value, tag_value}
use Rattle.lois_meaning.specs.Expressions.{Gives, HasTruth}
use Rattle.lois_meaning.specs.Kinds.{IsSetOf}
use Rattle.lois_meaning.specs.Runs.{IsInAtSomeEnd, AreGathered, IsEndOf, StmtEnds, ListEnds}
use Rattle.lois_meaning.specs.Store.{NamedValues, named, looked_up, stored}
use Rattle.lois_meaning.proofs.Alike.{set_of_shift}
use Rattle.lois_meaning.proofs.SmallLaws.{atoms_are_all}
use Rattle.lois_meaning.proofs.Stores.{named_refl, looked_up_same, some_same}
use Rattle.lois_meaning.proofs.TheLaws.{determined, never_both}
use Rattle.lois_script.specs.Tree.{ExprD, atoms, var, tuple, no_exprs, expr, binding, truth, differ, listed, StmtD, «let», add, for, if, print, StmtsD, no_stmts, stmt}
use Rattle.lois_make.specs.Laws.{MadeEnds, MadeNeverFails}
use Rattle.lois_make.specs.MadeTree.{made_tag, made_loop_tree, made_loops_before, made_tree}
use Rattle.lois_make.specs.MadeValue.{tagged, IsTaggedWith, IsMade}
use Rattle.lois_make.proofs.MadeSets.{one_atom, made_value, made_value_is, with_atom, with_atom_is, with_pair, with_pair_is, with_pair_shallow, tagged_shallow}

abbrev name_s : List ℕ
name_s = codes "s"

abbrev name_x : List ℕ
name_x = codes "x"

abbrev name_y : List ℕ
name_y = codes "y"

atom_of : (m : PointValue) → IsMember m all_atoms → (a : Atom) × (m ≡ atom_value a)
atom_of m (inl (e, x, p, q)) =
    let one = one_atom e x.count in
    let choice : m.choice ≡ one.0 ∷ [] = q ∙ one.1 in
    (one.0, λ i. record { term_of = p i; choice = choice i })
atom_of m (inr h) = absurd h

atom_member : (a : Atom) → IsMember (atom_value a) all_atoms
atom_member a = inl (a ∷ [], record { count = refl; guard = refl }, refl, refl)

-- A loop over all atoms whose body adds, for each atom, some members to the set s: it adds them all.
module _ (name : List ℕ) (p q : ℕ) (body : StmtsD) (old new : PointValue) (tail : NamedValues) (Q : PointValue → Type 0) (R : Atom → PointValue → Type 0)
    (old_is : IsSetOf old Q) (new_is : IsSetOf new (λ w. Q w ⊎ ((a : Atom) × R a w)))
    (still : (AtEnd : NamedValues → Type 0) → AreGathered tail tail AtEnd)
    (ends : (a : Atom) → (u : NamedValues) × (v : PointValue) × ListEnds body (stored name (atom_value a) (named name_s old ∷ tail)) u [] × (looked_up name_s u ≡ Some v) × IsSetOf v (λ w. Q w ⊎ R a w)) where
  abbrev before : NamedValues
  before = named name_s old ∷ tail

  abbrev AtEnd : NamedValues → Type 0
  AtEnd u = IsEndOf u (HasTruth truth) (ListEnds body) name all_atoms before

  some_end : (m : PointValue) → IsMember m all_atoms → (u : NamedValues) × (ls : NamedValues) × ListEnds body (stored name m before) u ls
  some_end m is =
      let a = atom_of m is in
      subst (λ z. (u : NamedValues) × (ls : NamedValues) × ListEnds body (stored name z before) u ls) (sym a.1) ((ends a.0).0, [], (ends a.0).2)

  added : (w : PointValue) → Q w ⊎ ((a : Atom) × R a w) → IsIn w old ⊎ IsInAtSomeEnd w name_s AtEnd
  added w (inl h) = inl ((old_is.1 w).1 h)
  added w (inr (a, h)) =
      let one = ends a in
      inr (one.0, one.1, (atom_value a, [], atom_member a, refl, one.2), one.3, (one.4.1 w).1 (inr h))

  only : (w : PointValue) → IsIn w old ⊎ IsInAtSomeEnd w name_s AtEnd → Q w ⊎ ((a : Atom) × R a w)
  only w (inl h) = inl ((old_is.1 w).0 h)
  only w (inr (t, v, (m, lines, is, holding, at_end), found, h)) =
      let a = atom_of m is in
      let one = ends a.0 in
      let here : ListEnds body (stored name (atom_value a.0) before) t lines = subst (λ z. ListEnds body (stored name z before) t lines) a.1 at_end in
      let same = (determined.ends body (stored name (atom_value a.0) before) one.0 t [] lines one.2 here).0 in
      let there = looked_up_same name_s one.0 t one.1 same one.3 in
      let is_v : there.0 ≡ v = some_same there.0 v (sym there.1 ∙ found) in
      let alike : IsSame v one.1 = same_sym one.1 v (subst (λ z. IsSame one.1 z) is_v there.2) in
      elim ((one.4.1 w).0 (same_in w v one.1 alike h)) [ inl k ↦ inl k | inr k ↦ inr (a.0, k) ]

  loop_ends : StmtEnds (for (binding p name (atoms q)) truth body) before (named name_s new ∷ tail) []
  loop_ends = (
    all_atoms,
    atoms_are_all.given q before,
    tt,
    (λ m is. (true, refl)),
    (λ m is _. some_end m is),
    (refl, inl (old_is.0, set_of_shift (λ w. Q w ⊎ ((a : Atom) × R a w)) (λ w. IsIn w old ⊎ IsInAtSomeEnd w name_s AtEnd) new added only new_is), still AtEnd),
    refl,
  )

alone : (a : StmtD) (s t lines : NamedValues) → StmtEnds a s t [] → ListEnds (stmt a no_stmts) s t []
alone a s t lines h = (t, [], [], refl, h, (named_refl t, refl))

-- the loop of number n, where the set s holds the pairs of the loops before it
module _ (n at : ℕ) (old : PointValue) (old_is : IsSetOf old (IsMade n)) where
  abbrev name : List ℕ
  name = made_tag n

  abbrev inside : PointValue → Atom → Atom → NamedValues
  inside v a b = named name_s v ∷ named name_x (atom_value a) ∷ named name_y (atom_value b) ∷ []

  x_given : (p : ℕ) (v : PointValue) (a b : Atom) → Gives (var p name_x) (inside v a b) (atom_value a)
  x_given p v a b = ((atom_value a, refl, same_refl (atom_value a)), λ deep. deep)

  y_given : (p : ℕ) (v : PointValue) (a b : Atom) → Gives (var p name_y) (inside v a b) (atom_value b)
  y_given p v a b = ((atom_value b, refl, same_refl (atom_value b)), λ deep. deep)

  abbrev pair : ExprD
  pair = tuple (at + 50) (expr (ExprD.tag (at + 51) name) (expr (var (at + 56) name_x) (expr (var (at + 59) name_y) no_exprs)))

  abbrev addition : StmtD
  addition = add pair (at + 65) name_s

  abbrev tested : StmtD
  tested = if (differ (var (at + 37) name_x) (var (at + 42) name_y)) (stmt addition no_stmts) no_stmts

  abbrev body : StmtsD
  body = stmt tested no_stmts

  pair_given : (a b : Atom) → Gives pair (inside old a b) (tagged name a b)
  pair_given a b =
      let t : PointValue = point (tag name) (a ∷ b ∷ []) in
      let p : PointValue = point (TermD.var 0) (a ∷ b ∷ []) in
      let q : PointValue = point (TermD.var 1) (a ∷ b ∷ []) in (
        (
          tag_value name ∷ atom_value a ∷ atom_value b ∷ [],
          t ∷ p ∷ q ∷ [],
          (tag_value name, atom_value a ∷ atom_value b ∷ [], refl, (refl, λ deep. deep), (atom_value a, atom_value b ∷ [], refl, x_given (at + 56) old a b, (atom_value b, [], refl, y_given (at + 59) old a b, refl))),
          refl,
          (refl, (equal_refl a, (equal_refl b, tt))),
        ),
        tagged_shallow name a b,
      )

  body_ends : (a b : Atom) → (u : NamedValues) × (v : PointValue) × ListEnds body (inside old a b) u [] × (looked_up name_s u ≡ Some v) × IsSetOf v (λ w. IsMade n w ⊎ (IsFalse (equal a b) × IsSame w (tagged name a b)))
  body_ends a b = go (test (equal a b))
    where
      go : IsTrue (equal a b) ⊎ IsFalse (equal a b) → (u : NamedValues) × (v : PointValue) × ListEnds body (inside old a b) u [] × (looked_up name_s u ≡ Some v) × IsSetOf v (λ w. IsMade n w ⊎ (IsFalse (equal a b) × IsSame w (tagged name a b)))
      go (inl same) =
          let s = inside old a b in
          let untrue : HasTruth (differ (var (at + 37) name_x) (var (at + 42) name_y)) (inside old a b) false = (atom_value a, atom_value b, x_given (at + 37) old a b, y_given (at + 42) old a b, same) in (
            s,
            old,
            alone tested s s [] (inr (untrue, (s, (named_refl s, refl), named_refl s))),
            refl,
            set_of_shift (IsMade n) (λ w. IsMade n w ⊎ (IsFalse (equal a b) × IsSame w (tagged name a b))) old (λ w h. inl h)
                (λ w h. elim h [ inl k ↦ k | inr k ↦ absurd (true≢false (sym same ∙ k.0)) ]) old_is,
          )
      go (inr apart) =
          let s = inside old a b in
          let t = inside (with_pair n a b) a b in
          let true_here : HasTruth (differ (var (at + 37) name_x) (var (at + 42) name_y)) (inside old a b) true = (atom_value a, atom_value b, x_given (at + 37) old a b, y_given (at + 42) old a b, λ same. true≢false (sym same ∙ apart)) in
          let set = set_of_shift (λ w. IsMade n w ⊎ IsSame w (tagged name a b)) (λ w. IsIn w old ⊎ IsSame w (tagged name a b)) (with_pair n a b)
          (λ w h. elim h [ inl k ↦ inl ((old_is.1 w).1 k) | inr k ↦ inr k ]) (λ w h. elim h [ inl k ↦ inl ((old_is.1 w).0 k) | inr k ↦ inr k ]) (with_pair_is n a b) in
          let added : StmtEnds addition (inside old a b) (inside (with_pair n a b) a b) [] = (old, tagged name a b, with_pair n a b, refl, pair_given a b, (old_is.0, set), with_pair_shallow n a b, named_refl t, refl) in (
            t,
            with_pair n a b,
            alone tested s t [] (inl (true_here, (t, alone addition s t [] added, named_refl t))),
            refl,
            set_of_shift (λ w. IsMade n w ⊎ IsSame w (tagged name a b)) (λ w. IsMade n w ⊎ (IsFalse (equal a b) × IsSame w (tagged name a b))) (with_pair n a b)
                (λ w h. elim h [ inl k ↦ inl k | inr k ↦ inr (apart, k) ]) (λ w h. elim h [ inl k ↦ inl k | inr k ↦ inr k.1 ]) (with_pair_is n a b),
          )

  abbrev inner : StmtD
  inner = for (binding (at + 21) name_y (atoms (at + 26))) truth body

  inner_ends : (a : Atom) → StmtEnds inner (named name_s old ∷ named name_x (atom_value a) ∷ []) (named name_s (with_atom n a) ∷ named name_x (atom_value a) ∷ []) []
  inner_ends a =
      loop_ends name_y (at + 21) (at + 26) body old (with_atom n a) (named name_x (atom_value a) ∷ []) (IsMade n) (λ b w. IsFalse (equal a b) × IsSame w (tagged name a b)) old_is (with_atom_is n a)
      (λ AtEnd. (refl, inr ((λ h. h), same_refl (atom_value a)), tt)) (λ b. body_ends a b)

  outer_ends : StmtEnds (made_loop_tree at name) (named name_s old ∷ []) (named name_s (made_value (suc n)) ∷ []) []
  outer_ends =
      loop_ends name_x (at + 4) (at + 9) (stmt inner no_stmts) old (made_value (suc n)) [] (IsMade n) (IsTaggedWith name) old_is (made_value_is (suc n)) (λ AtEnd. tt)
      (λ a. (
        named name_s (with_atom n a) ∷ named name_x (atom_value a) ∷ [],
        with_atom n a,
        alone inner (named name_s old ∷ named name_x (atom_value a) ∷ []) (named name_s (with_atom n a) ∷ named name_x (atom_value a) ∷ []) [] (inner_ends a),
        refl,
        with_atom_is n a,
      ))

loops_end : (n : ℕ) (rest : StmtsD) (t lines : NamedValues) → ListEnds rest (named name_s (made_value n) ∷ []) t lines → ListEnds (made_loops_before n rest) (named name_s (made_value zero) ∷ []) t lines
loops_end zero rest t lines h = h
loops_end (suc n) rest t lines h =
    loops_end n (stmt (made_loop_tree (28 + 74 * n) (made_tag n)) rest) t lines
    (named name_s (made_value (suc n)) ∷ [], [], lines, refl, outer_ends n (28 + 74 * n) (made_value n) (made_value_is n), h)

pub made_ends : MadeEnds
made_ends n choice = record {
  pairs = made_value n;
  ends =
      let store : NamedValues = named name_s (made_value n) ∷ [] in
      let empty : NamedValues = named name_s (made_value zero) ∷ [] in
      let printed : StmtEnds (print (28 + 74 * n) (28 + 74 * n + 6) name_s) store store store = (made_value n, made_value n, refl, same_refl (made_value n), named_refl store, refl) in
      let opened : StmtEnds («let» 20 name_s (listed 24 no_exprs)) [] empty [] = (made_value zero, (([], refl, (tt, λ w. ((λ h. h.1), (λ h. absurd h)))), λ deep. deep), named_refl empty, refl) in
      (store, (empty, [], store, refl, opened, loops_end n _ store store (store, store, [], refl, printed, (named_refl store, refl))));
  members = made_value_is n;
}

pub made_never_fails : MadeNeverFails
made_never_fails n choice at kind path h = never_both.scripts (made_tree n) choice (named name_s (made_ends n choice).pairs ∷ []) at kind path (made_ends n choice).ends h
