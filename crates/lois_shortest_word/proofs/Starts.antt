-- Stages at initial states.
use Rattle.std.proofs.Common.{◌≡◌, ℕ, ◌+◌, ◌<◌, ◌^◌, inl, inr, List, ◌++◌, length, length-append, sym, subst, arith}
use Rattle.lois_base.specs.Atom.{Atom}
use Rattle.lois_base.specs.Data.{TermD, CompD, comp, CompsD, no_comps, more}
use Rattle.lois_base.specs.Fits.{Fits}
use Rattle.lois_base.specs.Tree.{tree}
use Rattle.lois_base.specs.Values.{PointValue, point}
use Rattle.lois_base.specs.declared.guards.Lit.{Lit}
use Rattle.lois_base.proofs.Members.{same_refl, same_sym, in_same}
use Rattle.lois_algebra.specs.Gathered.{IsAmong, IsCompMember}
use Rattle.lois_automata.specs.Built.{HoldsWhereAdmittedIn}
use Rattle.lois_deciders.specs.Satisfiability.{ConstraintIsSatisfiable}
use Rattle.lois_shortest_word.specs.SymbolicStates.{IsSatisfiableCube, IsStart, IsInitialSymbolicState, HasNoInitialState}
use Rattle.lois_shortest_word.specs.declared.symbolic_states.SymbolicState.{SymbolicState}

-- the state is the item of a comprehension
pub begun_is : (n : ℕ) (u g : List (List Lit)) (item t : TermD) (wanted : List (List Lit)) (s : SymbolicState) → n + s.more < 2 ^ 64 → Fits (n + s.more) item → tree s.state ≡ item → HoldsWhereAdmittedIn n s.more u g item t wanted → IsSatisfiableCube (n + s.more) wanted s.admitted s.sample → IsInitialSymbolicState n u (IsCompMember (comp s.more g item)) t s
begun_is n u g item t wanted s small fits e is narrow = record {
  stage = record {
    count = small;
    levels = narrow.levels;
    state_levels = subst (Fits (n + s.more)) (sym e) fits;
    met = narrow.met;
  };
  begins = λ c f lc lf h.
      let x = (is c f lc lf).0 (narrow.narrower (c ++ f) h) in
      subst (λ z. IsStart u (IsCompMember (comp s.more g item)) t c (point z (c ++ f))) (sym e)
      (x.0, (f, record { count = lf; guard = x.1 }, same_refl (point item (c ++ f))), x.2);
}

pub never_begins : (n m : ℕ) (u g : List (List Lit)) (item t : TermD) (wanted : List (List Lit)) → HoldsWhereAdmittedIn n m u g item t wanted → (ConstraintIsSatisfiable (n + m) wanted → ⊥) → HasNoInitialState n u (IsCompMember (comp m g item)) t
never_begins n m u g item t wanted is none c l h p (e, ext, same) i =
    let longer : length (c ++ e) ≡ n + m = omega (arith, length-append c e, ext.count) in
    none (c ++ e, longer, (is c e l ext.count).1 (h, ext.guard, in_same p (point item (c ++ e)) (point t c) (same_sym (point item (c ++ e)) p same) i))

module _ (n : ℕ) (u : List (List Lit)) (t : TermD) where
  pub begun_among : (Starts All : List Atom → PointValue → Type 0) (s : SymbolicState) → ((c : List Atom) (w : PointValue) → Starts c w → All c w) → IsInitialSymbolicState n u Starts t s → IsInitialSymbolicState n u All t s
  begun_among Starts All s into h = record {
    stage = h.stage;
    begins = λ c e lc le x.
        let y = h.begins c e lc le x in
        (y.0, into c (point (tree s.state) (c ++ e)) y.1, y.2);
  }

  -- where none of the rest begins, none of the comprehensions does
  pub never_begins_more : (rest next : CompsD) (k : CompD) (All : Type 0) → rest ≡ more k next → HasNoInitialState n u (IsCompMember k) t → (HasNoInitialState n u (IsAmong rest) t → All) → HasNoInitialState n u (IsAmong next) t → All
  never_begins_more rest next k All e one h others = h (subst (λ z. HasNoInitialState n u (IsAmong z) t) (sym e) both)
    where
      both : HasNoInitialState n u (IsAmong (more k next)) t
      both c l x p (inl a) i = one c l x p a i
      both c l x p (inr a) i = others c l x p a i

  pub never_begins_end : (rest : CompsD) (All : Type 0) → rest ≡ no_comps → (HasNoInitialState n u (IsAmong rest) t → All) → All
  never_begins_end rest All e h = h (subst (λ z. HasNoInitialState n u (IsAmong z) t) (sym e) (λ c l x p a i. a))
