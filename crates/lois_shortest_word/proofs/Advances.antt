-- Steps from the state of a stage, comprehension by comprehension.
use Rattle.std.proofs.Common.{◌≡◌, ℕ, ◌+◌, ◌<◌, ◌^◌, inl, inr, ◌&&◌, ◌↔◌, List, ◌++◌, length, length-append, sym, ◌∙◌, subst, arith}
use Rattle.std.proofs.lemmas.List.{append_assoc}
use Rattle.std.specs.Bool.{IsTrue}
use Rattle.lois_base.specs.Atom.{Atom}
use Rattle.lois_base.specs.Data.{TermD, CompD, comp, CompsD, no_comps, more}
use Rattle.lois_base.specs.Fits.{ConstraintFits, Fits}
use Rattle.lois_base.specs.Tree.{tree}
use Rattle.lois_base.specs.Truth.{holds}
use Rattle.lois_base.specs.Values.{PointValue, point, IsIn, IsSame, IsExtension}
use Rattle.lois_base.specs.declared.guards.Lit.{Lit}
use Rattle.lois_base.proofs.Connectives.{both_true}
use Rattle.lois_base.proofs.Members.{same_refl, same_sym, same_trans, in_same}
use Rattle.lois_algebra.specs.Gathered.{IsAmong, IsCompMember}
use Rattle.lois_terms.specs.Shifted.{IsShifted, IsPlacedGuard, IsPlacedItem}
use Rattle.lois_meaning.specs.Automata.{IsTriple}
use Rattle.lois_meaning.proofs.Automata.{triple_same}
use Rattle.lois_automata.specs.Built.{HoldsWhereMember}
use Rattle.lois_automata.specs.Projections.{triple_of}
use Rattle.lois_automata.specs.Verdicts.{HoldsWhere}
use Rattle.lois_automata.proofs.Members.{raised_same, longer_is}
use Rattle.lois_automata.proofs.Written.{triple_is, triple_here, triple_term}
use Rattle.lois_deciders.specs.Satisfaction.{IsConstraintSample}
use Rattle.lois_deciders.specs.Satisfiability.{ConstraintIsSatisfiable}
use Rattle.lois_meaning.proofs.Tuples.{triple_to}
use Rattle.lois_shortest_word.specs.SymbolicStates.{IsSatisfiableCube}
use Rattle.lois_shortest_word.specs.Steps.{AdvancesBy, HoldsWhereAdvancing, IsSymbolicStep, NeverAdvances}
use Rattle.lois_shortest_word.specs.declared.symbolic_states.SymbolicState.{SymbolicState}
use Rattle.lois_shortest_word.specs.declared.steps.SymbolicStep.{SymbolicStep}

-- the constraint that is asked about
module _ (n x m : ℕ) (u guard begins ends admitted joins : List (List Lit)) (state raised p q t : TermD)
    (fits : ConstraintFits (n + x) u)
    (is_raised : IsShifted (n + x) m state raised)
    (is_begin : HoldsWhere (n + x + m) (λ d. IsSame (point p d) (point raised d)) begins)
    (is_end : HoldsWhereMember n (x + m) q t ends)
    (both : (d : List Atom) → holds d admitted ≡ (holds d u && holds d guard))
    (join : (d : List Atom) → holds d joins ≡ (holds d begins && holds d ends)) where
  pub going_is : (r : List (List Lit)) → ((d : List Atom) → holds d r ≡ (holds d admitted && holds d joins)) → HoldsWhereAdvancing n x m u guard state p q t r
  going_is r met c e f lc le lf = (there, back)
    where
      d : List Atom
      d = (c ++ e) ++ f

      front : length (c ++ e) ≡ n + x
      front = omega (arith, length-append c e)

      whole : length ((c ++ e) ++ f) ≡ n + x + m
      whole = omega (arith, front, length-append (c ++ e) f)

      behind : length (e ++ f) ≡ x + m
      behind = omega (arith, length-append e f)

      longer : holds ((c ++ e) ++ f) u ≡ holds (c ++ e) u
      longer = longer_is (n + x) u (c ++ e) f fits front

      kept : IsSame (point raised ((c ++ e) ++ f)) (point state (c ++ e))
      kept = raised_same (n + x) m state raised is_raised (c ++ e) f front lf

      inside : IsTrue (holds ((c ++ e) ++ f) ends) ↔ IsIn (point q ((c ++ e) ++ f)) (point t c)
      inside = subst (λ z. IsTrue (holds z ends) ↔ IsIn (point q z) (point t c)) (sym (append_assoc c e f)) (is_end c (e ++ f) lc behind)

      there : IsTrue (holds ((c ++ e) ++ f) r) → IsTrue (holds (c ++ e) u) × IsTrue (holds ((c ++ e) ++ f) guard) × IsSame (point p ((c ++ e) ++ f)) (point state (c ++ e)) × IsIn (point q ((c ++ e) ++ f)) (point t c)
      there h =
          let a = (both_true (holds ((c ++ e) ++ f) admitted) (holds ((c ++ e) ++ f) joins)).0 (sym (met ((c ++ e) ++ f)) ∙ h) in
          let b = (both_true (holds ((c ++ e) ++ f) u) (holds ((c ++ e) ++ f) guard)).0 (sym (both ((c ++ e) ++ f)) ∙ a.0) in
          let j = (both_true (holds ((c ++ e) ++ f) begins) (holds ((c ++ e) ++ f) ends)).0 (sym (join ((c ++ e) ++ f)) ∙ a.1) in
          let same : IsSame (point p ((c ++ e) ++ f)) (point state (c ++ e)) = same_trans (point p ((c ++ e) ++ f)) (point raised ((c ++ e) ++ f)) (point state (c ++ e)) ((is_begin ((c ++ e) ++ f) whole).0 j.0) kept in
          (sym longer ∙ b.0, b.1, same, inside.0 j.1)

      back : IsTrue (holds (c ++ e) u) × IsTrue (holds ((c ++ e) ++ f) guard) × IsSame (point p ((c ++ e) ++ f)) (point state (c ++ e)) × IsIn (point q ((c ++ e) ++ f)) (point t c) → IsTrue (holds ((c ++ e) ++ f) r)
      back h =
          let same : IsSame (point p ((c ++ e) ++ f)) (point raised ((c ++ e) ++ f)) = same_trans (point p ((c ++ e) ++ f)) (point state (c ++ e)) (point raised ((c ++ e) ++ f)) h.2 (same_sym (point raised ((c ++ e) ++ f)) (point state (c ++ e)) kept) in
          let one = both ((c ++ e) ++ f) ∙ (both_true (holds ((c ++ e) ++ f) u) (holds ((c ++ e) ++ f) guard)).1 (longer ∙ h.0, h.1) in
          let two = join ((c ++ e) ++ f) ∙ (both_true (holds ((c ++ e) ++ f) begins) (holds ((c ++ e) ++ f) ends)).1 ((is_begin ((c ++ e) ++ f) whole).1 same, inside.1 h.3) in
          met ((c ++ e) ++ f) ∙ (both_true (holds ((c ++ e) ++ f) admitted) (holds ((c ++ e) ++ f) joins)).1 (one, two)

-- ---- the steps of one comprehension
module _ (n m : ℕ) (g : List (List Lit)) (item : TermD) (s : SymbolicState) (placed_guard : List (List Lit)) (placed : TermD)
    (guard_is : IsPlacedGuard n (n + s.more) g placed_guard) (item_is : IsPlacedItem n (n + s.more) item placed) where
  -- a triple among further levels is a triple that the comprehension makes
  triple_back : (c e f : List Atom) → length c ≡ n → length e ≡ s.more → (x P L Q : PointValue) → IsSame (point item (c ++ f)) x → IsTriple x P L Q → IsTriple (point placed ((c ++ e) ++ f)) P L Q
  triple_back c e f lc le x P L Q same triple =
      let front : length (c ++ e) ≡ n + s.more = omega (arith, length-append c e) in
      let there = same_trans (point placed ((c ++ e) ++ f)) (point item (c ++ f)) x (item_is c e f lc front) same in
      triple_to x (point placed ((c ++ e) ++ f)) P L Q (same_sym (point placed ((c ++ e) ++ f)) x there) triple

  -- an item that is no triple makes no steps
  pub no_step : (t : TermD) → ((p l q : TermD) → placed ≡ triple_of p l q → ⊥) → NeverAdvances n s (IsCompMember (comp m g item)) t
  no_step t never c e lc le h L Q (x, (f, ext, same), triple) i =
      let found = triple_term placed ((c ++ e) ++ f) (point (tree s.state) (c ++ e)) L Q (triple_back c e f lc le x (point (tree s.state) (c ++ e)) L Q same triple) in
      never found.0 found.1 found.2 found.3

  module _ (p l q t : TermD) (wanted : List (List Lit)) (parts : placed ≡ triple_of p l q) (going : HoldsWhereAdvancing n s.more m s.admitted placed_guard (tree s.state) p q t wanted) where
    -- where the constraint holds, the comprehension has such a step
    goes_by : (c e f : List Atom) → length c ≡ n → length e ≡ s.more → length f ≡ m → IsTrue (holds ((c ++ e) ++ f) wanted) →
        IsTrue (holds (c ++ e) s.admitted) × AdvancesBy (IsCompMember (comp m g item) c) (point (tree s.state) (c ++ e)) (point l ((c ++ e) ++ f)) (point q ((c ++ e) ++ f)) × IsIn (point q ((c ++ e) ++ f)) (point t c)
    goes_by c e f lc le lf h =
        let d = (c ++ e) ++ f in
        let front : length (c ++ e) ≡ n + s.more = omega (arith, length-append c e) in
        let x = (going c e f lc le lf).0 h in
        let here : IsTriple (point placed d) (point p d) (point l d) (point q d) = subst (λ z. IsTriple (point z d) (point p d) (point l d) (point q d)) (sym parts) (triple_is p l q d) in
        let there : IsTriple (point item (c ++ f)) (point p d) (point l d) (point q d) = triple_to (point placed d) (point item (c ++ f)) (point p d) (point l d) (point q d) (item_is c e f lc front) here in
        let step : IsTriple (point item (c ++ f)) (point (tree s.state) (c ++ e)) (point l d) (point q d) = triple_same (point item (c ++ f)) (point p d) (point l d) (point q d) (point (tree s.state) (c ++ e)) (point l d) (point q d) x.2 (same_refl (point l d)) (same_refl (point q d)) there in
        let ext : IsExtension c m g f = record { count = lf; guard = sym (guard_is c e f lc front) ∙ x.1 } in
        (x.0, (point item (c ++ f), (f, ext, same_refl (point item (c ++ f))), step), x.3)

    pub never_goes : (ConstraintIsSatisfiable (n + s.more + m) wanted → ⊥) → NeverAdvances n s (IsCompMember (comp m g item)) t
    never_goes none c e lc le h L Q (x, (f, ext, same), triple) i =
        let d = (c ++ e) ++ f in
        let front : length (c ++ e) ≡ n + s.more = omega (arith, length-append c e) in
        let whole : length d ≡ n + s.more + m = omega (arith, length-append (c ++ e) f, ext.count) in
        let here : IsTriple (point (triple_of p l q) d) (point (tree s.state) (c ++ e)) L Q = subst (λ z. IsTriple (point z d) (point (tree s.state) (c ++ e)) L Q) parts (triple_back c e f lc le x (point (tree s.state) (c ++ e)) L Q same triple) in
        let are = triple_here p l q d (point (tree s.state) (c ++ e)) L Q here in
        let guard : IsTrue (holds d placed_guard) = guard_is c e f lc front ∙ ext.guard in
        none (d, whole, (going c e f lc le ext.count).1 (h, guard, same_sym (point (tree s.state) (c ++ e)) (point p d) are.0, in_same Q (point q d) (point t c) are.2 i))

    pub taken_is : (r : SymbolicStep) → r.stage.more ≡ s.more + m → n + s.more + m < 2 ^ 64 → tree r.letter ≡ l → tree r.stage.state ≡ q → Fits (n + s.more + m) l → Fits (n + s.more + m) q → IsSatisfiableCube (n + s.more + m) wanted r.stage.admitted r.stage.sample → IsSymbolicStep n s (IsCompMember (comp m g item)) t r
    taken_is r count small letter state letter_fits state_fits narrow = record {
      stage = record {
        count = omega (arith, count, small);
        levels = subst (λ z. ConstraintFits z r.stage.admitted) at narrow.levels;
        state_levels = subst (λ z. Fits z (tree r.stage.state)) at (subst (Fits (n + s.more + m)) (sym state) state_fits);
        met = subst (λ z. IsConstraintSample z r.stage.admitted r.stage.sample) at narrow.met;
      };
      letter_levels = subst (λ z. Fits z (tree r.letter)) at (subst (Fits (n + s.more + m)) (sym letter) letter_fits);
      order = omega (arith, count);
      goes = λ c e f lc le lf h.
          let by : length f ≡ m = omega (arith, count, lf) in
          let x = goes_by c e f lc le by (narrow.narrower ((c ++ e) ++ f) h) in
          record {
            admitted = x.0;
            step = subst (λ z. AdvancesBy (IsCompMember (comp m g item) c) (point (tree s.state) (c ++ e)) (point z ((c ++ e) ++ f)) (point (tree r.stage.state) ((c ++ e) ++ f))) (sym letter)
                (subst (λ z. AdvancesBy (IsCompMember (comp m g item) c) (point (tree s.state) (c ++ e)) (point l ((c ++ e) ++ f)) (point z ((c ++ e) ++ f))) (sym state) x.1);
            inside = subst (λ z. IsIn (point z ((c ++ e) ++ f)) (point t c)) (sym state) x.2;
          };
    }
      where
        at : n + s.more + m ≡ n + r.stage.more
        at = omega (arith, count)

-- ---- the steps of all
module _ (n : ℕ) (s : SymbolicState) (t : TermD) where
  pub taken_among : (Steps All : List Atom → PointValue → Type 0) (r : SymbolicStep) → ((c : List Atom) (w : PointValue) → Steps c w → All c w) → IsSymbolicStep n s Steps t r → IsSymbolicStep n s All t r
  taken_among Steps All r into h = record {
    stage = h.stage;
    letter_levels = h.letter_levels;
    order = h.order;
    goes = λ c e f lc le lf x.
        let y = h.goes c e f lc le lf x in
        record {
          admitted = y.admitted;
          step = (y.step.0, into c y.step.0 y.step.1, y.step.2);
          inside = y.inside;
        };
  }

  -- where none of the rest has such a step, none of the comprehensions has one
  pub never_goes_more : (rest next : CompsD) (k : CompD) (All : Type 0) → rest ≡ more k next → NeverAdvances n s (IsCompMember k) t → (NeverAdvances n s (IsAmong rest) t → All) → NeverAdvances n s (IsAmong next) t → All
  never_goes_more rest next k All e one h others = h (subst (λ z. NeverAdvances n s (IsAmong z) t) (sym e) both)
    where
      both : NeverAdvances n s (IsAmong (more k next)) t
      both c d lc ld x L Q (y, inl a, triple) i = one c d lc ld x L Q (y, a, triple) i
      both c d lc ld x L Q (y, inr a, triple) i = others c d lc ld x L Q (y, a, triple) i

  pub never_goes_end : (rest : CompsD) (All : Type 0) → rest ≡ no_comps → (NeverAdvances n s (IsAmong rest) t → All) → All
  never_goes_end rest All e h = h (subst (λ z. NeverAdvances n s (IsAmong z) t) (sym e) (λ c d lc ld x L Q go i. go.1))
