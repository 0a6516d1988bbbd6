-- Whether an automaton accepts a word depends on nothing but how the atoms of the choice and of the letters stand to one another.
use Rattle.std.proofs.Common.{◌≡◌, ℕ, ◌≤◌, Bool, List, [], ◌∷◌, length, take, refl, sym, subst, arith}
use Rattle.std.proofs.lemmas.List.{get_or-take, length-take-le}
use Rattle.std.proofs.lemmas.List.Elements.{All-head, All-tail}
use Rattle.std.specs.List.{All}
use Rattle.lois_base.specs.Atom.{Atom, whole}
use Rattle.lois_base.specs.Data.{TermD, CompsD}
use Rattle.lois_base.specs.Fits.{Fits, ItemsFit}
use Rattle.lois_base.specs.Patterns.{AreAlike}
use Rattle.lois_base.specs.Validity.{AdmitsTerm, AdmitsItems}
use Rattle.lois_base.specs.Values.{PointValue, point, IsSame}
use Rattle.lois_base.proofs.Members.{same_refl, same_sym, same_trans}
use Rattle.lois_base.proofs.Moves.{partner, Twinned, twinned_more, same_twinned}
use Rattle.lois_base.proofs.Twins.{Twins, Within, IsPattern, IsCarried, carried_more, zipped, has_zipped, pattern_zipped}
use Rattle.lois_meaning.specs.Automata.{IsTriple, IsAutomatonOf, HasStep, Reads, Accepts}
use Rattle.lois_meaning.proofs.Tuples.{triple_to}
use Rattle.lois_automata.specs.Machines.{IsAutomatonAt}
use Rattle.lois_automata.specs.Projections.{five_of, automaton_at, triple_of}
use Rattle.lois_automata.proofs.FiveMachine.{five_equal, five_machine}
use Rattle.lois_automata.proofs.FiveTerms.{five_sets}
use Rattle.lois_automata.proofs.Written.{triple_term}
use Rattle.lois_shortest_word.specs.Words.{AcceptsAt, values_at}

module _ (o : Bool) where
  -- the sets of an automaton at two choices, and the letters of a word at two others
  module _ (states letters steps initial final : CompsD) (n : ℕ) (c c' : List Atom) (steps_fit : ItemsFit n steps) (steps_admit : AdmitsItems o steps) (final_fit : ItemsFit n final) (final_admit : AdmitsItems o final) (initial_fit : ItemsFit n initial) (initial_admit : AdmitsItems o initial) (m : ℕ) (e e' : List Atom) where
    -- a step of the first automaton, and its partner
    record StepTwin (ps : List Twins) (t : TermD) (x' : List Atom) (l : TermD) (r : PointValue) : Type 0 where
      pairs : List Twins
      pattern : IsPattern o pairs
      within : Within ps pairs
      target : TermD
      choice : List Atom
      other : List Atom
      twinned : Twinned o pairs target choice other
      same : IsSame r (point target choice)
      step : HasStep (automaton_at states letters steps initial final c') (point t x') (point l e') (point target other)

    step_twin : (ps : List Twins) → IsPattern o ps → IsCarried ps n c c' → IsCarried ps m e e' → (t : TermD) (x x' : List Atom) → Twinned o ps t x x' → (p : PointValue) → IsSame p (point t x) → (l : TermD) → Fits m l → AdmitsTerm o l → (r : PointValue) → HasStep (automaton_at states letters steps initial final c) p (point l e) r → StepTwin ps t x' l r
    step_twin ps pattern here there t x x' tw p is l fits admits r (y, (u, member, y_is), triple) =
        let i = partner steps o ps pattern n c c' here steps_fit steps_admit u.term_of u.choice member in
        let three = triple_term u.term_of u.choice p (point l e) r (triple_to y u p (point l e) r y_is triple) in
        let a = three.0 in
        let b = three.1 in
        let d = three.2 in
        let term_is : u.term_of ≡ triple_of a b d = three.3 in
        let fit : Fits i.size (triple_of a b d) = subst (Fits i.size) term_is i.fits in
        let admit : AdmitsTerm o (triple_of a b d) = subst (AdmitsTerm o) term_is i.admits in
        let first : Twinned o i.pairs a u.choice i.image = record { size = i.size; carried = i.carried; fits = fit.0; admits = admit.0 } in
        let second : Twinned o i.pairs b u.choice i.image = record { size = i.size; carried = i.carried; fits = fit.1.0; admits = admit.1.0 } in
        let third : Twinned o i.pairs d u.choice i.image = record { size = i.size; carried = i.carried; fits = fit.1.1.0; admits = admit.1.1.0 } in
        let letter : Twinned o i.pairs l e e' = record { size = m; carried = carried_more ps i.pairs m e e' i.within there; fits = fits; admits = admits } in
        let source_same : IsSame (point t x') (point a i.image) =
        same_twinned o i.pairs i.pattern t x x' (twinned_more o ps i.pairs t x x' i.within tw) a u.choice i.image first (same_trans (point t x) p (point a u.choice) (same_sym p (point t x) is) three.4) in
        let letter_same : IsSame (point l e') (point b i.image) = same_twinned o i.pairs i.pattern l e e' letter b u.choice i.image second three.5 in
        record {
          pairs = i.pairs;
          pattern = i.pattern;
          within = i.within;
          target = d;
          choice = u.choice;
          other = i.image;
          twinned = third;
          same = three.6;
          step = (
            point u.term_of i.image,
            (point u.term_of i.image, i.member, same_refl (point u.term_of i.image)),
            subst (λ z. IsTriple (point z i.image) (point t x') (point l e') (point d i.image)) (sym term_is) (point a i.image, point b i.image, point d i.image, refl, source_same, letter_same, same_refl (point d i.image)),
          );
        }

    -- a path of the first automaton, and its partner
    record PathTwin (ps : List Twins) (ls : List TermD) (t : TermD) (x' : List Atom) (q : PointValue) : Type 0 where
      pairs : List Twins
      pattern : IsPattern o pairs
      within : Within ps pairs
      target : TermD
      choice : List Atom
      other : List Atom
      twinned : Twinned o pairs target choice other
      same : IsSame q (point target choice)
      reads : Reads (automaton_at states letters steps initial final c') (values_at e' ls) (point t x') (point target other)

    path_twin : (ls : List TermD) (ps : List Twins) → IsPattern o ps → IsCarried ps n c c' → IsCarried ps m e e' → All (Fits m) ls → All (AdmitsTerm o) ls → (t : TermD) (x x' : List Atom) → Twinned o ps t x x' → (p q : PointValue) → IsSame p (point t x) → Reads (automaton_at states letters steps initial final c) (values_at e ls) p q → PathTwin ps ls t x' q
    path_twin [] ps pattern here there fits admits t x x' tw p q is same = record {
      pairs = ps;
      pattern = pattern;
      within = λ y k. k;
      target = t;
      choice = x;
      other = x';
      twinned = tw;
      same = same_trans q p (point t x) (same_sym p q same) is;
      reads = same_refl (point t x');
    }
    path_twin (l ∷ ls) ps pattern here there fits admits t x x' tw p q is (r, step, rest) =
        let s = step_twin ps pattern here there t x x' tw p is l (All-head (Fits m) l ls fits) (All-head (AdmitsTerm o) l ls admits) r step in
        let b = path_twin ls s.pairs s.pattern (carried_more ps s.pairs n c c' s.within here) (carried_more ps s.pairs m e e' s.within there) (All-tail (Fits m) l ls fits) (All-tail (AdmitsTerm o) l ls admits) s.target s.choice s.other s.twinned r q s.same rest in
        record {
          pairs = b.pairs;
          pattern = b.pattern;
          within = λ y k. b.within y (s.within y k);
          target = b.target;
          choice = b.choice;
          other = b.other;
          twinned = b.twinned;
          same = b.same;
          reads = (point s.target s.other, s.step, b.reads);
        }

    accepts_twin : (ls : List TermD) (ps : List Twins) → IsPattern o ps → IsCarried ps n c c' → IsCarried ps m e e' → All (Fits m) ls → All (AdmitsTerm o) ls → Accepts (automaton_at states letters steps initial final c) (values_at e ls) → Accepts (automaton_at states letters steps initial final c') (values_at e' ls)
    accepts_twin ls ps pattern here there fits admits (p, (u, member, p_is), (q, (v, last, q_is), reads)) =
        let i = partner initial o ps pattern n c c' here initial_fit initial_admit u.term_of u.choice member in
        let begun : Twinned o i.pairs u.term_of u.choice i.image = record { size = i.size; carried = i.carried; fits = i.fits; admits = i.admits } in
        let here' = carried_more ps i.pairs n c c' i.within here in
        let b = path_twin ls i.pairs i.pattern here' (carried_more ps i.pairs m e e' i.within there) fits admits u.term_of u.choice i.image begun p q p_is reads in
        let j = partner final o b.pairs b.pattern n c c' (carried_more i.pairs b.pairs n c c' b.within here') final_fit final_admit v.term_of v.choice last in
        let ended : Twinned o j.pairs v.term_of v.choice j.image = record { size = j.size; carried = j.carried; fits = j.fits; admits = j.admits } in
        let same : IsSame (point b.target b.other) (point v.term_of j.image) =
        same_twinned o j.pairs j.pattern b.target b.choice b.other (twinned_more o b.pairs j.pairs b.target b.choice b.other j.within b.twinned) v.term_of v.choice j.image ended (same_trans (point b.target b.choice) q v (same_sym q (point b.target b.choice) b.same) q_is) in (
          point u.term_of i.image,
          (point u.term_of i.image, i.member, same_refl (point u.term_of i.image)),
          (point b.target b.other, (point v.term_of j.image, j.member, same), b.reads),
        )

-- ---- the first levels of choices that stand alike
pub alike_first : (o : Bool) (n : ℕ) (c d : List Atom) → n ≤ length c → AreAlike o c d → AreAlike o (take n c) (take n d)
alike_first o n c d le h =
    let one : length (take n c) ≡ n = length-take-le n c le in
    let other : length (take n d) ≡ n = length-take-le n d (omega (arith, h.count)) in
    record {
      count = omega (arith, one, other);
      agree = λ op k i j l m.
          rw (get_or-take n c i (whole 0) (omega (arith, one)), get_or-take n c j (whole 0) (omega (arith, one)), get_or-take n d i (whole 0) (omega (arith, one)), get_or-take n d j (whole 0) (omega (arith, one)))
          (h.agree op k i j (omega (arith, one)) (omega (arith, one)));
    }

whole_carried : (o : Bool) (c d : List Atom) → AreAlike o c d → IsCarried (zipped c d) (length c) c d
whole_carried o c d h = record { left = refl; right = sym h.count; atoms = λ i l. has_zipped c d i l (omega (arith, h.count)) }

first_carried : (o : Bool) (n : ℕ) (c d : List Atom) → n ≤ length c → AreAlike o c d → IsCarried (zipped c d) n (take n c) (take n d)
first_carried o n c d le h = record {
  left = length-take-le n c le;
  right = length-take-le n d (omega (arith, h.count));
  atoms = λ i l. rw (get_or-take n c i (whole 0) l, get_or-take n d i (whole 0) l) (has_zipped c d i (omega arith) (omega (arith, h.count)));
}

-- ---- of one automaton, at choices that stand alike
module _ (o : Bool) (n : ℕ) (c d : List Atom) (le : n ≤ length c) (alike : AreAlike o c d) (t : TermD) (fits : Fits n t) (admits : AdmitsTerm o t) where
  five_accepts : (s l u i f : CompsD) → t ≡ five_of s l u i f → (ls : List TermD) → All (Fits (length c)) ls → All (AdmitsTerm o) ls → IsAutomatonAt t (take n d) → AcceptsAt t (take n c) (values_at c ls) → AcceptsAt t (take n d) (values_at d ls)
  five_accepts s l u i f is ls levels operators there (m, own, accepts) =
      let fit : Fits n (five_of s l u i f) = subst (Fits n) is fits in
      let admit : AdmitsTerm o (five_of s l u i f) = subst (AdmitsTerm o) is admits in
      let equal : m ≡ automaton_at s l u i f (take n c) = five_equal s l u i f (take n c) m (subst (λ z. IsAutomatonOf (point z (take n c)) m) is own) in
      let machine : IsAutomatonOf (point t (take n d)) (automaton_at s l u i f (take n d)) = subst (λ z. IsAutomatonOf (point z (take n d)) (automaton_at s l u i f (take n d))) (sym is) (five_machine s l u i f (take n d) (subst (λ z. IsAutomatonAt z (take n d)) is there)) in (
        automaton_at s l u i f (take n d),
        machine,
        accepts_twin o s l u i f n (take n c) (take n d) fit.1.1.0 admit.1.1.0 fit.1.1.1.1.0 admit.1.1.1.1.0 fit.1.1.1.0 admit.1.1.1.0 (length c) c d ls (zipped c d) (pattern_zipped o c d alike) (first_carried o n c d le alike) (whole_carried o c d alike) levels operators (subst (λ z. Accepts z (values_at c ls)) equal accepts),
      )

  pub accepts_by_pattern : (ls : List TermD) → All (Fits (length c)) ls → All (AdmitsTerm o) ls → IsAutomatonAt t (take n d) → AcceptsAt t (take n c) (values_at c ls) → AcceptsAt t (take n d) (values_at d ls)
  accepts_by_pattern ls levels operators there accepted =
      let five = five_sets t (take n d) there in
      five_accepts five.0 five.1 five.2 five.3 five.4 five.5 ls levels operators there accepted
