-- Whether a value is an automaton, deterministic, complete, depends on nothing but how the atoms of the choice stand to one another.
use Rattle.std.proofs.Common.{◌≡◌, ℕ, Bool, List, length, refl, sym, subst, ◌∙◌, arith}
use Rattle.lois_base.specs.Atom.{Atom}
use Rattle.lois_base.specs.Data.{TermD, coll, CompsD}
use Rattle.lois_base.specs.Fits.{Fits, ItemsFit}
use Rattle.lois_base.specs.Patterns.{AreAlike}
use Rattle.lois_base.specs.Validity.{AdmitsTerm, AdmitsItems}
use Rattle.lois_base.specs.Values.{PointValue, point, MemberAt, IsSame, IsIn, IsIncluded}
use Rattle.lois_base.proofs.Members.{same_refl, same_sym, same_trans, in_same, member_in}
use Rattle.lois_base.proofs.Moves.{partner, same_carried, Twinned, twinned_more, same_twinned}
use Rattle.lois_base.proofs.Twins.{Twins, Within, IsPattern, IsCarried, swapped, pattern_swap, within_back, carried_more, carried_swap, zipped, has_zipped, pattern_zipped}
use Rattle.lois_meaning.specs.Automata.{IsTriple, IsComplete}
use Rattle.lois_meaning.proofs.Tuples.{triple_to}
use Rattle.lois_automata.specs.Deterministic.{IsDeterministicAt}
use Rattle.lois_automata.specs.Machines.{IsAutomatonAt, IsCompleteAt}
use Rattle.lois_automata.specs.Projections.{five_of, automaton_at, triple_of, HasStepIn, HasOneAtMost, HasUniqueTargets, StepsJoin}
use Rattle.lois_automata.proofs.Checked.{is_automaton, is_deterministic}
use Rattle.lois_automata.proofs.FiveMachine.{five_equal, five_machine}
use Rattle.lois_automata.proofs.FiveTerms.{five_sets}
use Rattle.lois_automata.proofs.Written.{triple_term, triple_is}

-- a member of a set at the first choice, for one at the second
record Origin (o : Bool) (ps : List Twins) (w : TermD) (x : List Atom) (ss : CompsD) (c : List Atom) : Type 0 where
  pairs : List Twins
  pattern : IsPattern o pairs
  within : Within ps pairs
  first : List Atom
  member : MemberAt w first ss c
  moved : Twinned o pairs w first x

module _ (o : Bool) where
  same_back : (ps : List Twins) → IsPattern o ps → (t : TermD) (c c' : List Atom) → Twinned o ps t c c' → (s : TermD) (d d' : List Atom) → Twinned o ps s d d' → IsSame (point t c') (point s d') → IsSame (point t c) (point s d)
  same_back ps pattern t c c' h s d d' k same =
      same_carried o t (swapped ps) (pattern_swap o ps pattern) h.size c' c (carried_swap ps h.size c c' h.carried) h.fits h.admits s k.size d' d (carried_swap ps k.size d d' k.carried) k.fits k.admits same

  -- of the atoms of one choice and of another, which are partners
  module _ (n : ℕ) (c d : List Atom) where
    origin : (ss : CompsD) → ItemsFit n ss → AdmitsItems o ss → (ps : List Twins) → IsPattern o ps → IsCarried ps n c d → (w : TermD) (x : List Atom) → MemberAt w x ss d → Origin o ps w x ss c
    origin ss fits admits ps pattern here w x m =
        let i = partner ss o (swapped ps) (pattern_swap o ps pattern) n d c (carried_swap ps n c d here) fits admits w x m in
        record {
          pairs = swapped i.pairs;
          pattern = pattern_swap o i.pairs i.pattern;
          within = within_back ps i.pairs i.within;
          first = i.image;
          member = i.member;
          moved = record { size = i.size; carried = carried_swap i.pairs i.size x i.image i.carried; fits = i.fits; admits = i.admits };
        }

    in_moved : (ss : CompsD) → ItemsFit n ss → AdmitsItems o ss → (ps : List Twins) → IsPattern o ps → IsCarried ps n c d → (t : TermD) (y x : List Atom) → Twinned o ps t y x → IsIn (point t y) (point (coll ss) c) → IsIn (point t x) (point (coll ss) d)
    in_moved ss fits admits ps pattern here t y x h (u, m, same) =
        let i = partner ss o ps pattern n c d here fits admits u.term_of u.choice m in
        let other : Twinned o i.pairs u.term_of u.choice i.image = record { size = i.size; carried = i.carried; fits = i.fits; admits = i.admits } in
        (point u.term_of i.image, i.member, same_twinned o i.pairs i.pattern t y x (twinned_more o ps i.pairs t y x i.within h) u.term_of u.choice i.image other same)

    included_moved : (is ss : CompsD) → ItemsFit n is → AdmitsItems o is → ItemsFit n ss → AdmitsItems o ss → (ps : List Twins) → IsPattern o ps → IsCarried ps n c d → IsIncluded (point (coll is) c) (point (coll ss) c) → IsIncluded (point (coll is) d) (point (coll ss) d)
    included_moved is ss fits admits fits' admits' ps pattern here inside x m =
        let i = origin is fits admits ps pattern here x.term_of x.choice m in
        in_moved ss fits' admits' i.pairs i.pattern (carried_more ps i.pairs n c d i.within here) x.term_of i.first x.choice i.moved (inside (point x.term_of i.first) i.member)

    -- the parts of a step at both choices
    part_moved : (ps : List Twins) (p a q : TermD) (w : TermD) (y x : List Atom) → w ≡ triple_of p a q → Twinned o ps w y x → Twinned o ps p y x × Twinned o ps a y x × Twinned o ps q y x
    part_moved ps p a q w y x is h =
        let fit : Fits h.size (triple_of p a q) = subst (Fits h.size) is h.fits in
        let admit : AdmitsTerm o (triple_of p a q) = subst (AdmitsTerm o) is h.admits in (
          record { size = h.size; carried = h.carried; fits = fit.0; admits = admit.0 },
          record { size = h.size; carried = h.carried; fits = fit.1.0; admits = admit.1.0 },
          record { size = h.size; carried = h.carried; fits = fit.1.1.0; admits = admit.1.1.0 },
        )

    module _ (t : CompsD) (steps_fit : ItemsFit n t) (steps_admit : AdmitsItems o t) (ps : List Twins) (pattern : IsPattern o ps) (here : IsCarried ps n c d) where
      joined_moved : (s l : CompsD) → ItemsFit n s → AdmitsItems o s → ItemsFit n l → AdmitsItems o l → StepsJoin (point (coll s) c) (point (coll l) c) (point (coll t) c) → StepsJoin (point (coll s) d) (point (coll l) d) (point (coll t) d)
      joined_moved s l fits admits fits' admits' join x (u, m, same) =
          let i = origin t steps_fit steps_admit ps pattern here u.term_of u.choice m in
          let j = join (point u.term_of i.first) (member_in (point u.term_of i.first) (point (coll t) c) i.member) in
          let three = triple_term u.term_of i.first j.0 j.1 j.2 j.3 in
          let parts = part_moved i.pairs three.0 three.1 three.2 u.term_of i.first u.choice three.3 i.moved in
          let there = carried_more ps i.pairs n c d i.within here in
          let own : IsTriple u (point three.0 u.choice) (point three.1 u.choice) (point three.2 u.choice) = subst (λ z. IsTriple (point z u.choice) (point three.0 u.choice) (point three.1 u.choice) (point three.2 u.choice)) (sym three.3) (triple_is three.0 three.1 three.2 u.choice) in (
            point three.0 u.choice,
            point three.1 u.choice,
            point three.2 u.choice,
            triple_to u x (point three.0 u.choice) (point three.1 u.choice) (point three.2 u.choice) (same_sym x u same) own,
            in_moved s fits admits i.pairs i.pattern there three.0 i.first u.choice parts.0 (in_same j.0 (point three.0 i.first) (point (coll s) c) three.4 j.4),
            in_moved l fits' admits' i.pairs i.pattern there three.1 i.first u.choice parts.1 (in_same j.1 (point three.1 i.first) (point (coll l) c) three.5 j.5),
            in_moved s fits admits i.pairs i.pattern there three.2 i.first u.choice parts.2 (in_same j.2 (point three.2 i.first) (point (coll s) c) three.6 j.6),
          )

      single_moved : (ss : CompsD) → ItemsFit n ss → AdmitsItems o ss → HasOneAtMost (point (coll ss) c) → HasOneAtMost (point (coll ss) d)
      single_moved ss fits admits one p q (u, m, same) (v, k, same') =
          let i = origin ss fits admits ps pattern here u.term_of u.choice m in
          let j = origin ss fits admits i.pairs i.pattern (carried_more ps i.pairs n c d i.within here) v.term_of v.choice k in
          let before : IsSame (point u.term_of i.first) (point v.term_of j.first) = one (point u.term_of i.first) (point v.term_of j.first) (member_in (point u.term_of i.first) (point (coll ss) c) i.member) (member_in (point v.term_of j.first) (point (coll ss) c) j.member) in
          let after : IsSame u v = same_twinned o j.pairs j.pattern u.term_of i.first u.choice (twinned_more o i.pairs j.pairs u.term_of i.first u.choice j.within i.moved) v.term_of j.first v.choice j.moved before in
          same_trans p u q same (same_trans u v q after (same_sym q v same'))

      unique_moved : HasUniqueTargets (point (coll t) c) → HasUniqueTargets (point (coll t) d)
      unique_moved unique p a q r (x, (u, m, same), first) (y, (v, k, same'), second) =
          let i = origin t steps_fit steps_admit ps pattern here u.term_of u.choice m in
          let j = origin t steps_fit steps_admit i.pairs i.pattern (carried_more ps i.pairs n c d i.within here) v.term_of v.choice k in
          let one = triple_term u.term_of u.choice p a q (triple_to x u p a q same first) in
          let two = triple_term v.term_of v.choice p a r (triple_to y v p a r same' second) in
          let mine = part_moved j.pairs one.0 one.1 one.2 u.term_of i.first u.choice one.3 (twinned_more o i.pairs j.pairs u.term_of i.first u.choice j.within i.moved) in
          let other = part_moved j.pairs two.0 two.1 two.2 v.term_of j.first v.choice two.3 j.moved in
          let sources : IsSame (point one.0 i.first) (point two.0 j.first) = same_back j.pairs j.pattern one.0 i.first u.choice mine.0 two.0 j.first v.choice other.0 (same_trans (point one.0 u.choice) p (point two.0 v.choice) (same_sym p (point one.0 u.choice) one.4) two.4) in
          let letters : IsSame (point one.1 i.first) (point two.1 j.first) = same_back j.pairs j.pattern one.1 i.first u.choice mine.1 two.1 j.first v.choice other.1 (same_trans (point one.1 u.choice) a (point two.1 v.choice) (same_sym a (point one.1 u.choice) one.5) two.5) in
          let step : HasStepIn (point (coll t) c) (point one.0 i.first) (point one.1 i.first) (point one.2 i.first) = (
            point u.term_of i.first,
            member_in (point u.term_of i.first) (point (coll t) c) i.member,
            subst (λ z. IsTriple (point z i.first) (point one.0 i.first) (point one.1 i.first) (point one.2 i.first)) (sym one.3) (triple_is one.0 one.1 one.2 i.first),
          ) in
          let again : HasStepIn (point (coll t) c) (point one.0 i.first) (point one.1 i.first) (point two.2 j.first) = (
            point v.term_of j.first,
            member_in (point v.term_of j.first) (point (coll t) c) j.member,
            subst (λ z. IsTriple (point z j.first) (point one.0 i.first) (point one.1 i.first) (point two.2 j.first)) (sym two.3) (point two.0 j.first, point two.1 j.first, point two.2 j.first, refl, sources, letters, same_refl (point two.2 j.first)),
          ) in
          let targets : IsSame (point one.2 u.choice) (point two.2 v.choice) = same_twinned o j.pairs j.pattern one.2 i.first u.choice mine.2 two.2 j.first v.choice other.2 (unique (point one.0 i.first) (point one.1 i.first) (point one.2 i.first) (point two.2 j.first) step again) in
          same_trans q (point one.2 u.choice) r one.6 (same_trans (point one.2 u.choice) (point two.2 v.choice) r targets (same_sym r (point two.2 v.choice) two.6))

      complete_moved : (s l i f : CompsD) → ItemsFit n s → AdmitsItems o s → ItemsFit n l → AdmitsItems o l → IsComplete (automaton_at s l t i f c) → IsComplete (automaton_at s l t i f d)
      complete_moved s l initial final fits admits fits' admits' complete p a (u, m, same) (v, k, same') =
          let i = origin s fits admits ps pattern here u.term_of u.choice m in
          let here' = carried_more ps i.pairs n c d i.within here in
          let j = origin l fits' admits' i.pairs i.pattern here' v.term_of v.choice k in
          let state : PointValue = point u.term_of i.first in
          let letter : PointValue = point v.term_of j.first in
          let (q, (y, (w, member, is), triple)) = complete state letter (member_in state (point (coll s) c) i.member) (member_in letter (point (coll l) c) j.member) in
          let e = partner t o j.pairs j.pattern n c d (carried_more i.pairs j.pairs n c d j.within here') steps_fit steps_admit w.term_of w.choice member in
          let three = triple_term w.term_of w.choice state letter q (triple_to y w state letter q is triple) in
          let parts = part_moved e.pairs three.0 three.1 three.2 w.term_of w.choice e.image three.3 (record { size = e.size; carried = e.carried; fits = e.fits; admits = e.admits }) in
          let wider : Twinned o j.pairs u.term_of i.first u.choice = twinned_more o i.pairs j.pairs u.term_of i.first u.choice j.within i.moved in
          let source : IsSame u (point three.0 e.image) = same_twinned o e.pairs e.pattern u.term_of i.first u.choice (twinned_more o j.pairs e.pairs u.term_of i.first u.choice e.within wider) three.0 w.choice e.image parts.0 three.4 in
          let read : IsSame v (point three.1 e.image) = same_twinned o e.pairs e.pattern v.term_of j.first v.choice (twinned_more o j.pairs e.pairs v.term_of j.first v.choice e.within j.moved) three.1 w.choice e.image parts.1 three.5 in (
            point three.2 e.image,
            (
              point w.term_of e.image,
              (point w.term_of e.image, e.member, same_refl (point w.term_of e.image)),
              subst (λ z. IsTriple (point z e.image) p a (point three.2 e.image)) (sym three.3) (point three.0 e.image, point three.1 e.image, point three.2 e.image, refl, same_trans p u (point three.0 e.image) same source, same_trans a v (point three.1 e.image) same' read, same_refl (point three.2 e.image)),
            ),
          )

-- ---- choices that stand alike
module _ (o : Bool) (n : ℕ) (c d : List Atom) (count : length c ≡ n) (t : TermD) (fits : Fits n t) (admits : AdmitsTerm o t) (alike : AreAlike o c d) where
  abbrev ps : List Twins
  ps = zipped c d

  pattern : IsPattern o ps
  pattern = pattern_zipped o c d alike

  here : IsCarried ps n c d
  here = record { left = count; right = sym alike.count ∙ count; atoms = λ i l. has_zipped c d i (omega (arith, count)) (omega (arith, count, alike.count)) }

  module _ (s l u i f : CompsD) (is : t ≡ five_of s l u i f) where
    fit : Fits n (five_of s l u i f)
    fit = subst (Fits n) is fits

    admit : AdmitsTerm o (five_of s l u i f)
    admit = subst (AdmitsTerm o) is admits

    five_automaton : IsAutomatonAt (five_of s l u i f) c → IsAutomatonAt (five_of s l u i f) d
    five_automaton h =
        let (join, (starts, ends)) = (is_automaton s l u i f c).1 h in
        (is_automaton s l u i f d).0 (
          joined_moved o n c d u fit.1.1.0 admit.1.1.0 ps pattern here s l fit.0 admit.0 fit.1.0 admit.1.0 join,
          (
            included_moved o n c d i s fit.1.1.1.0 admit.1.1.1.0 fit.0 admit.0 ps pattern here starts,
            included_moved o n c d f s fit.1.1.1.1.0 admit.1.1.1.1.0 fit.0 admit.0 ps pattern here ends,
          ),
        )

    five_deterministic : IsDeterministicAt (five_of s l u i f) c → IsDeterministicAt (five_of s l u i f) d
    five_deterministic (m, own, det) =
        let (((w, (v, member, same)), one), led) = (is_deterministic s l u i f c (m, own)).1 (m, own, det) in
        let e = partner i o ps pattern n c d here fit.1.1.1.0 admit.1.1.1.0 v.term_of v.choice member in
        (is_deterministic s l u i f d (five_automaton (m, own))).0 (
          (
            (point v.term_of e.image, member_in (point v.term_of e.image) (point (coll i) d) e.member),
            single_moved o n c d u fit.1.1.0 admit.1.1.0 ps pattern here i fit.1.1.1.0 admit.1.1.1.0 one,
          ),
          unique_moved o n c d u fit.1.1.0 admit.1.1.0 ps pattern here led,
        )

    five_complete : IsCompleteAt (five_of s l u i f) c → IsCompleteAt (five_of s l u i f) d
    five_complete (m, own, all) =
        let whole : IsComplete (automaton_at s l u i f c) = subst IsComplete (five_equal s l u i f c m own) all in
        (automaton_at s l u i f d, five_machine s l u i f d (five_automaton (m, own)), complete_moved o n c d u fit.1.1.0 admit.1.1.0 ps pattern here s l i f fit.0 admit.0 fit.1.0 admit.1.0 whole)

  pub automaton_alike : IsAutomatonAt t c → IsAutomatonAt t d
  automaton_alike h =
      let (s, l, u, i, f, is) = five_sets t c h in
      subst (λ z. IsAutomatonAt z d) (sym is) (five_automaton s l u i f is (subst (λ z. IsAutomatonAt z c) is h))

  pub deterministic_alike : IsDeterministicAt t c → IsDeterministicAt t d
  deterministic_alike h =
      let (s, l, u, i, f, is) = five_sets t c (h.0, h.1) in
      subst (λ z. IsDeterministicAt z d) (sym is) (five_deterministic s l u i f is (subst (λ z. IsDeterministicAt z c) is h))

  pub complete_alike : IsCompleteAt t c → IsCompleteAt t d
  complete_alike h =
      let (s, l, u, i, f, is) = five_sets t c (h.0, h.1) in
      subst (λ z. IsCompleteAt z d) (sym is) (five_complete s l u i f is (subst (λ z. IsCompleteAt z c) is h))
