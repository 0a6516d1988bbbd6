-- The term of the five sets is the automaton of the register automaton.
use Rattle.std.proofs.Common.{◌≡◌, ℕ, List, [], ◌∷◌, Option, None, replicate, refl, sym, subst}
use Rattle.std.specs.List.{All, Contains}
use Rattle.std.proofs.lemmas.List.Elements.{All-contains, All-weaker}
use Rattle.lois_answers.specs.Sound.{IsSoundTerm}
use Rattle.lois_base.specs.Data.{TermD, var, tup, coll, terms_of, CompD, comp, comps_of}
use Rattle.lois_base.specs.Names.{IsName}
use Rattle.lois_base.specs.Values.{PointValue, point}
use Rattle.lois_meaning.specs.Automata.{Automaton}
use Rattle.lois_registers.specs.Placed.{placements, configurations, configuration_term, step_comps, AreMade}
use Rattle.lois_registers.specs.Runs.{first}
use Rattle.lois_registers.specs.Translation.{IsStepValue, IsTranslatedTo}
use Rattle.lois_registers.specs.Valid.{IsRegisters}
use Rattle.lois_registers.specs.Written.{IsWrittenFrom}
use Rattle.lois_registers.specs.declared.automata.Registers.{Registers}
use Rattle.lois_registers.proofs.Automaton.{HasSets, is_automaton, is_translation, source_listed}
use Rattle.lois_registers.proofs.Made.{made_member, member_made}
use Rattle.lois_registers.proofs.Sets.{configuration_from, configuration_in, IsStepOf, step_from, step_in, letter_from, letter_in, first_from, first_in}
use Rattle.lois_registers.proofs.Soundness.{configurations_sound, steps_sound, first_sound, atoms_sound, five_sound}

module _ (r : Registers) (valid : IsRegisters r) (made : List CompD) (are : AreMade (step_comps (placements r.registers) r.steps) made) where
  abbrev pub states_term : TermD
  states_term = coll (comps_of (configurations (placements r.registers) r.states))

  abbrev pub letters_term : TermD
  letters_term = coll (comps_of (comp 1 ([] ∷ []) (var 0) ∷ []))

  abbrev pub steps_term : TermD
  steps_term = coll (comps_of made)

  abbrev pub initial_term : TermD
  initial_term = coll (comps_of (comp 0 ([] ∷ []) (configuration_term r.initial (replicate r.registers None)) ∷ []))

  abbrev pub final_term : TermD
  final_term = coll (comps_of (configurations (placements r.registers) r.finals))

  abbrev pub whole_term : TermD
  whole_term = tup (terms_of (states_term ∷ letters_term ∷ steps_term ∷ initial_term ∷ final_term ∷ []))

  abbrev machine : Automaton
  machine = record { states = point states_term []; letters = point letters_term []; steps = point steps_term []; initial = point initial_term []; final = point final_term [] }

  step_to : (v : PointValue) → IsStepOf r.registers r.steps v → IsStepValue r v
  step_to v h = (
    h.source,
    h.target,
    h.atom,
    h.first,
    h.letter,
    h.second,
    source_listed r valid h.step h.source h.target h.atom h.count h.listed h.leads,
    (h.step, h.listed, h.leads),
    h.first_is,
    h.letter_is,
    h.second_is,
    h.triple,
  )

  step_of : (v : PointValue) → IsStepValue r v → IsStepOf r.registers r.steps v
  step_of v (p, q, x, c, l, d, own, (s, i, h), ci, li, di, t) = record {
    step = s;
    listed = i;
    source = p;
    target = q;
    atom = x;
    first = c;
    letter = l;
    second = d;
    count = own.1;
    leads = h;
    first_is = ci;
    letter_is = li;
    second_is = di;
    triple = t;
  }

  has_sets : HasSets r machine
  has_sets = record {
    states = (tt, λ v. (λ i. let h = configuration_from r.registers r.states v i in (h.0, (h.1, h.2), h.3), λ (p, own, h). configuration_in r.registers r.states v p own.0 own.1 h));
    letters = (tt, λ v. (λ i. letter_from v i, λ (x, h). letter_in v x h));
    steps = (
      tt,
      λ v. (
        λ (u, m, s). step_to v (step_from r.registers r.steps v (u, member_made u.term_of u.choice [] (step_comps (placements r.registers) r.steps) made are m, s)),
        λ h. let i = step_in r.registers r.steps v (step_of v h) in (i.0, made_member i.0.term_of i.0.choice [] (step_comps (placements r.registers) r.steps) made are i.1, i.2),
      ),
    );
    initial = (tt, λ v. (λ i. first_from r.registers r.initial v i, λ h. first_in r.registers r.initial v h));
    final = (
      tt,
      λ v. (
        λ i. let h = configuration_from r.registers r.finals v i in (h.0, (All-contains (Contains r.states) r.finals h.0.state valid.finals.listed h.1, h.2), h.1, h.3),
        λ (p, own, listed, h). configuration_in r.registers r.finals v p listed own.1 h,
      ),
    );
  }

  pub is_translated : IsTranslatedTo r whole_term
  is_translated = (machine, is_automaton r valid machine has_sets (point whole_term []) refl, is_translation r valid machine has_sets)

  final_names : All IsName r.finals
  final_names = All-weaker (Contains r.states) IsName (λ name i. All-contains IsName r.states name valid.states.form i) r.finals valid.finals.listed

  pub is_sound : IsSoundTerm r.order 0 whole_term
  is_sound =
      five_sound r.order states_term letters_term steps_term initial_term final_term
      (configurations_sound r.order r.registers valid.some valid.few r.states valid.states.form)
      (atoms_sound r.order)
      (steps_sound r.order r.registers valid.some valid.few r.states valid.states.form r.steps valid.steps made are)
      (first_sound r.order r.registers valid.some valid.few r.initial (All-contains IsName r.states r.initial valid.states.form valid.initial))
      (configurations_sound r.order r.registers valid.some valid.few r.finals final_names)

  pub each : (t : TermD) → t ≡ whole_term → IsTranslatedTo r t × IsWrittenFrom r t × IsSoundTerm r.order 0 t
  each t e = (subst (IsTranslatedTo r) (sym e) is_translated, (made, are, e), subst (IsSoundTerm r.order 0) (sym e) is_sound)

-- the same from the five sets as they were made, one by one
module _ (r : Registers) (valid : IsRegisters r) (places : List (List (Option ℕ))) (all : places ≡ placements r.registers) where
  pub from_sets : (t a b c d e first : TermD) (states finals : List (List ℕ)) → t ≡ tup (terms_of (a ∷ b ∷ c ∷ d ∷ e ∷ [])) →
      a ≡ coll (comps_of (configurations places states)) → states ≡ r.states →
      b ≡ coll (comps_of (comp 1 ([] ∷ []) (var 0) ∷ [])) →
      (made : List CompD) × (c ≡ coll (comps_of made)) × AreMade (step_comps places r.steps) made →
      d ≡ coll (comps_of (comp 0 ([] ∷ []) first ∷ [])) → first ≡ configuration_term r.initial (replicate r.registers None) →
      e ≡ coll (comps_of (configurations places finals)) → finals ≡ r.finals →
      IsTranslatedTo r t × IsWrittenFrom r t × IsSoundTerm r.order 0 t
  from_sets t a b c d e first states finals is ha hs hb (made, hc, are) hd hf he hn =
      let own : AreMade (step_comps (placements r.registers) r.steps) made = subst (λ z. AreMade (step_comps z r.steps) made) all are in
      let ea : a ≡ coll (comps_of (configurations (placements r.registers) r.states)) = rw (ha, all, hs) in
      let ed : d ≡ coll (comps_of (comp 0 ([] ∷ []) (configuration_term r.initial (replicate r.registers None)) ∷ [])) = rw (hd, hf) in
      let ee : e ≡ coll (comps_of (configurations (placements r.registers) r.finals)) = rw (he, all, hn) in
      let whole : t ≡ whole_term r valid made own = rw (is, ea, hb, hc, ed, ee) in
      each r valid made own t whole
