-- The automaton of these sets: it is one, and it accepts the words that the register automaton accepts.
use Rattle.std.proofs.Common.{◌≡◌, List, [], ◌∷◌, None, length, refl, sym, ap, subst, ◌∙◌, ◌↔◌}
use Rattle.std.specs.List.{Contains, AllZip}
use Rattle.std.proofs.lemmas.List.{length-replicate}
use Rattle.std.proofs.lemmas.List.Elements.{All-contains}
use Rattle.lois_base.specs.Atom.{Atom}
use Rattle.lois_base.specs.Values.{PointValue, point}
use Rattle.lois_base.proofs.Members.{same_refl}
use Rattle.lois_base.proofs.Order.{equal_refl}
use Rattle.lois_meaning.specs.Automata.{Automaton, IsAutomatonOf, JoinsStates, HasStep, Reads, Accepts}
use Rattle.lois_meaning.specs.Kinds.{IsAtomValue, HasParts, IsSetOf}
use Rattle.lois_meaning.proofs.Alike.{is_atom_same}
use Rattle.lois_meaning.proofs.Operations.{triple_exists, triple_both}
use Rattle.lois_registers.specs.Placed.{configuration_term}
use Rattle.lois_registers.specs.Runs.{Configuration, IsConfigurationOf, first, IsStep, Leads, Runs, AcceptsAtoms}
use Rattle.lois_registers.specs.Translation.{IsValueOf, IsStepValue, IsTranslation}
use Rattle.lois_registers.specs.Valid.{IsRegisters, IsRegStep}
use Rattle.lois_registers.specs.declared.automata.RegStep.{RegStep}
use Rattle.lois_registers.specs.declared.automata.Registers.{Registers}
use Rattle.lois_registers.proofs.Configurations.{configured, value_is, value_move, value_alike, value_to, step_like, IsAlike}
use Rattle.lois_registers.proofs.Contents.{placed_at, length_stored}

-- every configuration is a value
pub value_exists : (p : Configuration) → (v : PointValue) × IsValueOf v p
value_exists p =
    let at = placed_at (length p.contents) p.contents refl in
    (point (configuration_term p.state at.place) at.atoms, subst (λ z. IsValueOf (point (configuration_term p.state at.place) at.atoms) (configured p.state z)) at.same (value_is p.state at.place at.atoms))

-- a step keeps the number of registers, and leads to a listed state
module _ (r : Registers) (valid : IsRegisters r) where
  target_listed : (s : RegStep) (p q : Configuration) (x : Atom) → IsConfigurationOf r p → Contains r.steps s → IsStep s p x q → IsConfigurationOf r q
  target_listed s p q x own i h =
      let step : IsRegStep r.order r.registers r.states s = All-contains (IsRegStep r.order r.registers r.states) r.steps s valid.steps i in
      (subst (Contains r.states) (sym h.to) step.to, ap length h.contents ∙ (length_stored 1 s.stored x p.contents ∙ own.1))

  pub leads_listed : (p q : Configuration) (x : Atom) → IsConfigurationOf r p → Leads r p x q → IsConfigurationOf r q
  leads_listed p q x own (s, i, h) = target_listed s p q x own i h

  pub source_listed : (s : RegStep) (p q : Configuration) (x : Atom) → length p.contents ≡ r.registers → Contains r.steps s → IsStep s p x q → IsConfigurationOf r p
  source_listed s p q x l i h =
      let step : IsRegStep r.order r.registers r.states s = All-contains (IsRegStep r.order r.registers r.states) r.steps s valid.steps i in
      (subst (Contains r.states) (sym h.from) step.from, l)

  pub first_listed : IsConfigurationOf r (first r)
  first_listed = (valid.initial, length-replicate r.registers None)

-- what is left to show of a machine
pub record HasSets (r : Registers) (m : Automaton) : Type 0 where
  pub states : IsSetOf m.states (λ v. (p : Configuration) × IsConfigurationOf r p × IsValueOf v p)
  pub letters : IsSetOf m.letters (λ v. (x : Atom) × IsAtomValue v x)
  pub steps : IsSetOf m.steps (IsStepValue r)
  pub initial : IsSetOf m.initial (λ v. IsValueOf v (first r))
  pub final : IsSetOf m.final (λ v. (p : Configuration) × IsConfigurationOf r p × Contains r.finals p.state × IsValueOf v p)

module _ (r : Registers) (valid : IsRegisters r) (m : Automaton) (sets : HasSets r m) where
  pub is_automaton : (v : PointValue) → HasParts v (m.states ∷ m.letters ∷ m.steps ∷ m.initial ∷ m.final ∷ []) → IsAutomatonOf v m
  is_automaton v five = record {
    five = five;
    states_set = sets.states.0;
    letters_set = sets.letters.0;
    steps_set = sets.steps.0;
    initial_set = sets.initial.0;
    final_set = sets.final.0;
    steps_join = λ x i. joins x ((sets.steps.1 x).0 i);
    initial_states = λ x i. (sets.states.1 x).1 (first r, first_listed r valid, (sets.initial.1 x).0 i);
    final_states = λ x i. let h = (sets.final.1 x).0 i in (sets.states.1 x).1 (h.0, h.1, h.3);
  }
    where
      joins : (x : PointValue) → IsStepValue r x → JoinsStates x m
      joins x (p, q, a, c, l, d, own, leads, ci, li, di, t) = (
        c,
        l,
        d,
        t,
        (sets.states.1 c).1 (p, own, ci),
        (sets.letters.1 l).1 (a, li),
        (sets.states.1 d).1 (q, leads_listed r valid p q a own leads, di),
      )

  -- a step of the automaton from a configuration is a step of the register automaton
  step_read : (v l u : PointValue) (p : Configuration) → IsValueOf v p → HasStep m v l u → (x : Atom) × (q : Configuration) × IsAtomValue l x × Leads r p x q × IsValueOf u q
  step_read v l u p h (x, i, t) = of ((sets.steps.1 x).0 i)
    where
      of : IsStepValue r x → (x : Atom) × (q : Configuration) × IsAtomValue l x × Leads r p x q × IsValueOf u q
      of (p', q', a, c, k, d, own, (s, j, step), ci, ki, di, t') =
          let parts = triple_both x c k d v l u t' t in
          let like : IsAlike p' p = value_alike v p' p (value_move c v p' parts.0 ci) h in
          let moved : (q : Configuration) × IsStep s p a q × IsAlike q' q = step_like s p' p q' a a like (equal_refl a) step in (
            a,
            moved.0,
            is_atom_same k l a parts.1 ki,
            (s, j, moved.1),
            value_to u q' moved.0 moved.2 (value_move d u q' parts.2 di),
          )

  reads_run : (word : List PointValue) (v w : PointValue) (p : Configuration) → IsValueOf v p → Reads m word v w → (xs : List Atom) × (q : Configuration) × AllZip IsAtomValue word xs × Runs r p xs q × IsValueOf w q
  reads_run [] v w p h s = ([], p, tt, refl, value_move v w p s h)
  reads_run (l ∷ word) v w p h (u, step, rest) =
      let one = step_read v l u p h step in
      let more = reads_run word u w one.1 one.4 rest in
      (one.0 ∷ more.0, more.1, (one.2, more.2), (one.1, one.3, more.3), more.4)

  step_made : (v l u : PointValue) (p q : Configuration) (x : Atom) → IsConfigurationOf r p → IsValueOf v p → IsAtomValue l x → IsValueOf u q → Leads r p x q → HasStep m v l u
  step_made v l u p q x own hv hl hu leads =
      let t = triple_exists v l u in
      (t.0, (sets.steps.1 t.0).1 (p, q, x, v, l, u, own, leads, hv, hl, hu, t.1), t.1)

  run_reads : (word : List PointValue) (xs : List Atom) (v : PointValue) (p q : Configuration) → IsConfigurationOf r p → IsValueOf v p → AllZip IsAtomValue word xs → Runs r p xs q → (w : PointValue) × Reads m word v w × IsConfigurationOf r q × IsValueOf w q
  run_reads [] [] v p q own h a e = (v, same_refl v, subst (IsConfigurationOf r) e own, subst (IsValueOf v) e h)
  run_reads (l ∷ word) (x ∷ xs) v p q own h a (n, leads, rest) =
      let u = value_exists n in
      let next = leads_listed r valid p n x own leads in
      let more = run_reads word xs u.0 n q next u.1 a.1 rest in
      (more.0, (u.0, step_made v l u.0 p n x own h a.0 u.1 leads, more.1), more.2, more.3)
  run_reads [] (x ∷ xs) v p q own h a e = absurd a
  run_reads (l ∷ word) [] v p q own h a e = absurd a

  pub words : (word : List PointValue) → Accepts m word ↔ ((xs : List Atom) × AllZip IsAtomValue word xs × AcceptsAtoms r xs)
  words word = (to, from)
    where
      to : Accepts m word → (xs : List Atom) × AllZip IsAtomValue word xs × AcceptsAtoms r xs
      to (v, i, (w, j, reads)) =
          let run = reads_run word v w (first r) ((sets.initial.1 v).0 i) reads in
          let end = (sets.final.1 w).0 j in
          let like : IsAlike end.0 run.1 = value_alike w end.0 run.1 end.3 run.4 in
          (run.0, run.2, (run.1, run.3, subst (Contains r.finals) like.state end.2))

      from : (xs : List Atom) × AllZip IsAtomValue word xs × AcceptsAtoms r xs → Accepts m word
      from (xs, a, (q, runs, final)) =
          let v = value_exists (first r) in
          let end = run_reads word xs v.0 (first r) q (first_listed r valid) v.1 a runs in
          (v.0, (sets.initial.1 v.0).1 v.1, (end.0, (sets.final.1 end.0).1 (q, end.2, final, end.3), end.1))

  pub is_translation : IsTranslation r m
  is_translation = record {
    states = sets.states;
    letters = sets.letters;
    steps = sets.steps;
    initial = sets.initial;
    final = sets.final;
    words = words;
  }
