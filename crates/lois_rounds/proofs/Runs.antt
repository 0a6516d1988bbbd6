-- What a number of rounds leads to, and what holds while rounds are made.
use Rattle.std.proofs.Common.{◌≡◌, ◌↔◌, ℕ, zero, suc, ◌<◌, inl, inr, Bool, sym, ◌∙◌, subst, arith}
use Rattle.std.proofs.lemmas.Bool.{cases_lt}
use Rattle.lois_rounds.specs.Families.{FamilyD, FamilyFits, AdmitsFamily, sizes, AreEquivalent}
use Rattle.lois_rounds.specs.Rounds.{RespectsEquivalence, LeadAlike, LeavesEquivalent, LeadsAfter, Changes}
use Rattle.lois_rounds.specs.Equivalences.{equivalent_refl, equivalent_sym, equivalent_trans}

-- as many rounds lead to equivalent families
same_after : (leads : FamilyD → FamilyD → Type 0) → RespectsEquivalence leads → (n : ℕ) (start f g : FamilyD) → LeadsAfter leads n start f → LeadsAfter leads n start g → AreEquivalent f g
same_after leads respects zero start f g a b =
    subst (λ h. AreEquivalent f h) (sym a ∙ b) (equivalent_refl f)
same_after leads respects (suc n) start f g a b =
    respects a.0 b.0 f g a.2 b.2 (same_after leads respects n start a.0 b.0 a.1 b.1) a.3 b.3

-- the family after some number of rounds, before which no round left every member equivalent
pub record IsRun (leads : FamilyD → FamilyD → Type 0) (start family : FamilyD) : Type 0 where
  pub rounds : ℕ
  pub reached : LeadsAfter leads rounds start family
  pub first : (n : ℕ) (f : FamilyD) → n < rounds → FamilyFits f → LeadsAfter leads n start f → LeavesEquivalent leads f → ⊥

-- a family that some rounds lead to, beside one that a further round changes: no round leaves it equivalent
module _ (leads : FamilyD → FamilyD → Type 0) (respects : RespectsEquivalence leads) where
  changes_too : (f g h : FamilyD) → Changes leads f g → AreEquivalent h f → FamilyFits h → LeavesEquivalent leads h → ⊥
  changes_too f g h change same fits leaves =
      let there : AreEquivalent leaves.0 g = respects h f leaves.0 g fits change.from_fits same leaves.1 change.led in
      change.changed (g, change.led, equivalent_trans f h g (equivalent_sym h f same) (equivalent_trans h leaves.0 g leaves.2 there))

  run_more : (start f g : FamilyD) → IsRun leads start f → Changes leads f g → IsRun leads start g
  run_more start f g run change =
      record {
        rounds = suc run.rounds;
        reached = (f, run.reached, change.from_fits, change.led);
        first =
            λ n h l fits after leaves. elim (cases_lt n run.rounds) [
              | inl lt ↦ run.first n h lt fits after leaves
              | inr ge ↦
                  let e : n ≡ run.rounds = omega arith in
                  changes_too f g h change (same_after leads respects run.rounds start h f (subst (λ k. LeadsAfter leads k start h) e after) run.reached) fits leaves
            ];
      }

-- What holds while rounds are made: `now` is the round's relation after the calls so far, and `admits_now` the operators of what
-- it brings in.
pub record IsUnderWay (leads now : FamilyD → FamilyD → Type 0) (admits admits_now : Bool → Type 0) (start family : FamilyD) : Type 0 where
  pub run : IsRun leads start family
  pub kept : sizes family ≡ sizes start
  pub operators : (ordered : Bool) → admits ordered → AdmitsFamily ordered start → AdmitsFamily ordered family
  pub same_leads : LeadAlike leads now
  pub same_operators : (ordered : Bool) → admits ordered ↔ admits_now ordered

module _ (leads now : FamilyD → FamilyD → Type 0) (admits admits_now : Bool → Type 0) (start f : FamilyD) (way : IsUnderWay leads now admits admits_now start f) where
  -- what a round changes now it would have changed before
  pub changes_before : (g : FamilyD) → Changes now f g → Changes leads f g
  changes_before g change =
      record {
        led = (way.same_leads f g).1 change.led;
        kept = change.kept;
        from_fits = change.from_fits;
        to_fits = change.to_fits;
        changed = λ leaves. change.changed (leaves.0, (way.same_leads f leaves.0).0 leaves.1, leaves.2);
      }

  pub under_way_more : RespectsEquivalence leads → (after : FamilyD → FamilyD → Type 0) (admits_after : Bool → Type 0) (g : FamilyD) → Changes now f g
      → ((ordered : Bool) → admits_now ordered → AdmitsFamily ordered f → AdmitsFamily ordered g) → LeadAlike now after → ((ordered : Bool) → admits_now ordered ↔ admits_after ordered)
      → IsUnderWay leads after admits admits_after start g
  under_way_more respects after admits_after g change operators same_leads same_operators =
      record {
        run = run_more leads respects start f g way.run (changes_before g change);
        kept = change.kept ∙ way.kept;
        operators = λ o h k. operators o ((way.same_operators o).0 h) (way.operators o h k);
        same_leads =
            λ x y. (λ h. (same_leads x y).0 ((way.same_leads x y).0 h), λ h. (way.same_leads x y).1 ((same_leads x y).1 h));
        same_operators =
            λ o. (λ h. (same_operators o).0 ((way.same_operators o).0 h), λ h. (way.same_operators o).1 ((same_operators o).1 h));
      }
