-- What rounds make of a family, and where they change nothing any more. `leads f g` says that one round may lead from f to g.
use Rattle.std.specs.Prelude.{◌≡◌, ℕ, zero, suc, ◌<◌, ◌↔◌}
use Rattle.lois_rounds.specs.Families.{FamilyD, FamilyFits, AreEquivalent, AreWeakened, sizes}

-- equivalent families are led to equivalent families
abbrev pub RespectsEquivalence : (FamilyD → FamilyD → Type 0) → Type 0
RespectsEquivalence leads =
    (f g f' g' : FamilyD) → FamilyFits f → FamilyFits g → AreEquivalent f g → leads f f' → leads g g' → AreEquivalent f' g'

-- two rounds lead from the same families to the same families
abbrev pub LeadAlike : (FamilyD → FamilyD → Type 0) → (FamilyD → FamilyD → Type 0) → Type 0
LeadAlike leads leads' = (f g : FamilyD) → leads f g ↔ leads' f g

-- each round makes members weaker, or leaves them equivalent
abbrev pub OnlyWeakens : (FamilyD → FamilyD → Type 0) → Type 0
OnlyWeakens leads = (f g : FamilyD) → FamilyFits f → leads f g → AreWeakened f g

-- each round makes members stronger, or leaves them equivalent
abbrev pub OnlyStrengthens : (FamilyD → FamilyD → Type 0) → Type 0
OnlyStrengthens leads = (f g : FamilyD) → FamilyFits f → leads f g → AreWeakened g f

-- a round leaves every member equivalent
abbrev pub LeavesEquivalent : (FamilyD → FamilyD → Type 0) → FamilyD → Type 0
LeavesEquivalent leads f = (g : FamilyD) × leads f g × AreEquivalent f g

-- n rounds may lead from the first family to the second
abbrev pub LeadsAfter : (FamilyD → FamilyD → Type 0) → ℕ → FamilyD → FamilyD → Type 0
LeadsAfter leads zero f h = f ≡ h
LeadsAfter leads (suc n) f h = (g : FamilyD) × LeadsAfter leads n f g × FamilyFits g × leads g h

-- The family after some number of rounds, which a round leaves equivalent, and after fewer rounds none was so.
pub record IsFirstUnchanged (leads : FamilyD → FamilyD → Type 0) (start family : FamilyD) : Type 0 where
  pub rounds : ℕ
  pub reached : LeadsAfter leads rounds start family
  pub unchanged : LeavesEquivalent leads family
  pub first : (n : ℕ) (f : FamilyD) → n < rounds → FamilyFits f → LeadsAfter leads n start f → LeavesEquivalent leads f → ⊥

-- One round leads from one family to another of the same sizes, and leaves not every member equivalent.
pub record Changes (leads : FamilyD → FamilyD → Type 0) (f g : FamilyD) : Type 0 where
  pub led : leads f g
  pub kept : sizes g ≡ sizes f
  pub from_fits : FamilyFits f
  pub to_fits : FamilyFits g
  pub changed : LeavesEquivalent leads f → ⊥
