use Rattle.std.proofs.Common.{◌≡◌, ℕ, Option, Some, None, IfSome, is_some, length, get_or, ltb, sym, subst}
use Rattle.std.proofs.lemmas.Bool.{ltb-true}
use Rattle.lois_rounds.specs.Families.{MemberD, MemberFits, FamilyD, FamilyFits}
use Rattle.lois_rounds.proofs.families.Family.get.Goals as goal

member_fits : {A : Type 0} (f : FamilyD) (i : ℕ) (now : A → MemberD) (o : Option A) → is_some o ≡ ltb i (length f) → IfSome o (λ m. now m ≡ get_or f i (now m)) → FamilyFits f → IfSome o (λ m. MemberFits (now m))
member_fits f i now None inside is fits = tt
member_fits f i now (Some m) inside is fits =
    subst MemberFits (sym is) (fits i (now m) (ltb-true i (length f) (sym inside)))

pub returns-clause-fits : goal.returns-clause-fits
returns-clause-fits c =
    member_fits c.deref.result.now c.args.index (λ m. m.now) c.get.result c.get.ensures.lookup.0 c.get.ensures.lookup.1 (rw c.deref.ensures.value c.self.invariant)
