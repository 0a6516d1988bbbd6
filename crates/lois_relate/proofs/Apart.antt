-- Terms that differ at all choices, and formulas that hold nowhere.
use Rattle.std.proofs.Common.{◌≡◌, ℕ, zero, suc, ◌+◌, ◌<◌, Bool, List, [], ◌∷◌, ◌++◌, length, get_or, map, sym, subst, arith}
use Rattle.lois_base.specs.Atom.{Atom}
use Rattle.lois_base.specs.Data.{TermD, terms_of, CompD, comp}
use Rattle.lois_base.specs.FormulaData.{FormulaD, any, no_formulas}
use Rattle.lois_base.specs.Tree.{tree}
use Rattle.lois_base.specs.Values.{SameAt, SamePartsAt, OneIsAt}
use Rattle.lois_base.specs.declared.guards.Lit.{Lit}
use Rattle.lois_base.specs.declared.values.Term.{Term}
use Rattle.lois_base.proofs.Same.{same_at_sym}
use Rattle.lois_relate.specs.Apart.{LeavesOut}
use Rattle.lois_relate.specs.Built.{Defines}
use Rattle.lois_relate.specs.Compared.{DefinesPaired, DefinesItem}
use Rattle.lois_relate.proofs.Parts.{as_many_items}
use Rattle.lois_relate.proofs.Sets.{parts_as_many}

-- ---- tuples
part_same_at : (ts us : List Term) (i : ℕ) (t u : Term) (c d : List Atom) → i < length ts → i < length us → SamePartsAt (terms_of (map tree ts)) c (terms_of (map tree us)) d → SameAt (tree (get_or ts i t)) c (tree (get_or us i u)) d
part_same_at [] us i t u c d l k h = absurd (omega arith)
part_same_at (x ∷ ts) [] i t u c d l k h = absurd h
part_same_at (x ∷ ts) (y ∷ us) zero t u c d l k h = h.0
part_same_at (x ∷ ts) (y ∷ us) (suc i) t u c d l k h = part_same_at ts us i t u c d (omega arith) (omega arith) h.1

-- the parts of tuples that are the same are the same
pub part_same : (ts us : List Term) (vs ws : List TermD) (i : ℕ) (t u : Term) → map tree ts ≡ vs → map tree us ≡ ws → i < length ts → i < length us → t ≡ get_or ts i t → u ≡ get_or us i u → (c d : List Atom) → SamePartsAt (terms_of vs) c (terms_of ws) d → SameAt (tree t) c (tree u) d
part_same ts us vs ws i t u m k l r e f c d h =
    subst (λ z. SameAt (tree z) c (tree u) d) (sym e) (subst (λ z. SameAt (tree (get_or ts i t)) c (tree z) d) (sym f) (part_same_at ts us i t u c d l r (subst (λ z. SamePartsAt (terms_of z) c (terms_of (map tree us)) d) (sym m) (subst (λ z. SamePartsAt (terms_of vs) c (terms_of z) d) (sym k) h))))

pub widths_apart : (ts us : List Term) (vs ws : List TermD) → map tree ts ≡ vs → map tree us ≡ ws → (length ts ≡ length us → ⊥) → (c d : List Atom) → SamePartsAt (terms_of vs) c (terms_of ws) d → ⊥
widths_apart ts us vs ws m k differ c d h = differ (as_many_items ts us vs ws m k (parts_as_many vs ws c d h))

pub no_item : (k : CompD) (s : TermD) (c d : List Atom) → LeavesOut k s → OneIsAt k c s d → ⊥
no_item (comp m g t) s c d out (e, ext, same) = out (c ++ e) d ext.guard same

-- ---- what holds nowhere
pub nowhere_says : (n : ℕ) (Q : List Atom → Type 0) (A : Bool → Type 0) (f : FormulaD) → f ≡ any no_formulas → ((c : List Atom) → Q c → ⊥) → Defines n Q A f
nowhere_says n Q A f e never =
    subst (Defines n Q A) (sym e) (record { truth = λ c k. (λ h. absurd h, λ h. absurd (never c h)); levels = tt; operators = λ o h. tt })

module _ (n : ℕ) (sn tn : List ℕ) (k : ℕ) (h : List (List Lit)) (s : TermD) (f : FormulaD) (nowhere : f ≡ any no_formulas) where
  pub item_left_out : (q : CompD) → LeavesOut q s → DefinesItem n sn (comp k h s) tn q f
  item_left_out q out = nowhere_says (n + k) _ _ f nowhere (λ c x. no_item q s _ _ out x.1)

  pub pair_left_out : (m : ℕ) (g : List (List Lit)) (t : TermD) → LeavesOut (comp m g t) s → DefinesPaired n sn (comp k h s) tn (comp m g t) f
  pair_left_out m g t out = nowhere_says ((n + k) + m) _ _ f nowhere (λ c x. out _ _ x.1 x.2)

  pub pair_left_out_back : (m : ℕ) (g : List (List Lit)) (t : TermD) → LeavesOut (comp m g t) s → DefinesPaired n tn (comp m g t) sn (comp k h s) f
  pair_left_out_back m g t out = nowhere_says ((n + m) + k) _ _ f nowhere (λ c x. out _ _ x.0 (same_at_sym s _ t _ x.2))
