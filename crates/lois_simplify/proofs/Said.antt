-- Constraints that say the same in other words.
use Rattle.std.proofs.Common.{◌≡◌, Bool, true, false, not, ◌&&◌, List, refl, ◌∙◌}
use Rattle.std.specs.Bool.{IsTrue}
use Rattle.std.specs.List.{All}
use Rattle.std.proofs.lemmas.Bool.{and_from}
use Rattle.std.proofs.lemmas.List.Elements.{All-weaker}
use Rattle.lois_base.specs.Atom.{Atom}
use Rattle.lois_base.specs.Fits.{LitFits, CubeFits}
use Rattle.lois_base.specs.Truth.{holds}
use Rattle.lois_base.specs.Validity.{is_admitted, AdmitsLit, AdmitsCube, AdmitsConstraint}
use Rattle.lois_base.specs.declared.guards.Lit.{Lit}
use Rattle.lois_base.specs.declared.guards.Op.{Op}
use Rattle.lois_base.specs.declared.guards.Op.TheVariants.{Eq, Ne, Lt, AtMost}
use Rattle.lois_base.proofs.Validity.{level_fits}
use Rattle.lois_simplify.specs.Shortened.{IsShortened, SpeaksOfBoth, SpeaksOfAll}

-- ---- operators
admitted_anyhow : (o : Bool) (op : Op) → IsTrue (is_admitted false op) → IsTrue (is_admitted o op)
admitted_anyhow o Eq h = refl
admitted_anyhow o Ne h = refl
admitted_anyhow o Lt h = absurd (cc)
admitted_anyhow o AtMost h = absurd (cc)

pub order_free_anyhow : (r : List (List Lit)) → AdmitsConstraint false r → (o : Bool) → AdmitsConstraint o r
order_free_anyhow r h o = All-weaker (AdmitsCube false) (AdmitsCube o) (λ k i. All-weaker (AdmitsLit false) (AdmitsLit o) (λ l j. admitted_anyhow o l.op j) k i) r h

all_admitted : (op : Op) → IsTrue (is_admitted true op)
all_admitted Eq = refl
all_admitted Ne = refl
all_admitted Lt = refl
all_admitted AtMost = refl

pub not_both : (b : Bool) → IsTrue (not b) → IsTrue b → ⊥
not_both true h i = absurd (cc)
not_both false h i = absurd (cc)

-- a guard that compares by the order of atoms is admitted under an order alone
pub no_more_order : (g r : List (List Lit)) → (AdmitsConstraint false g → ⊥) → (o : Bool) → AdmitsConstraint o g → AdmitsConstraint o r
no_more_order g r some true h = λ i k p j l q. all_admitted _
no_more_order g r some false h = absurd (some h)

-- ---- truth
pub said_the_same : (u g r p q : List (List Lit)) → ((e : List Atom) → holds e p ≡ (holds e u && holds e g)) → ((e : List Atom) → IsTrue (holds e p) → IsTrue (holds e r)) → ((e : List Atom) → holds e q ≡ (holds e u && holds e r)) → ((e : List Atom) → IsTrue (holds e q) → IsTrue (holds e g)) → SpeaksOfAll g r → ((o : Bool) → AdmitsConstraint o g → AdmitsConstraint o r) → IsShortened u g r
said_the_same u g r p q at_guard there at_other back uses operators = record {
  there = λ e o h. there e (at_guard e ∙ and_from (holds e u) (holds e g) o h);
  back = λ e o h. back e (at_other e ∙ and_from (holds e u) (holds e r) o h);
  levels = λ n f. All-weaker (All (SpeaksOfBoth g)) (CubeFits n) (λ k h. All-weaker (SpeaksOfBoth g) (LitFits n) (λ l i. (level_fits n g f l.left i.left, level_fits n g f l.right i.right)) k h) r uses;
  operators = operators;
}
