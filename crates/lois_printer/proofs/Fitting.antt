-- Each part of what fits does.
use Rattle.std.proofs.Common.{◌≡◌, ℕ, zero, suc, ◌<◌, List, [], ◌∷◌, length, map, get_or, sym, subst, arith}
use Rattle.std.specs.List.{All}
use Rattle.std.proofs.lemmas.List.Elements.{All-head, All-tail, All-cons, All-nil}
use Rattle.lois_base.specs.Data.{TermD, terms_of, CompD, comps_of}
use Rattle.lois_base.specs.Fits.{Fits, PartsFit, CompFits, ItemsFit}
use Rattle.lois_base.specs.Tree.{tree, comp_of}
use Rattle.lois_base.specs.declared.values.Comp.{Comp}
use Rattle.lois_base.specs.declared.values.Term.{Term}
use Rattle.lois_answers.specs.ResultsData.{LineD, CaseD}
use Rattle.lois_answers.specs.Sound.{IsSoundLine, IsSoundCase}
use Rattle.lois_printer.specs.Inside.{LineFits, CaseFits}
use Rattle.std.specs.Prelude.{Bool}

part_at : (n : ℕ) (ts : List Term) (i : ℕ) (t : Term) → i < length ts → PartsFit n (terms_of (map tree ts)) → Fits n (tree (get_or ts i t))
part_at n [] i t l h = absurd (omega arith)
part_at n (u ∷ ts) zero t l h = h.0
part_at n (u ∷ ts) (suc i) t l h = part_at n ts i t (omega arith) h.1

pub part_fits : (n : ℕ) (vs : List TermD) (ts : List Term) (i : ℕ) (t : Term) → map tree ts ≡ vs → i < length ts → t ≡ get_or ts i t → PartsFit n (terms_of vs) → Fits n (tree t)
part_fits n vs ts i t m l e h =
    subst (λ u. Fits n (tree u)) (sym e) (part_at n ts i t l (subst (λ v. PartsFit n (terms_of v)) (sym m) h))

item_at : (n : ℕ) (cs : List Comp) (i : ℕ) (c : Comp) → i < length cs → ItemsFit n (comps_of (map comp_of cs)) → CompFits n (comp_of (get_or cs i c))
item_at n [] i c l h = absurd (omega arith)
item_at n (d ∷ cs) zero c l h = h.0
item_at n (d ∷ cs) (suc i) c l h = item_at n cs i c (omega arith) h.1

pub item_fits : (n : ℕ) (vs : List CompD) (cs : List Comp) (i : ℕ) (c : Comp) → map comp_of cs ≡ vs → i < length cs → c ≡ get_or cs i c → ItemsFit n (comps_of vs) → CompFits n (comp_of c)
item_fits n vs cs i c m l e h =
    subst (λ d. CompFits n (comp_of d)) (sym e) (item_at n cs i c l (subst (λ v. ItemsFit n (comps_of v)) (sym m) h))

module _ {X Y : Type 0} (P : Y → Type 0) (f : X → Y) where
  holds_at : (xs : List X) (i : ℕ) (x : X) → i < length xs → All P (map f xs) → P (f (get_or xs i x))
  holds_at [] i x l h = absurd (omega arith)
  holds_at (y ∷ xs) zero x l h = All-head P (f y) (map f xs) h
  holds_at (y ∷ xs) (suc i) x l h = holds_at xs i x (omega arith) (All-tail P (f y) (map f xs) h)

  -- what holds of all items of a slice holds of each
  pub holds_of_each : (vs : List Y) (xs : List X) (i : ℕ) (x : X) → map f xs ≡ vs → i < length xs → x ≡ get_or xs i x → All P vs → P (f x)
  holds_of_each vs xs i x m l e h =
      subst (λ z. P (f z)) (sym e) (holds_at xs i x l (subst (All P) (sym m) h))

pub sound_lines_fit : (ordered : Bool) (n : ℕ) (ls : List LineD) → All (IsSoundLine ordered n) ls → All (LineFits n) ls
sound_lines_fit ordered n [] h = All-nil (LineFits n)
sound_lines_fit ordered n (l ∷ ls) h =
    All-cons (LineFits n) l ls (All-head (IsSoundLine ordered n) l ls h).term.levels (sound_lines_fit ordered n ls (All-tail (IsSoundLine ordered n) l ls h))

pub sound_cases_fit : (ordered : Bool) (n : ℕ) (cs : List CaseD) → All (IsSoundCase ordered n) cs → All (CaseFits n) cs
sound_cases_fit ordered n [] h = All-nil (CaseFits n)
sound_cases_fit ordered n (c ∷ cs) h =
    All-cons (CaseFits n) c cs (sound_lines_fit ordered n c.lines (All-head (IsSoundCase ordered n) c cs h).lines) (sound_cases_fit ordered n cs (All-tail (IsSoundCase ordered n) c cs h))
