-- Facts on lists that several crates use.
use Rattle.std.proofs.Common.{◌≡◌, ℕ, suc, List, [], ◌∷◌, ◌++◌, length, map, refl, ap}
use Rattle.std.specs.List.{All, AllZip}
use Rattle.std.specs.declared.option.Option.TheVariants.{Some}
use Rattle.std.proofs.lemmas.List.Elements.{All-nil, All-cons, All-tail, All-pop}
use Rattle.lois_base.specs.Data.{TermD, term, terms_of, CompD, more, comps_of}
use Rattle.lois_base.specs.Fits.{ItemsFit}
use Rattle.lois_base.specs.Rename.{rename, rename_parts, rename_comp, rename_items}
use Rattle.lois_base.specs.Validity.{count_of_parts}

pub same_item : {X : Type 0} (x y : X) → Some x ≡ Some y → x ≡ y
same_item x y h = cc

pub all_one : {X : Type 0} (P : X → Type 0) (x : X) → P x → All P (x ∷ [])
all_one P x h = All-cons P x [] h (All-nil P)

pub all_right : {X : Type 0} (P : X → Type 0) (xs ys : List X) → All P (xs ++ ys) → All P ys
all_right P [] ys h = h
all_right P (x ∷ xs) ys h = all_right P xs ys (All-tail P x (xs ++ ys) h)

module _ {X : Type 0} (P : X → Type 0) (xs : List X) (x : X) (h : All P (xs ++ x ∷ [])) where
  pub all_before : All P xs
  all_before = (All-pop P (xs ++ x ∷ []) xs (Some x) refl h).0

  pub all_last : P x
  all_last = (All-pop P (xs ++ x ∷ []) xs (Some x) refl h).1

pub zip_push : {X Y : Type 0} (R : X → Y → Type 0) (xs : List X) (ys : List Y) (x : X) (y : Y) → AllZip R xs ys → R x y → AllZip R (xs ++ x ∷ []) (ys ++ y ∷ [])
zip_push R [] [] x y h r = (r, tt)
zip_push R [] (b ∷ ys) x y h r = absurd h
zip_push R (a ∷ xs) [] x y h r = absurd h
zip_push R (a ∷ xs) (b ∷ ys) x y h r = (h.0, zip_push R xs ys x y h.1 r)

-- ---- lists of parts and of comprehensions
pub parts_counted : (ts : List TermD) → count_of_parts (terms_of ts) ≡ length ts
parts_counted [] = refl
parts_counted (t ∷ ts) = ap suc (parts_counted ts)

pub parts_renamed : (name : ℕ → ℕ) (ts : List TermD) → terms_of (map (rename name) ts) ≡ rename_parts name (terms_of ts)
parts_renamed name [] = refl
parts_renamed name (t ∷ ts) = ap (term (rename name t)) (parts_renamed name ts)

pub items_renamed : (name : ℕ → ℕ) (cs : List CompD) → comps_of (map (rename_comp name) cs) ≡ rename_items name (comps_of cs)
items_renamed name [] = refl
items_renamed name (c ∷ cs) = ap (more (rename_comp name c)) (items_renamed name cs)

pub items_fit_append : (n : ℕ) (ks ls : List CompD) → ItemsFit n (comps_of ks) → ItemsFit n (comps_of ls) → ItemsFit n (comps_of (ks ++ ls))
items_fit_append n [] ls h g = g
items_fit_append n (k ∷ ks) ls h g = (h.0, items_fit_append n ks ls h.1 g)
