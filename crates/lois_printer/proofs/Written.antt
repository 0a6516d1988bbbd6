-- One more item of a list is written.
use Rattle.std.proofs.Common.{◌≡◌, ℕ, zero, suc, ◌+◌, ◌<◌, ◌≤◌, List, [], ◌∷◌, ◌++◌, length, map, take, get_or, refl, sym, ap, ◌∙◌, append_assoc, append-nil, arith, add-one}
use Rattle.std.proofs.lemmas.List.{take_all}
use Rattle.std.specs.Prelude.{Result, Ok, Err, OnOk}
use Rattle.std.specs.List.{flat_map}
use Rattle.lois_base.specs.Data.{TermD, terms_of, CompD, comps_of}
use Rattle.lois_answers.specs.TermText.{joined, term_text, part_texts, comp_text, item_texts}
use Rattle.lois_printer.specs.Separated.{separator}

joined-append : (b : List ℕ) (ts : List (List ℕ)) (t : List ℕ) → joined b (ts ++ t ∷ []) ≡ (joined b ts ++ separator (length ts) b) ++ t
joined-append b [] t = refl
joined-append b (u ∷ []) t = refl
joined-append b (u ∷ v ∷ ts) t =
    ap (λ x. (u ++ b) ++ x) (joined-append b (v ∷ ts) t) ∙
    sym (append_assoc (u ++ b) (joined b (v ∷ ts) ++ b) t) ∙
    ap (λ x. x ++ t) (sym (append_assoc (u ++ b) (joined b (v ∷ ts)) b))

module _ {X : Type 0} (f : X → List ℕ) where
  take_one_more : (xs : List X) (i : ℕ) (x d : X) → i < length xs → x ≡ get_or xs i d → map f (take (i + 1) xs) ≡ map f (take i xs) ++ f x ∷ []
  take_one_more [] i x d l e = absurd (omega arith)
  take_one_more (y ∷ xs) zero x d l e = ap (λ z. f z ∷ []) (sym e)
  take_one_more (y ∷ xs) (suc i) x d l e = rw add-one (rw add-one at (ap (λ zs. f y ∷ zs) (take_one_more xs i x d (omega arith) e)))

  length_of_taken : (xs : List X) (i : ℕ) → i ≤ length xs → length (map f (take i xs)) ≡ i
  length_of_taken xs zero l = refl
  length_of_taken [] (suc i) l = absurd (omega arith)
  length_of_taken (y ∷ xs) (suc i) l = ap suc (length_of_taken xs i (omega arith))

  -- an item behind what separates it from those before
  pub item_is_written : (b : List ℕ) (xs : List X) (i : ℕ) (x d : X) (t0 t1 t2 t3 : List ℕ) → i < length xs → x ≡ get_or xs i d → t1 ≡ t0 ++ joined b (map f (take i xs)) → t2 ≡ t1 ++ separator i b → t3 ≡ t2 ++ f x → t3 ≡ t0 ++ joined b (map f (take (i + 1) xs))
  item_is_written b xs i x d t0 t1 t2 t3 l e e1 e2 e3 =
      let so_far : List ℕ = joined b (map f (take i xs)) in
      let more : joined b (map f (take (i + 1) xs)) ≡ (so_far ++ separator i b) ++ f x =
      ap (joined b) (take_one_more xs i x d l e) ∙ joined-append b (map f (take i xs)) (f x) ∙
      ap (λ k. (so_far ++ separator k b) ++ f x) (length_of_taken xs i (omega arith)) in
      e3 ∙ ap (λ z. z ++ f x) (e2 ∙ ap (λ z. z ++ separator i b) e1 ∙ append_assoc t0 so_far (separator i b)) ∙
      append_assoc t0 (so_far ++ separator i b) (f x) ∙ ap (λ z. t0 ++ z) (sym more)

  flat_one_more : (xs : List X) (i : ℕ) (x d : X) → i < length xs → x ≡ get_or xs i d → flat_map f (take (i + 1) xs) ≡ flat_map f (take i xs) ++ f x
  flat_one_more [] i x d l e = absurd (omega arith)
  flat_one_more (y ∷ xs) zero x d l e = ap (λ z. f z ++ []) (sym e) ∙ append-nil (f x)
  flat_one_more (y ∷ xs) (suc i) x d l e =
      rw add-one (rw add-one at (ap (λ z. f y ++ z) (flat_one_more xs i x d (omega arith) e) ∙ sym (append_assoc (f y) (flat_map f (take i xs)) (f x))))

  -- an item right behind those before
  pub piece_is_written : (xs : List X) (i : ℕ) (x d : X) (t0 t1 t2 : List ℕ) → i < length xs → x ≡ get_or xs i d → t1 ≡ t0 ++ flat_map f (take i xs) → t2 ≡ t1 ++ f x → t2 ≡ t0 ++ flat_map f (take (i + 1) xs)
  piece_is_written xs i x d t0 t1 t2 l e e1 e2 =
      e2 ∙ ap (λ z. z ++ f x) e1 ∙ append_assoc t0 (flat_map f (take i xs)) (f x) ∙ ap (λ z. t0 ++ z) (sym (flat_one_more xs i x d l e))

  pub flat_map-map : {Y : Type 0} (g : Y → X) (ys : List Y) → flat_map f (map g ys) ≡ flat_map (λ y. f (g y)) ys
  flat_map-map g [] = refl
  flat_map-map g (y ∷ ys) = ap (λ z. f (g y) ++ z) (flat_map-map g ys)

pub part_texts_of : (parameters : List (List ℕ)) (n : ℕ) (ts : List TermD) → part_texts parameters n (terms_of ts) ≡ map (term_text parameters n) ts
part_texts_of parameters n [] = refl
part_texts_of parameters n (t ∷ ts) = ap (λ z. term_text parameters n t ∷ z) (part_texts_of parameters n ts)

pub item_texts_of : (parameters : List (List ℕ)) (n : ℕ) (cs : List CompD) → item_texts parameters n (comps_of cs) ≡ map (comp_text parameters n) cs
item_texts_of parameters n [] = refl
item_texts_of parameters n (c ∷ cs) = ap (λ z. comp_text parameters n c ∷ z) (item_texts_of parameters n cs)

map-map : {X Y Z : Type 0} (f : Y → Z) (g : X → Y) (xs : List X) → map f (map g xs) ≡ map (λ x. f (g x)) xs
map-map f g [] = refl
map-map f g (x ∷ xs) = ap (λ z. f (g x) ∷ z) (map-map f g xs)

-- all items are written, each through what it is seen as
pub items_are_written : {X Y : Type 0} (f : Y → List ℕ) (g : X → Y) (b : List ℕ) (vs : List Y) (xs : List X) (i : ℕ) (t0 t : List ℕ) → map g xs ≡ vs → length xs ≤ i → t ≡ t0 ++ joined b (map (λ x. f (g x)) (take i xs)) → t ≡ t0 ++ joined b (map f vs)
items_are_written f g b vs xs i t0 t m l e =
    e ∙ ap (λ zs. t0 ++ joined b (map (λ x. f (g x)) zs)) (take_all i xs l) ∙
    ap (λ zs. t0 ++ joined b zs) (sym (map-map f g xs) ∙ ap (map f) m)

pub pieces_are_written : {X Y : Type 0} (f : Y → List ℕ) (g : X → Y) (vs : List Y) (xs : List X) (i : ℕ) (t0 t : List ℕ) → map g xs ≡ vs → length xs ≤ i → t ≡ t0 ++ flat_map (λ x. f (g x)) (take i xs) → t ≡ t0 ++ flat_map f vs
pieces_are_written f g vs xs i t0 t m l e =
    e ∙ ap (λ zs. t0 ++ flat_map (λ x. f (g x)) zs) (take_all i xs l) ∙
    ap (λ z. t0 ++ z) (sym (flat_map-map f g xs) ∙ ap (flat_map f) m)

enclosed : (t0 t1 t2 t3 before middle same behind : List ℕ) → t1 ≡ t0 ++ before → t2 ≡ t1 ++ middle → t3 ≡ t2 ++ behind → same ≡ middle → t3 ≡ t0 ++ ((before ++ same) ++ behind)
enclosed t0 t1 t2 t3 before middle same behind e1 e2 e3 s =
    e3 ∙ ap (λ z. z ++ behind) (e2 ∙ ap (λ z. z ++ middle) e1 ∙ append_assoc t0 before middle ∙ ap (λ z. t0 ++ (before ++ z)) (sym s)) ∙
    append_assoc t0 (before ++ same) behind

-- between two brackets
pub enclosed_on_ok : {T E : Type 0} (r : Result T E) (t0 t1 t2 t3 before middle same behind : List ℕ) → t1 ≡ t0 ++ before → t2 ≡ t1 ++ middle → OnOk r (t3 ≡ t2 ++ behind) → same ≡ middle → OnOk r (t3 ≡ t0 ++ ((before ++ same) ++ behind))
enclosed_on_ok (Ok x) t0 t1 t2 t3 before middle same behind e1 e2 e3 s =
    enclosed t0 t1 t2 t3 before middle same behind e1 e2 e3 s
enclosed_on_ok (Err x) t0 t1 t2 t3 before middle same behind e1 e2 e3 s = e3
