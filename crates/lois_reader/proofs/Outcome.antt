-- What reading gives on written pieces: the value, or how many bytes are left at the first broken piece.
use Rattle.std.proofs.Common.{◌≡◌, ℕ, zero, suc, ◌+◌, ◌<◌, Bool, true, false, cond, List, [], ◌∷◌, ◌++◌, length, map, Result, Ok, Err, refl, sym, ap, ◌∙◌, append_assoc, arith, length-append}
use Rattle.std.specs.List.{AllByRecursion}
use Rattle.lois_reader.specs.Reading.{◌>>=◌}
use Rattle.lois_reader.specs.Ends.{fixed_end}
use Rattle.lois_reader.specs.Pieces.{Piece, plain, each}
use Rattle.lois_reader.specs.Shape.{text_of_pieces}
use Rattle.lois_reader.specs.Values.{list_at, many_at}
use Rattle.lois_reader.proofs.Fronts.{fixed_front}

-- how many bytes pieces have
abbrev pub size : List Piece → ℕ
size [] = 0
size (p ∷ ps) = length p.bytes + size ps

-- the value with what follows, or how many bytes are left at the first broken piece
abbrev pub out : {A : Type 0} → List Piece → A → List ℕ → Result (A × List ℕ) ℕ
out [] a r = Ok (a, r)
out (p ∷ ps) a r = cond p.broken (Err (length p.bytes + (size ps + length r))) (out ps a r)

pub size_is : (ps : List Piece) → length (text_of_pieces ps) ≡ size ps
size_is [] = refl
size_is (p ∷ ps) = omega (arith, length-append p.bytes (text_of_pieces ps), size_is ps)

pub size_append : (ps qs : List Piece) → size (ps ++ qs) ≡ size ps + size qs
size_append [] qs = omega arith
size_append (p ∷ ps) qs = omega (arith, size_append ps qs)

pub text_append : (ps qs : List Piece) → text_of_pieces (ps ++ qs) ≡ text_of_pieces ps ++ text_of_pieces qs
text_append [] qs = refl
text_append (p ∷ ps) qs = ap (λ (t : List ℕ). p.bytes ++ t) (text_append ps qs) ∙ sym (append_assoc p.bytes (text_of_pieces ps) (text_of_pieces qs))

-- a text with another behind it, part by part
pub text_split : (ps qs : List Piece) (r : List ℕ) → text_of_pieces (ps ++ qs) ++ r ≡ text_of_pieces ps ++ (text_of_pieces qs ++ r)
text_split ps qs r = ap (λ (t : List ℕ). t ++ r) (text_append ps qs) ∙ append_assoc (text_of_pieces ps) (text_of_pieces qs) r

bind_cond : {A B : Type 0} (b : Bool) (l m : ℕ) (x : Result A ℕ) (y : Result B ℕ) (f : A → Result B ℕ) → l ≡ m → (x >>= f) ≡ y → (cond b (Err l) x >>= f) ≡ cond b (Err m) y
bind_cond true l m x y f e h = ap (λ (n : ℕ). Err n) e
bind_cond false l m x y f e h = h

pub bind_out : {A B : Type 0} (ps qs : List Piece) (a : A) (b : B) (r : List ℕ) (f : A × List ℕ → Result (B × List ℕ) ℕ) → f (a, text_of_pieces qs ++ r) ≡ out qs b r → (out ps a (text_of_pieces qs ++ r) >>= f) ≡ out (ps ++ qs) b r
bind_out [] qs a b r f e = e
bind_out (p ∷ ps) qs a b r f e =
    bind_cond p.broken (length p.bytes + (size ps + length (text_of_pieces qs ++ r))) (length p.bytes + (size (ps ++ qs) + length r)) (out ps a (text_of_pieces qs ++ r)) (out (ps ++ qs) b r) f
    (omega (arith, size_append ps qs, length-append (text_of_pieces qs) r, size_is qs))
    (bind_out ps qs a b r f e)

map_cond : {A B : Type 0} (b : Bool) (l : ℕ) (x : Result A ℕ) (y : Result B ℕ) (f : A → Result B ℕ) → (x >>= f) ≡ y → (cond b (Err l) x >>= f) ≡ cond b (Err l) y
map_cond true l x y f h = refl
map_cond false l x y f h = h

-- another value is made of what was read
pub map_out : {A B : Type 0} (ps : List Piece) (a : A) (r : List ℕ) (g : A → B) → (out ps a r >>= λ y. Ok (g y.0, y.1)) ≡ out ps (g a) r
map_out [] a r g = refl
map_out (p ∷ ps) a r g = map_cond p.broken (length p.bytes + (size ps + length r)) (out ps a r) (out ps (g a) r) (λ y. Ok (g y.0, y.1)) (map_out ps a r g)

pub bind_assoc : {A B C : Type 0} (x : Result A ℕ) (f : A → Result B ℕ) (g : B → Result C ℕ) → ((x >>= f) >>= g) ≡ (x >>= λ y. f y >>= g)
bind_assoc (Ok x) f g = refl
bind_assoc (Err l) f g = refl

-- a reader of the first pieces, and what is read behind them
pub part_step : {A B : Type 0} (read : List ℕ → Result (A × List ℕ) ℕ) (ps qs : List Piece) (a : A) (b : B) (r : List ℕ) (f : A × List ℕ → Result (B × List ℕ) ℕ) →
    read (text_of_pieces ps ++ (text_of_pieces qs ++ r)) ≡ out ps a (text_of_pieces qs ++ r) → f (a, text_of_pieces qs ++ r) ≡ out qs b r → (read (text_of_pieces (ps ++ qs) ++ r) >>= f) ≡ out (ps ++ qs) b r
part_step read ps qs a b r f here later =
    ap (λ (s : List ℕ). read s >>= f) (text_split ps qs r) ∙ ap (λ x. x >>= f) here ∙ bind_out ps qs a b r f later

-- a fixed text, and what is read behind it
pub fixed_step : {B : Type 0} (x : List ℕ) (qs : List Piece) (r : List ℕ) (f : List ℕ → Result B ℕ) → (fixed_end x (text_of_pieces (plain x ∷ qs) ++ r) >>= f) ≡ f (text_of_pieces qs ++ r)
fixed_step x qs r f =
    ap (λ (s : List ℕ). fixed_end x s >>= f) (append_assoc x (text_of_pieces qs) r) ∙ ap (λ e. e >>= f) (fixed_front x (text_of_pieces qs ++ r))

-- items with a text between them
module _ {A B : Type 0} (test : List ℕ → Bool) (between : List ℕ) (item : List ℕ → Result (B × List ℕ) ℕ) (pieces : A → List Piece) (val : A → B) (Good : A → Type 0) (Ends : List ℕ → Type 0) where
  abbrev pub later : List A → List Piece
  later xs = each (λ y. plain between ∷ pieces y) xs

  pub list_out : (item_out : (x : A) → Good x → (r : List ℕ) → Ends r → item (text_of_pieces (pieces x) ++ r) ≡ out (pieces x) (val x) r) → (goes_on : (r : List ℕ) → test (between ++ r) ≡ true) → (between_ends : (r : List ℕ) → Ends (between ++ r)) →
      (x : A) (xs : List A) (n : ℕ) (r : List ℕ) → length xs < n → Good x → AllByRecursion Good xs → Ends r → test r ≡ false →
      list_at test between item n (text_of_pieces (pieces x ++ later xs) ++ r) ≡ out (pieces x ++ later xs) (val x ∷ map val xs) r
  list_out item_out goes_on between_ends x xs zero r enough good all ends none = absurd (omega arith)
  list_out item_out goes_on between_ends x [] (suc n) r enough good all ends none =
      part_step item (pieces x) [] (val x) (val x ∷ []) r (λ y. cond (test y.1) (fixed_end between y.1 >>= list_at test between item n >>= (λ z. Ok (y.0 ∷ z.0, z.1))) (Ok (y.0 ∷ [], y.1)))
      (item_out x good r ends) (rw none refl)
  list_out item_out goes_on between_ends x (y ∷ ys) (suc n) r enough good all ends none =
      let rest : List Piece = pieces y ++ later ys in
      let join : B × List ℕ → Result (List B × List ℕ) ℕ = λ z. cond (test z.1) (fixed_end between z.1 >>= list_at test between item n >>= (λ w. Ok (z.0 ∷ w.0, w.1))) (Ok (z.0 ∷ [], z.1)) in
      let e : text_of_pieces (plain between ∷ (pieces y ++ later ys)) ++ r ≡ between ++ (text_of_pieces (pieces y ++ later ys) ++ r) = append_assoc between (text_of_pieces (pieces y ++ later ys)) r in
      let again = list_out item_out goes_on between_ends y ys n r (omega arith) all.0 all.1 ends none in
      let yes_more : test (text_of_pieces (plain between ∷ (pieces y ++ later ys)) ++ r) ≡ true = ap test e ∙ goes_on (text_of_pieces (pieces y ++ later ys) ++ r) in
      let ends_here : Ends (text_of_pieces (plain between ∷ (pieces y ++ later ys)) ++ r) = rw e (between_ends (text_of_pieces (pieces y ++ later ys) ++ r)) in
      let tail : join (val x, text_of_pieces (plain between ∷ (pieces y ++ later ys)) ++ r) ≡ out (plain between ∷ (pieces y ++ later ys)) (val x ∷ val y ∷ map val ys) r =
      rw yes_more (bind_assoc (fixed_end between (text_of_pieces (plain between ∷ (pieces y ++ later ys)) ++ r)) (list_at test between item n) (λ w. Ok (val x ∷ w.0, w.1))
      ∙ fixed_step between rest r (λ s. list_at test between item n s >>= λ w. Ok (val x ∷ w.0, w.1))
      ∙ ap (λ q. q >>= λ w. Ok (val x ∷ w.0, w.1)) again
      ∙ map_out rest (val y ∷ map val ys) r (λ (bs : List B). val x ∷ bs)) in
      part_step item (pieces x) (plain between ∷ rest) (val x) (val x ∷ val y ∷ map val ys) r join (item_out x good (text_of_pieces (plain between ∷ rest) ++ r) ends_here) tail

-- items as long as one follows
module _ {A B : Type 0} (test : List ℕ → Bool) (item : List ℕ → Result (B × List ℕ) ℕ) (pieces : A → List Piece) (val : A → B) (Good : A → Type 0) (Ends : List ℕ → Type 0) where
  pub many_out : (item_out : (x : A) → Good x → (r : List ℕ) → Ends r → item (text_of_pieces (pieces x) ++ r) ≡ out (pieces x) (val x) r) → (goes_on : (x : A) → Good x → (r : List ℕ) → Ends r → test (text_of_pieces (pieces x) ++ r) ≡ true) → (item_ends : (x : A) → Good x → (r : List ℕ) → Ends r → Ends (text_of_pieces (pieces x) ++ r)) →
      (xs : List A) (n : ℕ) (r : List ℕ) → length xs < n → AllByRecursion Good xs → Ends r → test r ≡ false →
      many_at test item n (text_of_pieces (each pieces xs) ++ r) ≡ out (each pieces xs) (map val xs) r
  many_out item_out goes_on item_ends xs zero r enough all ends none = absurd (omega arith)
  many_out item_out goes_on item_ends [] (suc n) r enough all ends none = rw none refl
  many_out item_out goes_on item_ends (x ∷ xs) (suc n) r enough all ends none =
      let rest_ends : Ends (text_of_pieces (each pieces xs) ++ r) = ends_of xs all.1 in
      let here : test (text_of_pieces (pieces x ++ each pieces xs) ++ r) ≡ true = ap test (text_split (pieces x) (each pieces xs) r) ∙ goes_on x all.0 (text_of_pieces (each pieces xs) ++ r) rest_ends in
      rw here (part_step item (pieces x) (each pieces xs) (val x) (val x ∷ map val xs) r (λ y. many_at test item n y.1 >>= λ z. Ok (y.0 ∷ z.0, z.1)) (item_out x all.0 (text_of_pieces (each pieces xs) ++ r) rest_ends)
      (ap (λ q. q >>= λ z. Ok (val x ∷ z.0, z.1)) (many_out item_out goes_on item_ends xs n r (omega arith) all.1 ends none)
      ∙ map_out (each pieces xs) (map val xs) r (λ (bs : List B). val x ∷ bs)))
    where
      ends_of : (ys : List A) → AllByRecursion Good ys → Ends (text_of_pieces (each pieces ys) ++ r)
      ends_of [] h = ends
      ends_of (y ∷ ys) h = rw (text_split (pieces y) (each pieces ys) r) (item_ends y h.0 (text_of_pieces (each pieces ys) ++ r) (ends_of ys h.1))
