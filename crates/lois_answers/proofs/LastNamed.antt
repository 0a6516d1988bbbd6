-- The last line of a name among lines, and one more.
use Rattle.std.proofs.Common.{◌≡◌, ℕ, ◌+◌, ◌<◌, List, [], ◌∷◌, ◌++◌, length, get_or, take, map, true, false, Bool, Some, refl, ap, ◌∙◌, bytes_eq}
use Rattle.std.specs.Prelude.{if◌then◌else◌}
use Rattle.lois_base.proofs.Viewed.{one_more}
use Rattle.lois_answers.specs.ResultsData.{LineD}
use Rattle.lois_answers.specs.LastNamed.{lines_named, last_line, last_named}

last_pushed : (lines : List LineD) (l : LineD) → last_line (lines ++ l ∷ []) ≡ Some l
last_pushed [] l = refl
last_pushed (a ∷ []) l = refl
last_pushed (a ∷ b ∷ lines) l = last_pushed (b ∷ lines) l

-- one more line counts where it has the name
abbrev counted : Bool → List LineD → LineD → List LineD
counted true lines l = lines ++ l ∷ []
counted false lines l = lines

named_pushed : (name : List ℕ) (lines : List LineD) (l : LineD) → lines_named name (lines ++ l ∷ []) ≡ counted (bytes_eq l.name name) (lines_named name lines) l
named_pushed name [] l = chosen (bytes_eq l.name name) refl
  where
    chosen : (b : Bool) → bytes_eq l.name name ≡ b → lines_named name (l ∷ []) ≡ counted (bytes_eq l.name name) [] l
    chosen true e = rw e refl
    chosen false e = rw e refl
named_pushed name (a ∷ lines) l = chosen (bytes_eq a.name name) (bytes_eq l.name name) refl refl (named_pushed name lines l)
  where
    chosen : (b d : Bool) → bytes_eq a.name name ≡ b → bytes_eq l.name name ≡ d → lines_named name (lines ++ l ∷ []) ≡ counted (bytes_eq l.name name) (lines_named name lines) l → lines_named name (a ∷ lines ++ l ∷ []) ≡ counted (bytes_eq l.name name) (lines_named name (a ∷ lines)) l
    chosen true true e f rest = rw (e, f) (ap (λ z. a ∷ z) (rest ∙ rw f refl))
    chosen true false e f rest = rw (e, f) (ap (λ z. a ∷ z) (rest ∙ rw f refl))
    chosen false true e f rest = rw (e, f) (rest ∙ rw f refl)
    chosen false false e f rest = rw (e, f) (rest ∙ rw f refl)

last_counted : (b : Bool) (lines : List LineD) (l : LineD) → last_line (counted b lines l) ≡ (if b then Some l else last_line lines)
last_counted true lines l = last_pushed lines l
last_counted false lines l = refl

module _ {X : Type 0} (f : X → LineD) where
  pub named_more : (name : List ℕ) (xs : List X) (i : ℕ) (x : X) → i < length xs → x ≡ get_or xs i x → last_named name (map f (take (i + 1) xs)) ≡ (if bytes_eq (f x).name name then Some (f x) else last_named name (map f (take i xs)))
  named_more name xs i x l e = ap (last_named name) (one_more f xs i x l e) ∙ (ap last_line (named_pushed name (map f (take i xs)) (f x)) ∙ last_counted (bytes_eq (f x).name name) (lines_named name (map f (take i xs))) (f x))
