-- Answers that are handed on, from a call and from inside of a loop.
use Rattle.std.proofs.Common.{◌≡◌, ℕ, ◌<◌, List, length, get_or, Ok, Err, sym, subst}
use Rattle.std.proofs.lemmas.List.Elements.{Contains-get_or}
use Rattle.std.specs.List.{Contains}
use Rattle.std.specs.Prelude.{Result, IfOk, IfErr, OnOk, IsOkAnd, IsErrAnd}
use Rattle.lois_base.specs.Atom.{Atom}
use Rattle.lois_base.specs.Data.{TermD}
use Rattle.lois_base.specs.Tree.{tree}
use Rattle.lois_base.specs.Values.{point}
use Rattle.lois_base.specs.declared.values.Term.{Term}
use Rattle.lois_meaning.specs.Expressions.{Makes, Gives}
use Rattle.lois_meaning.specs.Store.{IsShallow}
use Rattle.lois_meaning.specs.declared.faults.Fault.{Fault}
use Rattle.lois_meaning.specs.declared.faults.Stop.{Stop}
use Rattle.lois_meaning.specs.declared.faults.Stop.TheVariants as Stops
use Rattle.lois_eval.specs.Checks.{IsTruncated, IsTruncatedFrom}
use Rattle.lois_script.specs.Tree.{ExprD}
use Rattle.lois_context.specs.Choices.{IsAdmitted}
use Rattle.lois_context.specs.declared.contexts.Context.{Context}
use Rattle.lois_eval.specs.Evaluated.{IsTermOf}
use Rattle.lois_eval.specs.Throughout.{IfFault}
use Rattle.lois_eval.specs.WellFormed.{IsWellFormed}
use Rattle.lois_eval.proofs.FaultsAt.{if_fault}

pub handed_fault : {A B : Type 0} (r : Result A Stop) (given : Result B Stop) (n : ℕ) (P Q : Fault → Type 0) → IfErr r (λ s. IfFault s (λ f. IsErrAnd given (λ t. IsTruncated n f t))) → IfErr given (λ t. IfFault t P) → ((f g : Fault) → P g → IsTruncatedFrom n f g → Q f) → IfErr r (λ s. IfFault s Q)
handed_fault (Ok x) given n P Q h i to = tt
handed_fault (Err Stops.NoMemory) given n P Q h i to = tt
handed_fault (Err (Stops.Fault f)) (Ok y) n P Q h i to = absurd h
handed_fault (Err (Stops.Fault f)) (Err (Stops.Fault g)) n P Q h i to = to f g i h
handed_fault (Err (Stops.Fault f)) (Err Stops.NoMemory) n P Q h i to = absurd h

pub handed_same : {A : Type 0} (r given : Result A Stop) (P Q : A → Type 0) → IfOk r (λ x. IsOkAnd given (λ y. x ≡ y)) → IfOk given P → ((x : A) → P x → Q x) → IfOk r Q
handed_same (Ok x) (Ok y) P Q h i to = to x (subst P (sym h) i)
handed_same (Ok x) (Err t) P Q h i to = absurd h
handed_same (Err s) given P Q h i to = tt

pub handed_ok : {A B : Type 0} (r : Result A Stop) (given : Result B Stop) (One Two Three : A → B → Type 0) (P : B → Type 0) (Q : A → Type 0) → IfOk r (λ x. IsOkAnd given (One x)) → IfOk r (λ x. IsOkAnd given (Two x)) → IfOk r (λ x. IsOkAnd given (Three x)) → IfOk given P →
    ((x : A) (y : B) → One x y → Two x y → Three x y → P y → Q x) → IfOk r Q
handed_ok (Ok x) (Ok y) One Two Three P Q a b c i to = to x y a b c i
handed_ok (Ok x) (Err t) One Two Three P Q a b c i to = absurd a
handed_ok (Err s) given One Two Three P Q a b c i to = tt

-- what is made and isn't too deep is given
pub term_given : (k : Context) (e : ExprD) (m : TermD) (r : Result Term Stop) → IsTermOf k (Makes e) (IsWellFormed e) m → IfOk r (λ t. tree t ≡ m) → OnOk r ((c : List Atom) → IsAdmitted c k → IsShallow (point m c)) → IfOk r (λ t. IsTermOf k (Gives e) (IsWellFormed e) (tree t))
term_given k e m (Ok t) made same shallow = subst (IsTermOf k (Gives e) (IsWellFormed e)) (sym same) (record {
  value = λ c a. (made.value c a, shallow c a);
  levels = made.levels;
  operators = made.operators;
  widths = made.widths;
})
term_given k e m (Err s) made same shallow = tt

-- what is handed on as it is
pub err_weaker : {A : Type 0} (r : Result A Stop) (P Q : Fault → Type 0) → ((f : Fault) → P f → Q f) → IfErr r (λ t. IfFault t P) → IfErr r (λ t. IfFault t Q)
err_weaker (Ok x) P Q to h = tt
err_weaker (Err s) P Q to h = if_fault s P Q to h

-- what is known twice of a fault
pub both_faults : (s : Stop) (P Q : Fault → Type 0) → IfFault s P → IfFault s Q → IfFault s (λ f. P f × Q f)
both_faults (Stops.Fault f) P Q p q = (p, q)
both_faults Stops.NoMemory P Q p q = tt

-- whatever the fault is
pub err_always : {A : Type 0} (r : Result A Stop) (P : Fault → Type 0) → ((f : Fault) → P f) → IfErr r (λ s. IfFault s P)
err_always (Ok x) P h = tt
err_always (Err (Stops.Fault f)) P h = h f
err_always (Err Stops.NoMemory) P h = tt

-- an error that `?` hands on
pub passed_on : {A : Type 0} (r : Result A Stop) (s : Stop) (P Q : Fault → Type 0) → IsErrAnd r (λ t. t ≡ s) → ((f : Fault) → P f → Q f) → IfFault s P → IfErr r (λ t. IfFault t Q)
passed_on (Ok x) s P Q same to h = absurd same
passed_on (Err t) s P Q same to h = if_fault t P Q to (subst (λ z. IfFault z P) (sym same) h)

pub both_ok : {A E : Type 0} (r : Result A E) (P Q R : A → Type 0) → IfOk r P → IfOk r Q → ((x : A) → P x → Q x → R x) → IfOk r R
both_ok (Ok x) P Q R p q to = to x p q
both_ok (Err e) P Q R p q to = tt

pub three_ok : {A E : Type 0} (r : Result A E) (P Q R S : A → Type 0) → IfOk r P → IfOk r Q → IfOk r R → ((x : A) → P x → Q x → R x → S x) → IfOk r S
three_ok (Ok x) P Q R S p q s to = to x p q s
three_ok (Err e) P Q R S p q s to = tt

pub four_ok : {A E : Type 0} (r : Result A E) (P Q R S T : A → Type 0) → IfOk r P → IfOk r Q → IfOk r R → IfOk r S → ((x : A) → P x → Q x → R x → S x → T x) → IfOk r T
four_ok (Ok x) P Q R S T p q s u to = to x p q s u
four_ok (Err e) P Q R S T p q s u to = tt

-- an item of a list is one of its items
pub item_there : {A : Type 0} (xs : List A) (i : ℕ) (x : A) → i < length xs → x ≡ get_or xs i x → Contains xs x
item_there xs i x l is = subst (Contains xs) (sym is) (Contains-get_or xs i x l)
