-- What the memo decider keeps after a question.
use Rattle.std.specs.Prelude.{◌≡◌, ℕ, ◌⊎◌, List, Option}
use Rattle.std.specs.Global.{Vec}
use Rattle.std.specs.Option.{option_map}
use Rattle.lois_base.specs.Atom.{Atom}
use Rattle.lois_base.specs.Truth.{cube_holds}
use Rattle.lois_base.specs.declared.guards.Lit.{Lit}
use Rattle.lru.specs.LruCache.{LruCache, promoted, put_entries}
use Rattle.lois_deciders.specs.contracts.questions.QuestionPartialEq.TheImpl.{eq-value}
use Rattle.lois_deciders.specs.declared.questions.Question.{Question}

abbrev pub Kept : Type 0
Kept = LruCache Question (Option (Vec ℕ))

abbrev pub numbers_of : Option (Vec ℕ) → Option (List ℕ)
numbers_of o = option_map (λ v. v.items) o

-- the same numbers were put as the answer to the question
pub record HasPut (q : Question) (answer : Option (Vec ℕ)) (before after : Kept) : Type 0 where
  pub copy : Option (Vec ℕ)
  pub same : numbers_of copy ≡ numbers_of answer
  pub entries : after.entries ≡ put_entries eq-value.it before q copy

-- a question about the cube at n levels
pub record IsAbout (n : ℕ) (cube : List Lit) (q : Question) : Type 0 where
  pub size : q.size ≡ n
  pub truth : (c : List Atom) → cube_holds c q.literals.items ≡ cube_holds c cube

-- the answer that was kept to the question is now the one that was used last, or an answer to it was put
abbrev pub HasUsed : Question → Kept → Kept → Type 0
HasUsed q before after =
    (after.entries ≡ promoted (eq-value.it q) before.entries) ⊎ ((answer : Option (Vec ℕ)) × (after.entries ≡ put_entries eq-value.it before q answer))

-- after a question about the cube: all is kept as before, or an answer to this question was used or put
abbrev pub KeepsAnswers : ℕ → List Lit → Kept → Kept → Type 0
KeepsAnswers n cube before after =
    (after.entries ≡ before.entries) ⊎ ((q : Question) × IsAbout n cube q × HasUsed q before after)
