-- At most the chosen decider was asked.
use Rattle.std.proofs.Common.{◌≡◌, ℕ, ◌<◌, length, map, get_or, set, refl, sym, ap, ◌∙◌, subst, arith}
use Rattle.std.proofs.Math.Seq.{map-set_same}
use Rattle.std.proofs.lemmas.List.{get_or_default, get_or-set_same, get_or-set_other}
use Rattle.std.specs.declared.alloc.Global.{Global}
use Rattle.std.specs.declared.dyn_box.DynBox.{DynBox}
use Rattle.lois_base.specs.Theory.{risen}
use Rattle.lois_base.specs.declared.deciding.Kind.{Kind}
use Rattle.lois_deciders.specs.QuestionCounts.{IsNoLower}
use Rattle.lois_deciders.specs.OnlyAsked.{HasOnlyAsked}
use Rattle.lois_deciders.specs.declared.chosen.Chosen.{Chosen}

pub no_lower_at_first : (n : ℕ) → IsNoLower n n
no_lower_at_first n = λ l. (omega arith, l)

pub no_lower_then : (a b c : ℕ) → IsNoLower a b → IsNoLower b c → IsNoLower a c
no_lower_then a b c h k = λ l.
    let p = h l in
    let q = k p.1 in
    (omega (arith, p.0, q.0), q.1)

risen_no_lower : (n : ℕ) → IsNoLower n (risen n)
risen_no_lower n = λ l. (omega (arith, l), omega (arith, l))

pub no_lower_risen : (a b c : ℕ) → IsNoLower a b → c ≡ risen b → IsNoLower a c
no_lower_risen a b c h e = subst (IsNoLower a) (sym e) (no_lower_then a b (risen b) h (risen_no_lower b))

module _ {V : Type 0} {At : V → Type 0} (kind_of : DynBox V Global At → Kind) (questions : DynBox V Global At → ℕ) where
  -- nothing was asked
  pub only_asked_nothing : (k : Chosen V At) → HasOnlyAsked kind_of questions k k
  only_asked_nothing k = record {
    position = refl;
    kinds = refl;
    others = λ i apart d. refl;
    count = λ d. no_lower_at_first (questions (get_or k.deciders.items k.position d));
  }

  -- one question and then another
  pub only_asked_then : (a b c : Chosen V At) → HasOnlyAsked kind_of questions a b → HasOnlyAsked kind_of questions b c → HasOnlyAsked kind_of questions a c
  only_asked_then a b c h k = record {
    position = k.position ∙ h.position;
    kinds = k.kinds ∙ h.kinds;
    others = λ i apart d. k.others i (λ e. apart (e ∙ h.position)) d ∙ h.others i apart d;
    count = λ d.
        let later : IsNoLower (questions (get_or b.deciders.items a.position d)) (questions (get_or c.deciders.items a.position d)) = subst (λ p. IsNoLower (questions (get_or b.deciders.items p d)) (questions (get_or c.deciders.items p d))) h.position (k.count d) in
        no_lower_then (questions (get_or a.deciders.items a.position d)) (questions (get_or b.deciders.items a.position d)) (questions (get_or c.deciders.items a.position d)) (h.count d) later;
  }

  -- the chosen decider is put back after a question
  pub only_asked_one : (a b : Chosen V At) (x y : DynBox V Global At) → a.position < length a.deciders.items → x ≡ get_or a.deciders.items a.position x →
      b.position ≡ a.position → b.deciders.items ≡ set a.deciders.items a.position y →
      kind_of y ≡ kind_of x → IsNoLower (questions x) (questions y) → HasOnlyAsked kind_of questions a b
  only_asked_one a b x y l is position put kind more = record {
    position = position;
    kinds = ap (map kind_of) put ∙ map-set_same kind_of a.deciders.items a.position y x (kind ∙ ap kind_of is);
    others = λ i apart d. ap (λ items. get_or items i d) put ∙ get_or-set_other a.deciders.items a.position i y d apart;
    count = λ d.
        let was : x ≡ get_or a.deciders.items a.position d = is ∙ get_or_default a.deciders.items a.position x d l in
        let now : y ≡ get_or b.deciders.items a.position d = sym (ap (λ items. get_or items a.position d) put ∙ get_or-set_same a.deciders.items a.position y d l) in
        subst (λ v. IsNoLower (questions v) (questions (get_or b.deciders.items a.position d))) was (subst (λ v. IsNoLower (questions x) (questions v)) now more);
  }
