-- What is told of results has no `<=`, since a member is written in a line of one of them.
use Rattle.std.proofs.Common.{ℕ, Bool, true, false, inl, inr, List, ◌∷◌, length, sym, subst}
use Rattle.std.specs.List.{All}
use Rattle.std.proofs.lemmas.List.Elements.{All-head}
use Rattle.lois_base.specs.Atom.{Atom}
use Rattle.lois_base.specs.Data.{TermD, coll, CompD, comp, CompsD, no_comps, more}
use Rattle.lois_base.specs.Tree.{tree}
use Rattle.lois_base.specs.Truth.{sampled}
use Rattle.lois_base.specs.Validity.{CompIsStrict, ItemsAreStrict, IsStrictTerm}
use Rattle.lois_base.specs.Values.{PointValue, point, MakesAt, MemberAt, IsMemberOf}
use Rattle.lois_base.proofs.Lists.{all_right}
use Rattle.lois_answers.specs.ResultsData.{LineD}
use Rattle.lois_answers.specs.Sound.{IsSound, IsSoundCase, IsSoundLine}
use Rattle.lois_answers.specs.declared.results.Results.{Results}
use Rattle.lois_shortest_word.specs.Words.{first_sampled}
use Rattle.lois_same.specs.Contrasts.{IsLine, IsInOneAlone, IsDetail, DetailIsStrict, ContrastIsStrict}
use Rattle.lois_same.specs.Rows.{IsCasesContrast}
use Rattle.lois_same.specs.declared.contrasts.Contrast.{Contrast}
use Rattle.lois_same.specs.declared.contrasts.Detail.{Detail}
use Rattle.lois_same.specs.declared.contrasts.Detail.TheVariants.{Count, Names, Values, Member}
use Rattle.lois_same.proofs.SameCases.{of_case}

-- ---- a member of a set without `<=`
made_strict : (w : TermD) (x : List Atom) (k : CompD) (c : List Atom) → CompIsStrict k → MakesAt w x k c → IsStrictTerm w
made_strict w x (comp m g t) c strict made = subst IsStrictTerm (sym made.2) strict.1

item_strict : (w : TermD) (x : List Atom) (ks : CompsD) (c : List Atom) → ItemsAreStrict ks → MemberAt w x ks c → IsStrictTerm w
item_strict w x no_comps c strict member = absurd member
item_strict w x (more k ks) c strict (inl member) = made_strict w x k c strict.0 member
item_strict w x (more k ks) c strict (inr member) = item_strict w x ks c strict.1 member

member_strict : (w : TermD) (x : List Atom) (t : TermD) (c : List Atom) → IsStrictTerm t → IsMemberOf w x t c → IsStrictTerm w
member_strict w x (coll ks) c strict member = item_strict w x ks c strict member
member_strict w x _ c strict member = absurd member

one_strict : (first : Bool) (u v w : PointValue) → IsStrictTerm v.term_of → IsStrictTerm w.term_of → IsInOneAlone first u v w → IsStrictTerm u.term_of
one_strict true u v w strict other alone = member_strict u.term_of u.choice v.term_of v.choice strict alone.0
one_strict false u v w strict other alone = member_strict u.term_of u.choice w.term_of w.choice other alone.0

-- ---- a detail of sound lines
line_strict : (o : Bool) (n : ℕ) (lines : List LineD) (i : ℕ) (l : LineD) → IsLine lines i l → All (IsSoundLine o n) lines → IsStrictTerm l.term
line_strict o n lines i l line h =
    (All-head (IsSoundLine o n) l line.behind (all_right (IsSoundLine o n) line.before (l ∷ line.behind) (subst (All (IsSoundLine o n)) line.among h))).term.strict

module _ (o p : Bool) (m n k : ℕ) (s : List ℕ) (ls ms : List LineD) (sound : All (IsSoundLine o m) ls) (others : All (IsSoundLine p n) ms) where
  detail_strict : (d : Detail) → IsDetail k s ls ms d → DetailIsStrict d
  detail_strict (Count i j) is = tt
  detail_strict (Names i a b) is = tt
  detail_strict (Values i a) is = tt
  detail_strict (Member i a t first) (l, q, line, other, told) =
      one_strict first (point (tree t) (sampled s)) (point l.term (first_sampled k s)) (point q.term (first_sampled k s)) (line_strict o m ls i l line sound) (line_strict p n ms i q other others) told.3

pub contrast_is_strict : (n : ℕ) (r q : Results) → IsSound r → IsSound q → (d : Contrast) → IsCasesContrast n r.cases q.cases d → ContrastIsStrict d
contrast_is_strict n r q sound other d (k, case, (l, partner, pair)) =
    detail_strict r.order q.order (length r.parameters) (length q.parameters) n d.sample k.lines l.lines (of_case (IsSoundCase r.order (length r.parameters)) r.cases d.first k case sound.cases).lines (of_case (IsSoundCase q.order (length q.parameters)) q.cases d.second l partner other.cases).lines d.detail pair.detail
