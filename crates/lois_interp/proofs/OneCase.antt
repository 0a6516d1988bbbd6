-- Contexts that stand place by place for others, and the cases that they become.
use Rattle.std.proofs.Common.{◌≡◌, ℕ, zero, suc, ◌+◌, ◌<◌, ◌≤◌, ◌⊎◌, inl, inr, Bool, true, false, cond, List, [], ◌∷◌, ◌++◌, length, map, get_or, refl, sym, ap, ◌∙◌, subst, arith}
use Rattle.std.specs.List.{All, AllPairs, AllZip, Contains}
use Rattle.std.proofs.lemmas.Bool.{cases_lt}
use Rattle.std.proofs.lemmas.List.{get_or_default, get_or-map, length-map}
use Rattle.std.proofs.lemmas.List.Elements.{All-nil, All-cons, All-head, All-tail, Contains-append_left, Contains-append_right, Contains-push}
use Rattle.lois_base.specs.Atom.{Atom}
use Rattle.lois_answers.specs.ResultsData.{LineD, CaseD}
use Rattle.lois_context.specs.Choices.{IsAdmitted}
use Rattle.lois_context.specs.Counted.{admits, times}
use Rattle.lois_context.specs.Merged.{contents_of, HaveDistinctContents}
use Rattle.lois_context.specs.Slots.{SlotD}
use Rattle.lois_context.specs.declared.contexts.Context.{Context}
use Rattle.lois_context.proofs.Counts.{admits_yes, admits_is, times_cons}
use Rattle.lois_context.proofs.Later.{first_or_later}
use Rattle.lois_interp.specs.Interpreted.{HoldsAt, lines_of}
use Rattle.lois_interp.specs.Printed.{IsCaseOf}
use Rattle.lois_simplify.proofs.Members.{contains_none}

-- ---- lists that stand side by side
first_of : {X : Type 0} (x : X) (xs : List X) → Contains (x ∷ xs) x
first_of x xs = Contains-append_left (x ∷ []) xs x (Contains-push [] x)

later_of : {X : Type 0} (x : X) (xs : List X) (y : X) → Contains xs y → Contains (x ∷ xs) y
later_of x xs y h = Contains-append_right (x ∷ []) xs y h

-- what an item of the second list stands for
pub zip_from : {A B : Type 0} (R : A → B → Type 0) (xs : List A) (ys : List B) → AllZip R xs ys → (y : B) → Contains ys y → (x : A) × Contains xs x × R x y
zip_from R [] [] h y there = absurd (contains_none y there)
zip_from R [] (z ∷ ys) h y there = absurd h
zip_from R (x ∷ xs) [] h y there = absurd h
zip_from R (x ∷ xs) (z ∷ ys) h y there = elim (first_or_later z ys y there) [
  | inl is ↦ (x, first_of x xs, subst (R x) is h.0)
  | inr later ↦ let r = zip_from R xs ys h.1 y later in (r.0, later_of x xs r.0 r.1, r.2)
]

-- ---- how many contexts admit a choice
pub times_alike : (R : Context → Context → Type 0) → ((c : List Atom) (k d : Context) → R k d → admits c d ≡ admits c k) → (c : List Atom) (ks ds : List Context) → AllZip R ks ds → times c ds ≡ times c ks
times_alike R like c [] [] h = refl
times_alike R like c [] (d ∷ ds) h = absurd h
times_alike R like c (k ∷ ks) [] h = absurd h
times_alike R like c (k ∷ ks) (d ∷ ds) h =
    times_cons c d ds ∙ (ap (λ b. cond b 1 0 + times c ds) (like c k d h.0) ∙ (ap (λ n. cond (admits c k) 1 0 + n) (times_alike R like c ks ds h.1) ∙ sym (times_cons c k ks)))

pub one_admits : (c : List Atom) (k : Context) → IsAdmitted c k → times c (k ∷ []) ≡ 1
one_admits c k adm = times_cons c k [] ∙ ap (λ b. cond b 1 0 + 0) (admits_yes c k adm)

-- ---- the one case that holds at a choice
pub record Picked (c : List Atom) (ms : List Context) (cs : List CaseD) : Type 0 where
  pub before : List CaseD
  pub one : CaseD
  pub behind : List CaseD
  pub among : cs ≡ before ++ one ∷ behind
  pub here : HoldsAt c one
  pub none_before : All (λ e. HoldsAt c e → ⊥) before
  pub none_behind : All (λ e. HoldsAt c e → ⊥) behind
  pub from : Context
  pub there : Contains ms from
  pub admitted : IsAdmitted c from
  pub lines : one.lines ≡ from.lines

module _ (c : List Atom) (n : ℕ) (count : length c ≡ n) where
  holding : (m : Context) (e : CaseD) → m.size ≡ n → IsCaseOf m e → HoldsAt c e → admits c m ≡ true
  holding m e size is h = admits_yes c m (count ∙ sym size, sym (is.truth c) ∙ h)

  counted : (m : Context) (ms : List Context) (b : Bool) → admits c m ≡ b → times c (m ∷ ms) ≡ cond b 1 0 + times c ms
  counted m ms b e = times_cons c m ms ∙ ap (λ z. cond z 1 0 + times c ms) e

  none_holds : (ms : List Context) (cs : List CaseD) → AllZip IsCaseOf ms cs → All (λ m. m.size ≡ n) ms → times c ms ≡ 0 → All (λ e. HoldsAt c e → ⊥) cs
  none_holds [] [] zips sizes none = All-nil (λ e. HoldsAt c e → ⊥)
  none_holds [] (e ∷ cs) zips sizes none = absurd zips
  none_holds (m ∷ ms) [] zips sizes none = absurd zips
  none_holds (m ∷ ms) (e ∷ cs) zips sizes none = go (admits c m) refl (none_holds ms cs zips.1 (All-tail (λ m. m.size ≡ n) m ms sizes))
    where
      go : (b : Bool) → admits c m ≡ b → (times c ms ≡ 0 → All (λ e. HoldsAt c e → ⊥) cs) → All (λ e. HoldsAt c e → ⊥) (e ∷ cs)
      go true is later = let all = counted m ms true is in absurd (omega (arith, all, none))
      go false is later =
          let all = counted m ms false is in
          let size = All-head (λ m. m.size ≡ n) m ms sizes in
          All-cons (λ e. HoldsAt c e → ⊥) e cs (λ h. let bad : true ≡ false = sym (holding m e size zips.0 h) ∙ is in absurd (cc)) (later (omega (arith, all, none)))

  pub pick : (ms : List Context) (cs : List CaseD) → AllZip IsCaseOf ms cs → All (λ m. m.size ≡ n) ms → times c ms ≡ 1 → Picked c ms cs
  pick [] [] zips sizes once = absurd (omega (arith, once))
  pick [] (e ∷ cs) zips sizes once = absurd zips
  pick (m ∷ ms) [] zips sizes once = absurd zips
  pick (m ∷ ms) (e ∷ cs) zips sizes once = go (admits c m) refl (pick ms cs zips.1 (All-tail (λ m. m.size ≡ n) m ms sizes))
    where
      go : (b : Bool) → admits c m ≡ b → (times c ms ≡ 1 → Picked c ms cs) → Picked c (m ∷ ms) (e ∷ cs)
      go true is later =
          let all = counted m ms true is in
          let adm : IsAdmitted c m = admits_is c m is in
          record {
            before = [];
            one = e;
            behind = cs;
            among = refl;
            here = zips.0.truth c ∙ adm.1;
            none_before = All-nil (λ e. HoldsAt c e → ⊥);
            none_behind = none_holds ms cs zips.1 (All-tail (λ m. m.size ≡ n) m ms sizes) (omega (arith, all, once));
            from = m;
            there = first_of m ms;
            admitted = adm;
            lines = zips.0.lines;
          }
      go false is later =
          let all = counted m ms false is in
          let size = All-head (λ m. m.size ≡ n) m ms sizes in
          let r : Picked c ms cs = later (omega (arith, all, once)) in
          record {
            before = e ∷ r.before;
            one = r.one;
            behind = r.behind;
            among = ap (λ l. e ∷ l) r.among;
            here = r.here;
            none_before = All-cons (λ e. HoldsAt c e → ⊥) e r.before (λ h. let bad : true ≡ false = sym (holding m e size zips.0 h) ∙ is in absurd (cc)) r.none_before;
            none_behind = r.none_behind;
            from = r.from;
            there = later_of m ms r.from r.there;
            admitted = r.admitted;
            lines = r.lines;
          }

-- ---- contexts that are different
at_held : (ms : List Context) (i : ℕ) (m : Context) (d : ℕ × List SlotD × List LineD) → i < length ms → get_or ms i m ≡ m → get_or (map contents_of ms) i d ≡ contents_of m
at_held ms i m d l is = get_or-map contents_of ms i m d l ∙ ap contents_of is

-- of different contexts none holds what another holds
pub same_held : (ms : List Context) → HaveDistinctContents ms → (x y : Context) → Contains ms x → Contains ms y → contents_of x ≡ contents_of y → x ≡ y
same_held ms apart x y (i, li, isx) (j, lj, isy) e = go (cases_lt i j) (cases_lt j i)
  where
    long : length (map contents_of ms) ≡ length ms
    long = length-map ms contents_of

    go : (i < j) ⊎ (j ≤ i) → (j < i) ⊎ (i ≤ j) → x ≡ y
    go (inl l) w = absurd (apart i j (contents_of x) l (omega (arith, long, lj)) (at_held ms i x (contents_of x) li isx ∙ (e ∙ sym (at_held ms j y (contents_of x) lj isy))))
    go (inr w) (inl l) = absurd (apart j i (contents_of x) l (omega (arith, long, li)) (at_held ms j y (contents_of x) lj isy ∙ (sym e ∙ sym (at_held ms i x (contents_of x) li isx))))
    go (inr v) (inr w) =
        let same : i ≡ j = omega (arith, v, w) in
        sym isx ∙ (ap (λ k. get_or ms k x) same ∙ (get_or_default ms j x y lj ∙ isy))

-- one case's lines are another's only where their contexts hold the same
lines_apart : (x y : Context) (e f : CaseD) → x.size ≡ y.size → x.store ≡ y.store → IsCaseOf x e → IsCaseOf y f → lines_of e ≡ lines_of f → contents_of x ≡ contents_of y
lines_apart x y e f size store a b same =
    ap (λ (z : ℕ). (z, x.store, x.lines)) size ∙ (ap (λ (z : List SlotD). (y.size, z, x.lines)) store ∙ ap (λ (z : List LineD). (y.size, y.store, z)) (sym a.lines ∙ (same ∙ b.lines)))

zip_at : (ms : List Context) (cs : List CaseD) (i : ℕ) (d : Context) (e : CaseD) → AllZip IsCaseOf ms cs → i < length ms → IsCaseOf (get_or ms i d) (get_or cs i e)
zip_at [] cs i d e h l = absurd (omega (arith, l))
zip_at (m ∷ ms) [] i d e h l = absurd h
zip_at (m ∷ ms) (x ∷ cs) zero d e h l = h.0
zip_at (m ∷ ms) (x ∷ cs) (suc i) d e h l = zip_at ms cs i d e h.1 (omega (arith, l))

zip_long : (ms : List Context) (cs : List CaseD) → AllZip IsCaseOf ms cs → length ms ≡ length cs
zip_long [] [] h = refl
zip_long [] (x ∷ cs) h = absurd h
zip_long (m ∷ ms) [] h = absurd h
zip_long (m ∷ ms) (x ∷ cs) h = ap suc (zip_long ms cs h.1)

pub cases_apart : (n : ℕ) (ms : List Context) (cs : List CaseD) → AllZip IsCaseOf ms cs → All (λ m. m.size ≡ n) ms → All (λ m. m.store ≡ []) ms → HaveDistinctContents ms → AllPairs (λ x y. x ≡ y → ⊥) (map lines_of cs)
cases_apart n [] [] zips sizes stores apart = λ i j d l m. absurd (omega (arith, m))
cases_apart n [] (x ∷ cs) zips sizes stores apart = absurd zips
cases_apart n (m ∷ ms) [] zips sizes stores apart = absurd zips
cases_apart n (m ∷ ms) (x ∷ cs) zips sizes stores apart = λ i j d l lj same.
    let all = m ∷ ms in
    let every = x ∷ cs in
    let long : length (map lines_of every) ≡ length every = length-map every lines_of in
    let wide : length all ≡ length every = zip_long all every zips in
    let counted : length (map contents_of all) ≡ length all = length-map all contents_of in
    let in_j : j < length every = omega (arith, long, lj) in
    let in_i : i < length every = omega (arith, l, in_j) in
    let of_j : j < length all = omega (arith, wide, in_j) in
    let of_i : i < length all = omega (arith, wide, in_i) in
    let p = get_or all i m in
    let q = get_or all j m in
    let alike : lines_of (get_or every i x) ≡ lines_of (get_or every j x) = sym (get_or-map lines_of every i x d in_i) ∙ (same ∙ get_or-map lines_of every j x d in_j) in
    let held : contents_of p ≡ contents_of q = lines_apart p q (get_or every i x) (get_or every j x) (sizes i m of_i ∙ sym (sizes j m of_j)) (stores i m of_i ∙ sym (stores j m of_j)) (zip_at all every i m x zips of_i) (zip_at all every j m x zips of_j) alike in
    apart i j (contents_of m) l (omega (arith, counted, of_j)) (get_or-map contents_of all i m (contents_of m) of_i ∙ (held ∙ sym (get_or-map contents_of all j m (contents_of m) of_j)))
