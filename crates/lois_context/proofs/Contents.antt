-- Terms whose sets have further comprehensions at their ends.
use Rattle.std.proofs.Common.{◌≡◌, ℕ, zero, suc, ◌+◌, ◌-◌, ◌<◌, ◌≤◌, inl, inr, ◌↔◌, List, [], ◌∷◌, ◌++◌, length, length-append, get_or, take, drop, append-nil, refl, sym, ap, ◌∙◌, subst, arith}
use Rattle.std.proofs.lemmas.List.{append_assoc, nil_from_length}
use Rattle.std.proofs.Math.Seq.{drop-nil}
use Rattle.std.proofs.lemmas.List.Sums.{fold-append}
use Rattle.std.proofs.lemmas.List.Elements.{Contains-append_left, Contains-append_right}
use Rattle.std.specs.List.{Contains}
use Rattle.lois_base.specs.Data.{TermD, var, tag, tup, coll, CompD, comps_of, depth}
use Rattle.lois_base.specs.ListDepth.{depth_of_comps}
use Rattle.lois_base.specs.Tree.{tree}
use Rattle.lois_base.specs.declared.values.Term.{Term}
use Rattle.lois_base.specs.declared.values.Term.TheVariants.{Var, Tag, Tup, Coll}
use Rattle.lois_base.proofs.Viewed.{rest_is}
use Rattle.lois_terms.specs.Binding.{BindsNothing, CompBindsNothing, ItemsBindNothing}
use Rattle.lois_terms.specs.Collections.{IsColl}
use Rattle.lois_terms.specs.Hash.{mixed, written_hash}
use Rattle.lois_terms.proofs.Heights.{depth_append}
use Rattle.lois_context.specs.Content.{own_count, with_comps, of_tree, of_tree-tree}
use Rattle.lois_context.specs.Put.{IsWithOnce}
use Rattle.lois_context.specs.Entered.{items_listed, comps_listed}
use Rattle.lois_context.specs.Hash.{comps_hash, content_hash}
use Rattle.lois_context.specs.ItemCounts.{comps_in, count_of_items}
use Rattle.lois_context.proofs.Carried.{count_of}
use Rattle.lois_context.proofs.Entered.{listed_of}
use Rattle.lois_context.proofs.Joined.{of_listed}

-- terms with one tree are the same
pub one_term : (s t : Term) → tree s ≡ tree t → s ≡ t
one_term s t e = sym (of_tree-tree s) ∙ (ap of_tree e ∙ of_tree-tree t)

pub with_none : (t : Term) → with_comps t [] ≡ t
with_none (Var i) = refl
with_none (Tag x) = refl
with_none (Tup ts) = refl
with_none (Coll ks) = ap Coll (append-nil ks)

pub with_empty : (t : Term) (ls : List CompD) → length ls ≡ 0 → with_comps t ls ≡ t
with_empty t ls e = ap (with_comps t) (nil_from_length ls e) ∙ with_none t

pub with_twice : (t : Term) (ks ls : List CompD) → with_comps (with_comps t ks) ls ≡ with_comps t (ks ++ ls)
with_twice (Var i) ks ls = refl
with_twice (Tag x) ks ls = refl
with_twice (Tup ts) ks ls = refl
with_twice (Coll js) ks ls = ap Coll (append_assoc js ks ls)

pub own_counted : (t : Term) → own_count t ≡ length (comps_listed (tree t))
own_counted (Var i) = refl
own_counted (Tag x) = refl
own_counted (Tup ts) = refl
own_counted (Coll ks) = ap length (sym (listed_of ks))

-- ---- sets
pub with_set : (t : Term) (ls : List CompD) → IsColl (tree t) ↔ IsColl (tree (with_comps t ls))
with_set (Var i) ls = (λ h. h, λ h. h)
with_set (Tag x) ls = (λ h. h, λ h. h)
with_set (Tup ts) ls = (λ h. h, λ h. h)
with_set (Coll ks) ls = (λ h. (comps_of (ks ++ ls), refl), λ h. (comps_of ks, refl))

pub with_listed : (t : Term) (ls : List CompD) → IsColl (tree t) → comps_listed (tree (with_comps t ls)) ≡ comps_listed (tree t) ++ ls
with_listed (Var i) ls (ks, e) = cc
with_listed (Tag x) ls (ks, e) = cc
with_listed (Tup ts) ls (ks, e) = cc
with_listed (Coll js) ls h = listed_of (js ++ ls) ∙ sym (ap (λ z. z ++ ls) (listed_of js))

-- a set is what its comprehensions are
pub set_of : (t : TermD) → IsColl t → t ≡ coll (comps_of (comps_listed t))
set_of t h = h.1 ∙ sym (ap (λ z. coll (comps_of (comps_listed z))) h.1 ∙ ap coll (of_listed h.0))

pub same_sets : (s t : TermD) → IsColl s → IsColl t → (s ≡ t) ↔ (comps_listed s ≡ comps_listed t)
same_sets s t h k = (ap comps_listed, λ e. set_of s h ∙ (ap (λ z. coll (comps_of z)) e ∙ sym (set_of t k)))

-- a term with so many comprehensions is a set
pub counted_set : (t : TermD) (n : ℕ) → n < comps_in t → IsColl t
counted_set (coll ks) n l = (ks, refl)
counted_set (var i) n l = absurd (omega (arith, l))
counted_set (tag x) n l = absurd (omega (arith, l))
counted_set (tup ts) n l = absurd (omega (arith, l))

-- a comprehension that is there already, and one that is put at the end
pub put_kept : (t : TermD) (k : CompD) → IsColl t → Contains (comps_listed t) k → IsWithOnce t k t
put_kept t k h has = (comps_listed t, inr (has, refl), set_of t h)

pub put_behind : (s t : Term) (k : CompD) → IsColl (tree s) → t ≡ with_comps s (k ∷ []) → IsWithOnce (tree s) k (tree t)
put_behind s t k h is =
    let set : IsColl (tree t) = subst (λ z. IsColl (tree z)) (sym is) ((with_set s (k ∷ [])).0 h) in
    let listed : comps_listed (tree t) ≡ comps_listed (tree s) ++ k ∷ [] = ap (λ z. comps_listed (tree z)) is ∙ with_listed s (k ∷ []) h in
    (comps_listed (tree s) ++ k ∷ [], inl refl, set_of (tree t) set ∙ ap (λ z. coll (comps_of z)) listed)

-- what is among either part is there
pub among_first : (t : Term) (ls : List CompD) (k : CompD) → IsColl (tree t) → Contains (comps_listed (tree t)) k → Contains (comps_listed (tree (with_comps t ls))) k
among_first t ls k h has = subst (λ z. Contains z k) (sym (with_listed t ls h)) (Contains-append_left (comps_listed (tree t)) ls k has)

pub among_second : (t : Term) (ls : List CompD) (k : CompD) → IsColl (tree t) → Contains ls k → Contains (comps_listed (tree (with_comps t ls))) k
among_second t ls k h has = subst (λ z. Contains z k) (sym (with_listed t ls h)) (Contains-append_right (comps_listed (tree t)) ls k has)

-- ---- counts, depths and hashes
pub count_listed : (t : TermD) → comps_in t ≡ length (comps_listed t)
count_listed (coll ks) = ap count_of_items (sym (of_listed ks)) ∙ count_of (items_listed ks)
count_listed (var i) = refl
count_listed (tag x) = refl
count_listed (tup ts) = refl

pub with_count : (t : Term) (ls : List CompD) → IsColl (tree t) → comps_in (tree (with_comps t ls)) ≡ length (comps_listed (tree t)) + length ls
with_count t ls h = count_listed (tree (with_comps t ls)) ∙ (ap length (with_listed t ls h) ∙ length-append (comps_listed (tree t)) ls)

pub with_depth : (t : Term) (ls : List CompD) (n : ℕ) → depth (tree t) ≤ n → depth_of_comps ls < n → depth (tree (with_comps t ls)) ≤ n
with_depth (Var i) ls n h l = h
with_depth (Tag x) ls n h l = h
with_depth (Tup ts) ls n h l = h
with_depth (Coll ks) ls n h l = omega (arith, h, l, depth_append ks ls)

items_unbound : (ks ls : List CompD) → ItemsBindNothing (comps_of ks) → ItemsBindNothing (comps_of ls) → ItemsBindNothing (comps_of (ks ++ ls))
items_unbound [] ls h k = k
items_unbound (c ∷ ks) ls h k = (h.0, items_unbound ks ls h.1 k)

pub with_unbound : (t : Term) (ls : List CompD) → BindsNothing (tree t) → ItemsBindNothing (comps_of ls) → BindsNothing (tree (with_comps t ls))
with_unbound (Var i) ls h k = tt
with_unbound (Tag x) ls h k = tt
with_unbound (Tup ts) ls h k = h
with_unbound (Coll ks) ls h k = items_unbound ks ls h k

-- one comprehension more that binds nothing
pub one_unbound : (ks : List CompD) (c : CompD) → ItemsBindNothing (comps_of ks) → CompBindsNothing c → ItemsBindNothing (comps_of (ks ++ c ∷ []))
one_unbound ks c h k = items_unbound ks (c ∷ []) h (k, tt)

pub with_hash : (t : Term) (ls : List CompD) (h : ℕ) → IsColl (tree t) → content_hash h (tree (with_comps t ls)) ≡ comps_hash (comps_hash h (comps_listed (tree t))) ls
with_hash (Var i) ls h (ks, e) = cc
with_hash (Tag x) ls h (ks, e) = cc
with_hash (Tup ts) ls h (ks, e) = cc
with_hash (Coll js) ls h is =
    ap (comps_hash h) (listed_of (js ++ ls)) ∙ (fold-append (λ a k. mixed a (written_hash k)) h js ls ∙ sym (ap (λ z. comps_hash (comps_hash h z) ls) (listed_of js)))

-- ---- equal terms
pub same_listed : (s t : Term) (ks ls : List CompD) → IsColl (tree s) → IsColl (tree t) → (comps_listed (tree s) ++ ks ≡ comps_listed (tree t) ++ ls) ↔ (tree (with_comps s ks) ≡ tree (with_comps t ls))
same_listed s t ks ls h k =
    let all = same_sets (tree (with_comps s ks)) (tree (with_comps t ls)) ((with_set s ks).0 h) ((with_set t ls).0 k) in (
      λ e. all.1 (with_listed s ks h ∙ (e ∙ sym (with_listed t ls k))),
      λ e. sym (with_listed s ks h) ∙ (all.0 e ∙ with_listed t ls k),
    )

-- lists that are compared item by item
module _ (xs ys : List CompD) (i : ℕ) (x y : CompD) (l : i < length xs) (m : i < length ys) (at_x : (d : CompD) → x ≡ get_or xs i d) (at_y : (d : CompD) → y ≡ get_or ys i d) where
  pub same_item : xs ≡ ys → x ≡ y
  same_item e = at_x x ∙ (ap (λ z. get_or z i x) e ∙ sym (at_y x))

  pub same_rest : x ≡ y → (drop i xs ≡ drop i ys) ↔ (drop (i + 1) xs ≡ drop (i + 1) ys)
  same_rest e =
      let first = rest_is xs i x l (at_x x) in
      let second = rest_is ys i y m (at_y y) in
      (λ h. cc, λ h. cc)

-- ---- parts of a list that is in two parts
pub dropped_parts : (n : ℕ) (xs ys : List CompD) → drop n xs ++ drop (n - length xs) ys ≡ drop n (xs ++ ys)
dropped_parts n [] ys = ap (λ z. z ++ drop (n - 0) ys) (drop-nil n) ∙ ap (λ z. drop z ys) (less_none n)
  where
    less_none : (n : ℕ) → n - 0 ≡ n
    less_none n = omega arith
dropped_parts zero (x ∷ xs) ys = ap (λ z. (x ∷ xs) ++ drop z ys) nothing_less
  where
    nothing_less : 0 - length (x ∷ xs) ≡ 0
    nothing_less = omega arith
dropped_parts (suc n) (x ∷ xs) ys = ap (λ z. drop n xs ++ drop z ys) one_less ∙ dropped_parts n xs ys
  where
    one_less : suc n - length (x ∷ xs) ≡ n - length xs
    one_less = omega arith

pub taken_parts : (n : ℕ) (xs ys : List CompD) → length xs ≤ n → xs ++ take (n - length xs) ys ≡ take n (xs ++ ys)
taken_parts n [] ys l = ap (λ z. take z ys) less_none
  where
    less_none : n - 0 ≡ n
    less_none = omega arith
taken_parts zero (x ∷ xs) ys l = absurd (omega (arith, l))
taken_parts (suc n) (x ∷ xs) ys l =
    ap (λ z. x ∷ (xs ++ take z ys)) one_less ∙ ap (λ z. x ∷ z) (taken_parts n xs ys (omega (arith, l)))
  where
    one_less : suc n - length (x ∷ xs) ≡ n - length xs
    one_less = omega arith

-- ---- the first ones, and those behind them
none_behind : (n : ℕ) (ks : List CompD) → length ks ≤ n → drop n ks ≡ []
none_behind zero [] l = refl
none_behind zero (k ∷ ks) l = absurd (omega arith)
none_behind (suc n) [] l = refl
none_behind (suc n) (k ∷ ks) l = none_behind n ks (omega arith)

pub first_of_both : (t : Term) (ls old : List CompD) (first : ℕ) → IsColl (tree t) → length (comps_listed (tree t)) ≤ first → old ≡ take (first - length (comps_listed (tree t))) ls → comps_listed (tree (with_comps t old)) ≡ take first (comps_listed (tree (with_comps t ls)))
first_of_both t ls old first h l is =
    with_listed t old h ∙ (ap (λ z. comps_listed (tree t) ++ z) is ∙ (taken_parts first (comps_listed (tree t)) ls l ∙ ap (take first) (sym (with_listed t ls h))))

pub rest_of_both : (t : Term) (ls : List CompD) (first : ℕ) → IsColl (tree t) → length (comps_listed (tree t)) ≤ first → drop (first - length (comps_listed (tree t))) ls ≡ drop first (comps_listed (tree (with_comps t ls)))
rest_of_both t ls first h l =
    ap (λ z. z ++ drop (first - length (comps_listed (tree t))) ls) (sym (none_behind first (comps_listed (tree t)) l)) ∙ (dropped_parts first (comps_listed (tree t)) ls ∙ ap (drop first) (sym (with_listed t ls h)))
