-- Literals and cubes are totally ordered.
use Rattle.std.proofs.Common.{◌≡◌, ℕ, Bool, true, false, ◌&&◌, ◌||◌, ◌==◌, nat_lt, List, [], ◌∷◌, refl, sym, subst, arith}
use Rattle.std.specs.Bool.{IsTrue}
use Rattle.std.proofs.lemmas.Bool.Decides.{nat_tests}
use Rattle.lois_base.specs.declared.guards.Lit.{Lit}
use Rattle.lois_base.specs.declared.guards.Op.{Op}
use Rattle.lois_base.specs.declared.guards.Op.TheVariants.{Eq, Ne, Lt, AtMost}
use Rattle.lois_constraint.specs.Normalised.{op_rank, lit_before, lit_same, cube_before}

abbrev three_before : ℕ → ℕ → ℕ → ℕ → ℕ → ℕ → Bool
three_before a b c x y z = nat_lt a x || (a == x && (nat_lt b y || (b == y && nat_lt c z)))

abbrev three_same : ℕ → ℕ → ℕ → ℕ → ℕ → ℕ → Bool
three_same a b c x y z = a == x && (b == y && c == z)

three_trans : (a b c x y z u v w : ℕ) → three_before a b c x y z ≡ true → three_before x y z u v w ≡ true → three_before a b c u v w ≡ true
three_trans a b c x y z u v w h k = grind (arith, nat_tests)

three_before_same : (a b c x y z u v w : ℕ) → three_before a b c x y z ≡ true → three_same x y z u v w ≡ true → three_before a b c u v w ≡ true
three_before_same a b c x y z u v w h k = grind (arith, nat_tests)

three_same_before : (a b c x y z u v w : ℕ) → three_same a b c x y z ≡ true → three_before x y z u v w ≡ true → three_before a b c u v w ≡ true
three_same_before a b c x y z u v w h k = grind (arith, nat_tests)

three_same_trans : (a b c x y z u v w : ℕ) → three_same a b c x y z ≡ true → three_same x y z u v w ≡ true → three_same a b c u v w ≡ true
three_same_trans a b c x y z u v w h k = grind (arith, nat_tests)

three_equal : (a b c x y z : ℕ) → three_before a b c x y z ≡ false → three_before x y z a b c ≡ false → (a ≡ x) × (b ≡ y) × (c ≡ z)
three_equal a b c x y z h k = (grind (arith, nat_tests), grind (arith, nat_tests), grind (arith, nat_tests))

three_itself : (a b c : ℕ) → three_same a b c a b c ≡ true
three_itself a b c = grind (arith, nat_tests)

pub lit_before_trans : (a b c : Lit) → IsTrue (lit_before a b) → IsTrue (lit_before b c) → IsTrue (lit_before a c)
lit_before_trans a b c =
    three_trans a.left a.right (op_rank a.op) b.left b.right (op_rank b.op) c.left c.right (op_rank c.op)

rank_tells : (o r : Op) → op_rank o ≡ op_rank r → o ≡ r
rank_tells Eq Eq e = refl
rank_tells Eq Ne e = absurd (omega arith)
rank_tells Eq Lt e = absurd (omega arith)
rank_tells Eq AtMost e = absurd (omega arith)
rank_tells Ne Eq e = absurd (omega arith)
rank_tells Ne Ne e = refl
rank_tells Ne Lt e = absurd (omega arith)
rank_tells Ne AtMost e = absurd (omega arith)
rank_tells Lt Eq e = absurd (omega arith)
rank_tells Lt Ne e = absurd (omega arith)
rank_tells Lt Lt e = refl
rank_tells Lt AtMost e = absurd (omega arith)
rank_tells AtMost Eq e = absurd (omega arith)
rank_tells AtMost Ne e = absurd (omega arith)
rank_tells AtMost Lt e = absurd (omega arith)
rank_tells AtMost AtMost e = refl

lit_of : (o r : Op) (x y z w : ℕ) → o ≡ r → x ≡ z → y ≡ w → (let a : Lit = record { op = o; left = x; right = y } in let b : Lit = record { op = r; left = z; right = w } in a ≡ b)
lit_of o r x y z w e f g = rw (e, f, g)

-- literals of which neither goes before the other are one
pub lit_equal : (a b : Lit) → lit_before a b ≡ false → lit_before b a ≡ false → a ≡ b
lit_equal a b h k =
    let e = three_equal a.left a.right (op_rank a.op) b.left b.right (op_rank b.op) h k in
    lit_of a.op b.op a.left a.right b.left b.right (rank_tells a.op b.op e.2) e.0 e.1

chain : (b1 s1 r1 b2 s2 r2 b3 s3 r3 : Bool) → (b1 ≡ true → b2 ≡ true → b3 ≡ true) → (b1 ≡ true → s2 ≡ true → b3 ≡ true) → (s1 ≡ true → b2 ≡ true → b3 ≡ true) → (s1 ≡ true → s2 ≡ true → s3 ≡ true) → (r1 ≡ true → r2 ≡ true → r3 ≡ true) → (b1 || (s1 && r1)) ≡ true → (b2 || (s2 && r2)) ≡ true → (b3 || (s3 && r3)) ≡ true
chain true s1 r1 true s2 r2 b3 s3 r3 f g h i j x y = let e : b3 ≡ true = f refl refl in rw e
chain true s1 r1 false true r2 b3 s3 r3 f g h i j x y = let e : b3 ≡ true = g refl refl in rw e
chain true s1 r1 false false r2 b3 s3 r3 f g h i j x y = absurd (cc)
chain false true r1 true s2 r2 b3 s3 r3 f g h i j x y = let e : b3 ≡ true = h refl refl in rw e
chain false true r1 false true r2 true s3 r3 f g h i j x y = refl
chain false true r1 false true r2 false s3 r3 f g h i j x y =
    let e : s3 ≡ true = i refl refl in let d : r3 ≡ true = j x y in rw (e, d)
chain false true r1 false false r2 b3 s3 r3 f g h i j x y = absurd (cc)
chain false false r1 b2 s2 r2 b3 s3 r3 f g h i j x y = absurd (cc)

pub cube_before_trans : (a b c : List Lit) → IsTrue (cube_before a b) → IsTrue (cube_before b c) → IsTrue (cube_before a c)
cube_before_trans [] [] c h k = absurd (cc)
cube_before_trans [] (y ∷ b) [] h k = absurd (cc)
cube_before_trans [] (y ∷ b) (z ∷ c) h k = refl
cube_before_trans (x ∷ a) [] c h k = absurd (cc)
cube_before_trans (x ∷ a) (y ∷ b) [] h k = absurd (cc)
cube_before_trans (x ∷ a) (y ∷ b) (z ∷ c) h k =
    chain (lit_before x y) (lit_same x y) (cube_before a b) (lit_before y z) (lit_same y z) (cube_before b c) (lit_before x z) (lit_same x z) (cube_before a c)
    (lit_before_trans x y z)
    (three_before_same x.left x.right (op_rank x.op) y.left y.right (op_rank y.op) z.left z.right (op_rank z.op))
    (three_same_before x.left x.right (op_rank x.op) y.left y.right (op_rank y.op) z.left z.right (op_rank z.op))
    (three_same_trans x.left x.right (op_rank x.op) y.left y.right (op_rank y.op) z.left z.right (op_rank z.op))
    (cube_before_trans a b c) h k

or_first : (p q : Bool) → (p || q) ≡ false → p ≡ false
or_first true q h = h
or_first false q h = refl

or_second : (p q : Bool) → (p || q) ≡ false → q ≡ false
or_second true q h = absurd (cc)
or_second false q h = h

and_rest : (p q : Bool) → p ≡ true → (p && q) ≡ false → q ≡ false
and_rest true q e h = h
and_rest false q e h = absurd (cc)

lit_itself : (x y : Lit) → x ≡ y → lit_same x y ≡ true
lit_itself x y e = subst (λ (z : Lit). lit_same x z ≡ true) e (three_itself x.left x.right (op_rank x.op))

lit_itself_back : (x y : Lit) → x ≡ y → lit_same y x ≡ true
lit_itself_back x y e = lit_itself y x (sym e)

cons_equal : (x y : Lit) (a b : List Lit) → x ≡ y → a ≡ b → x ∷ a ≡ y ∷ b
cons_equal x y a b e f = rw (e, f)

-- cubes of which neither goes before the other are one
pub cube_equal : (a b : List Lit) → cube_before a b ≡ false → cube_before b a ≡ false → a ≡ b
cube_equal [] [] h k = refl
cube_equal [] (y ∷ b) h k = absurd (cc)
cube_equal (x ∷ a) [] h k = absurd (cc)
cube_equal (x ∷ a) (y ∷ b) h k =
    let same : x ≡ y = lit_equal x y (or_first (lit_before x y) (lit_same x y && cube_before a b) h) (or_first (lit_before y x) (lit_same y x && cube_before b a) k) in
    cons_equal x y a b same (cube_equal a b
    (and_rest (lit_same x y) (cube_before a b) (lit_itself x y same) (or_second (lit_before x y) (lit_same x y && cube_before a b) h))
    (and_rest (lit_same y x) (cube_before b a) (lit_itself_back x y same) (or_second (lit_before y x) (lit_same y x && cube_before b a) k)))

three_from_same : (a b c x y z : ℕ) → three_same a b c x y z ≡ true → (a ≡ x) × (b ≡ y) × (c ≡ z)
three_from_same a b c x y z h = (grind (arith, nat_tests), grind (arith, nat_tests), grind (arith, nat_tests))

pub lit_from_same : (a b : Lit) → lit_same a b ≡ true → a ≡ b
lit_from_same a b h =
    let e = three_from_same a.left a.right (op_rank a.op) b.left b.right (op_rank b.op) h in
    lit_of a.op b.op a.left a.right b.left b.right (rank_tells a.op b.op e.2) e.0 e.1

three_irrefl : (a b c : ℕ) → three_before a b c a b c ≡ false
three_irrefl a b c = grind (arith, nat_tests)

pub lit_before_irrefl : (a : Lit) → lit_before a a ≡ false
lit_before_irrefl a = three_irrefl a.left a.right (op_rank a.op)

neither_before : (p s q : Bool) → p ≡ false → q ≡ false → (p || (s && q)) ≡ false
neither_before true s q e f = e
neither_before false true q e f = f
neither_before false false q e f = refl

pub cube_before_irrefl : (a : List Lit) → cube_before a a ≡ false
cube_before_irrefl [] = refl
cube_before_irrefl (x ∷ a) =
    neither_before (lit_before x x) (lit_same x x) (cube_before a a) (lit_before_irrefl x) (cube_before_irrefl a)
