-- Faults under a context's own sample, and faults handed on.
use Rattle.std.proofs.Common.{◌≡◌, ℕ, ◌+◌, ◌≤◌, Bool, List, ◌++◌, length, take, drop, refl, sym, ap, subst, ◌∙◌, arith}
use Rattle.std.proofs.lemmas.Bool.{and_parts}
use Rattle.std.proofs.lemmas.List.{take-append-drop, length-take-le, length-map, map-append}
use Rattle.std.specs.Bool.{IsTrue}
use Rattle.lois_base.specs.Atom.{Atom, whole}
use Rattle.lois_base.specs.Fits.{ConstraintFits}
use Rattle.lois_base.specs.Patterns.{AreAlike}
use Rattle.lois_base.specs.Truth.{atom_at, holds, sampled}
use Rattle.lois_base.specs.declared.guards.Lit.{Lit}
use Rattle.lois_base.specs.Validity.{AdmitsConstraint}
use Rattle.lois_base.proofs.Truths.{holds_alike}
use Rattle.lois_base.proofs.Twins.{Twins, twins, IsPattern, IsCarried, carried_more, carried_longer, extend, zipped, has_zipped, pattern_zipped}
use Rattle.lois_deciders.specs.Conjunction.{IsSampledConjunction}
use Rattle.lois_meaning.specs.declared.faults.Fault.{Fault}
use Rattle.lois_answers.specs.declared.faults.FaultKind.{FaultKind}
use Rattle.lois_meaning.specs.declared.faults.Stop.{Stop}
use Rattle.lois_meaning.specs.declared.faults.Stop.TheVariants as Stops
use Rattle.lois_script.specs.declared.syntax.Pos.{Pos}
use Rattle.lois_context.specs.Choices.{IsAdmitted, AdmitsContext}
use Rattle.lois_context.specs.Slots.{store_at}
use Rattle.lois_context.specs.declared.contexts.Context.{Context}
use Rattle.lois_eval.specs.Checks.{IsFaultWith, IsFaultAt, MeetsBoth}
use Rattle.lois_eval.specs.Throughout.{IfFault, Failure, IsFaultOf}

pub if_fault : (s : Stop) (P Q : Fault → Type 0) → ((f : Fault) → P f → Q f) → IfFault s P → IfFault s Q
if_fault (Stops.Fault f) P Q to h = to f h
if_fault Stops.NoMemory P Q to h = tt

pub own_sample : (k : Context) → IsAdmitted (sampled k.sample) k
own_sample k = (length-map k.sample whole ∙ k.count, k.met)

pub fault_at : (k : Context) (pos : Pos) (kind : FaultKind) (sample : List ℕ) → IsAdmitted (sampled sample) k → (f : Fault) → IsFaultWith pos kind sample f → IsFaultAt k pos.offset f
fault_at k pos kind sample a f h = record {
  admitted = subst (λ z. IsAdmitted (sampled z) k) (sym h.sample) a;
  place = ap (λ p. p.offset) h.place;
  elements = h.elements;
}

pub fault_weaker : (o : Bool) (k : Context) (P Q : Failure) (f : Fault) → ((s : _) (at : ℕ) (kind : FaultKind) → P s at kind → Q s at kind) → IsFaultOf o k P f → IsFaultOf o k Q f
fault_weaker o k P Q f to h = record { admitted = h.admitted; failure = λ c alike. to _ f.pos.offset f.kind (h.failure c alike); elements = h.elements }

-- numbers at which the context's constraint holds and g does
pub met_admitted : (k : Context) (g : List (List Lit)) (s : List ℕ) → MeetsBoth k.size k.«when» g s → IsAdmitted (sampled s) k × IsTrue (holds (sampled s) g)
met_admitted k g s m = ((length-map s whole ∙ m.0.count, m.1), m.2)

-- what was met holds of both
pub meets_both : (n : ℕ) (g h r : List (List Lit)) (s : List ℕ) → IsSampledConjunction n g h r s → MeetsBoth n g h s
meets_both n g h r s m =
    let both = and_parts (holds (sampled s) g) (holds (sampled s) h) (sym (m.truth (sampled s)) ∙ m.sample.1) in
    (m.sample.0, both.0, both.1)

-- ---- a sample cut in two
pub sampled_parts : (n : ℕ) (s : List ℕ) → sampled (take n s) ++ sampled (drop n s) ≡ sampled s
sampled_parts n s = sym (map-append whole (take n s) (drop n s)) ∙ ap sampled (take-append-drop n s)

pub sampled_start : (n : ℕ) (s : List ℕ) → n ≤ length s → length (sampled (take n s)) ≡ n
sampled_start n s l = length-map (take n s) whole ∙ length-take-le n s l

-- ---- atoms that stand as numbers do
-- a context that admits numbers admits them
pub admitted_alike : (o : Bool) (k : Context) (s : List ℕ) (c : List Atom) → AdmitsContext o k → AreAlike o (sampled s) c → IsAdmitted (sampled s) k → IsAdmitted c k
admitted_alike o k s c admits alike a =
    (sym alike.count ∙ a.0, sym (holds_alike o (sampled s) c alike k.«when» (subst (λ n. ConstraintFits n k.«when») (sym a.0) k.levels) admits.«when») ∙ a.1)

-- another failure at the same place, since it is one at each choice that the context admits
pub fault_within : (o : Bool) (k : Context) (P Q : Failure) (f : Fault) → ((c : List Atom) → IsAdmitted c k → (at : ℕ) (kind : FaultKind) → P (store_at c k.store) at kind → Q (store_at c k.store) at kind) → IsFaultOf o k P f → IsFaultOf o k Q f
fault_within o k P Q f to h = record {
  admitted = h.admitted;
  failure = λ c alike. to c (h.admitted c alike) f.pos.offset f.kind (h.failure c alike);
  elements = h.elements;
}

-- numbers with the constraint of a context and another one: both hold at them too
pub met_alike : (o : Bool) (k : Context) (g : List (List Lit)) (s : List ℕ) (c : List Atom) → ConstraintFits k.size g → AdmitsConstraint o g → MeetsBoth k.size k.«when» g s → AreAlike o (sampled s) c → IsTrue (holds c g)
met_alike o k g s c fits admits m alike =
    let both = met_admitted k g s m in
    sym (holds_alike o (sampled s) c alike g (subst (λ n. ConstraintFits n g) (sym both.0.0) fits) admits) ∙ both.1

pub alike_itself : (o : Bool) (s : List ℕ) → AreAlike o (sampled s) (sampled s)
alike_itself o s = record { count = refl; agree = λ op h i j l m. refl }

alike_carried : (o : Bool) (ps : List Twins) → IsPattern o ps → (n : ℕ) (c d : List Atom) → IsCarried ps n c d → AreAlike o c d
alike_carried o ps pattern n c d h = record {
  count = h.left ∙ sym h.right;
  agree = λ op k i j l m. pattern.alike (twins (atom_at c i) (atom_at d i)) (twins (atom_at c j) (atom_at d j)) (h.atoms i (omega (arith, h.left))) (h.atoms j (omega (arith, h.left))) op k;
}

-- atoms that stand as the first numbers do, with further ones that stand as all numbers do
pub alike_longer : (o : Bool) (n : ℕ) (s : List ℕ) (c : List Atom) → AreAlike o (sampled (take n s)) c → (e : List Atom) × AreAlike o (sampled s) (c ++ e)
alike_longer o n s c alike =
    let front = sampled (take n s) in
    let back = sampled (drop n s) in
    let pairs = zipped front c in
    let more = extend o pairs (pattern_zipped o front c alike) back in
    let first : IsCarried pairs (length front) front c = record { left = refl; right = sym alike.count; atoms = λ i l. has_zipped front c i l (omega (arith, alike.count)) } in
    let whole_carried = carried_longer more.pairs (length front) (length back) front c back more.image (carried_more pairs more.pairs (length front) front c more.within first) more.carried in
    (more.image, subst (λ z. AreAlike o z (c ++ more.image)) (sampled_parts n s) (alike_carried o more.pairs more.pattern (length front + length back) (front ++ back) (c ++ more.image) whole_carried))
