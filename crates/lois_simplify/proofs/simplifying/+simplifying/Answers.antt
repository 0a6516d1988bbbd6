use Rattle.std.proofs.Common.{◌≡◌, ◌++◌, [], ◌∷◌, List, length, refl, map, sym, ap, ◌∙◌, subst, arith}
use Rattle.std.specs.List.{All, Contains}
use Rattle.std.proofs.lemmas.Iterator.Adapters.{YieldsList-from_vec}
use Rattle.std.proofs.lemmas.Iterator.Consumers.{YieldsList-turn, YieldsList-end}
use Rattle.std.proofs.lemmas.List.{map-id, map-append}
use Rattle.std.proofs.lemmas.List.Elements.{All-contains, All-weaker}
use Rattle.std.proofs.lemmas.Result.{IfOk-weaker}
use Rattle.lois_base.specs.Data.{TermD, CompD}
use Rattle.lois_base.specs.Tree.{tree, comp_of}
use Rattle.lois_base.specs.declared.values.Comp.{Comp}
use Rattle.lois_deciders.proofs.Oracle.{some_is}
use Rattle.lois_relate.proofs.Parts.{is_part_of}
use Rattle.lois_simplify.specs.Simplification.{IsSimplification, set_of}
use Rattle.lois_simplify.specs.Lean.{IsIrredundantComp, IsLeanComp}
use Rattle.lois_simplify.specs.Rounds.{only, listed_comp, IsRoundOf, IsOpeningOf, IsClosingOf}
use Rattle.lois_simplify.proofs.Asked.{ok_both}
use Rattle.lois_simplify.proofs.Kept.{kept_refl, kept_trans}
use Rattle.lois_simplify.proofs.Members.{items_fit_each, items_admit_each, comp_depth_le}
use Rattle.lois_simplify.proofs.OneRound.{item_kept, round_closed}
use Rattle.lois_simplify.proofs.Tuples.{IsSimplified, PartsSimplified, part_behind, tuple_kept, parts_normal, parts_guards, parts_plain}
use Rattle.lois_simplify.proofs.IrredundantComps.{LeanSoFar, lean_begin, lean_found, lean_none, lean_kept, fewer_lean}
use Rattle.lois_simplify.proofs.Plain.{set_has_plain_guards}
use Rattle.lois_simplify.proofs.Under.{set_is_normal, set_has_normal_guards}
use Rattle.lois_base.proofs.Viewed.{contains_item}
use Rattle.lois_simplify.proofs.simplifying.+simplifying.Goals as goal

pub irredundant_comp-rounds-init : goal.irredundant_comp-rounds-init
irredundant_comp-rounds-init g t c =
    let whole : TermD = set_of (only (comp_of c.args.comp)) in
    record {
      kept = kept_refl c.args.under.now c.args.size whole;
      asked = g.met.D.Oracle.reaches_itself c.args.decider.now;
    }

pub irredundant_comp-returns-in-Lean-clause-kept : goal.irredundant_comp-returns-in-Lean-clause-kept
irredundant_comp-returns-in-Lean-clause-kept g t c =
    let u = c.args.under.now in
    let n = c.args.size in
    let round = subst (IsRoundOf c.args.brief u n c.rounds.current) c.in-Lean.is c.in_ok-simple.ensures.round in
    kept_trans u n (set_of (only (comp_of c.args.comp))) (set_of (only (comp_of c.rounds.current))) (set_of (only (comp_of c.in-Lean.simple))) c.rounds.invariant.kept round.0

pub irredundant_comp-rounds-preserved : goal.irredundant_comp-rounds-preserved
irredundant_comp-rounds-preserved g t c =
    let u = c.args.under.now in
    let n = c.args.size in
    let round = subst (IsRoundOf c.args.brief u n c.rounds.current) c.in-Shorter.is c.in_ok-simple.ensures.round in
    record {
      kept = kept_trans u n (set_of (only (comp_of c.args.comp))) (set_of (only (comp_of c.rounds.current))) (set_of (only (comp_of c.in-Shorter.shorter))) c.rounds.invariant.kept round.0;
      asked = g.met.D.Oracle.reaches_then c.args.decider.now c.rounds.decider c.one_round.new.decider c.rounds.invariant.asked c.one_round.ensures.asked;
    }

pub irredundant_comps-loop-comp-init : goal.irredundant_comps-loop-comp-init
irredundant_comps-loop-comp-init g t c =
    record {
      can_next = tt;
      is_finite = tt;
      lean = subst (LeanSoFar c.args.brief c.args.under.now c.args.size []) (sym c.new-found.ensures) (lean_begin c.args.brief c.args.under.now c.args.size);
      asked = g.met.D.Oracle.reaches_itself c.args.decider.now;
    }

pub irredundant_comps-irredundant_comp-requires : goal.irredundant_comps-irredundant_comp-requires
irredundant_comps-irredundant_comp-requires g t c κs within =
    let comps = c.args.comps in
    let items = c.into_vec-comp-items.result.items in
    let seen = c.loop-comp.yielded in
    let k : CompD = comp_of c.in-Some.comp in
    let turn = YieldsList-turn (YieldsList-from_vec items (cc) (cc)) seen c.loop-comp.comp-iterator c.loop-comp.yielded_by c.next.result c.next.new.self c.in-Some.comp c.in-Some.is c.next.ensures.steps in
    let there : Contains comps k = c.in_ok-several.ensures.only k (contains_item comp_of items c.in_ok-several.several (length seen) c.in-Some.comp c.into_vec-comp-items.ensures turn.0 turn.1) in
    (omega (arith, comp_depth_le comps k there), (within.0, (within.1, (c.requires.sound, (record { levels = items_fit_each c.args.size comps k c.requires.over.levels there; operators = items_admit_each g.T.Structure.ordered comps k c.requires.over.operators there }, (c.requires.under, c.requires.met))))))

pub irredundant_comps-loop-comp-preserved-in-Continue-branch-4 : goal.irredundant_comps-loop-comp-preserved-in-Continue-branch-4
irredundant_comps-loop-comp-preserved-in-Continue-branch-4 g t c =
    let u = c.args.under.now in
    let n = c.args.size in
    let seen = c.loop-comp.yielded in
    let k : CompD = comp_of c.in-Some.comp in
    let done : List CompD = map comp_of seen in
    let kept = subst (λ o. IsSimplification u n (set_of (only k)) (set_of (listed_comp o))) c.in-Some-2.is c.in_ok-simple.ensures.kept in
    let lean = some_is (λ j. IsLeanComp c.args.brief u n (comp_of j)) c.in_ok-simple.field-0 c.in-Some-2.simple c.in-Some-2.is c.in_ok-simple.ensures.lean in
    record {
      can_next = tt;
      is_finite = tt;
      lean =
          subst (λ z. LeanSoFar c.args.brief u n z c.push.new.self) (sym (map-append comp_of seen (c.in-Some.comp ∷ [])))
          (lean_found c.args.brief u n done c.loop-comp.found c.push.new.self c.push.new.self k (comp_of c.in-Some-2.simple) c.in_ok-push.ensures.ok refl c.loop-comp.invariant.lean kept lean);
      asked = g.met.D.Oracle.reaches_then c.args.decider.now c.loop-comp.decider c.irredundant_comp.new.decider c.loop-comp.invariant.asked c.irredundant_comp.ensures.asked;
    }

pub irredundant_comps-loop-comp-preserved : goal.irredundant_comps-loop-comp-preserved
irredundant_comps-loop-comp-preserved g t c =
    let u = c.args.under.now in
    let n = c.args.size in
    let seen = c.loop-comp.yielded in
    let k : CompD = comp_of c.in-Some.comp in
    let kept = subst (λ o. IsSimplification u n (set_of (only k)) (set_of (listed_comp o))) c.in_default.is c.in_ok-simple.ensures.kept in
    record {
      can_next = tt;
      is_finite = tt;
      lean =
          subst (λ z. LeanSoFar c.args.brief u n z c.loop-comp.found) (sym (map-append comp_of seen (c.in-Some.comp ∷ [])))
          (lean_none c.args.brief u n (map comp_of seen) c.loop-comp.found k c.loop-comp.invariant.lean kept);
      asked = g.met.D.Oracle.reaches_then c.args.decider.now c.loop-comp.decider c.irredundant_comp.new.decider c.loop-comp.invariant.asked c.irredundant_comp.ensures.asked;
    }

pub irredundant_comps-returns-clause-kept : goal.irredundant_comps-returns-clause-kept
irredundant_comps-returns-clause-kept g t c =
    let u = c.args.under.now in
    let n = c.args.size in
    let several = c.in_ok-several.several in
    let found = c.loop-comp.found in
    let items = c.into_vec-comp-items.result.items in
    let end = YieldsList-end (YieldsList-from_vec items (cc) (cc)) c.loop-comp.yielded c.loop-comp.comp-iterator c.loop-comp.yielded_by c.next.result c.next.new.self c.in-None.is c.next.ensures.steps in
    let all : c.loop-comp.yielded ≡ items = sym (map-id c.loop-comp.yielded) ∙ end.0 in
    let so_far = subst (λ z. LeanSoFar c.args.brief u n z found) (ap (map comp_of) all ∙ c.into_vec-comp-items.ensures) c.loop-comp.invariant.lean in
    ok_both (λ r. (k : CompD) → Contains found k → Contains r k) (λ r. (k : CompD) → Contains r k → Contains found k) (λ r. IsSimplification u n (set_of c.args.comps) (set_of r)) c.distinct-2.result
    (λ r all only. lean_kept c.args.brief u n c.args.comps several found r c.in_ok-several.ensures.all c.in_ok-several.ensures.only so_far all only) c.distinct-2.ensures.all c.distinct-2.ensures.only

pub irredundant_comps-returns-clause-lean : goal.irredundant_comps-returns-clause-lean
irredundant_comps-returns-clause-lean g t c =
    IfOk-weaker c.distinct-2.result (λ r. (k : CompD) → Contains r k → Contains c.loop-comp.found k) (All (IsLeanComp c.args.brief c.args.under.now c.args.size)) (λ r only. fewer_lean c.args.brief c.args.under.now c.args.size c.loop-comp.found r c.loop-comp.invariant.lean.lean only) c.distinct-2.ensures.only

pub one_round-close_round-requires : goal.one_round-close_round-requires
one_round-close_round-requires g t c =
    let opened = subst (IsOpeningOf c.args.brief c.args.under.now c.args.size c.args.comp) c.in-Open.is c.in_ok-round.ensures.opening in
    let fits = ((opened.0).levels (c.requires.over.levels, tt)).0 in
    let admitted = ((opened.0).operators g.T.Structure.ordered (c.requires.over.operators, tt)).0 in
    record {
      over = record {
        levels = (fits.0, fits.1, (c.in_ok-item.ensures.kept).levels fits.2);
        operators = (admitted.0, (c.in_ok-item.ensures.kept).operators g.T.Structure.ordered admitted.1);
      };
    }

pub one_round-returns-clause-round : goal.one_round-returns-clause-round
one_round-returns-clause-round g t c =
    let u = c.args.under.now in
    let n = c.args.size in
    let k = c.args.comp in
    let r = c.in-Open.open in
    let item = c.in_ok-item.item in
    let now : Comp = record { binders = r.comp.binders; guard = r.comp.guard; item = item } in
    let opened = subst (IsOpeningOf c.args.brief u n k) c.in-Open.is c.in_ok-round.ensures.opening in
    let kept = kept_trans u n (set_of (only (comp_of k))) (set_of (only (comp_of r.comp))) (set_of (only (comp_of now))) opened.0
    (item_kept u n r.comp.binders r.comp.guard r.here (tree r.comp.item) (tree item) c.requires.under.levels (opened.2).here c.in_ok-item.ensures.kept) in
    IfOk-weaker c.close_round.result (IsClosingOf n now) (IsRoundOf c.args.brief u n k)
    (λ x closing. round_closed c.args.brief u n k now r.here x c.requires.under.levels kept opened.1 opened.2 c.in_ok-item.ensures.normal c.in_ok-item.ensures.guards c.in_ok-item.ensures.plain closing)
    c.close_round.ensures

pub simplified-uncovered-requires-clause-lean : goal.simplified-uncovered-requires-clause-lean
simplified-uncovered-requires-clause-lean g t c =
    let u = c.args.under.now in
    let n = c.args.size in
    All-weaker (IsLeanComp c.args.brief u n) (IsIrredundantComp u n) (λ k h. h.0) c.in_ok-lean-in-Coll.lean c.in_ok-lean-in-Coll.ensures.lean

pub simplified-returns-in_ok-uncovered-in-Coll-clause-kept : goal.simplified-returns-in_ok-uncovered-in-Coll-clause-kept
simplified-returns-in_ok-uncovered-in-Coll-clause-kept g t c =
    let u = c.args.under.now in
    let n = c.args.size in
    let lean = c.in_ok-lean-in-Coll.lean in
    let r = c.in_ok-uncovered-in-Coll.field-0 in
    let is : tree c.args.term ≡ set_of c.in-Coll.comps = ap tree c.in-Coll.is in
    subst (λ z. IsSimplification u n z (set_of r)) (sym is) (kept_trans u n (set_of c.in-Coll.comps) (set_of lean) (set_of r) c.in_ok-lean-in-Coll.ensures.kept c.in_ok-uncovered-in-Coll.ensures.kept)

pub simplified-returns-in_ok-uncovered-in-Coll-clause-normal : goal.simplified-returns-in_ok-uncovered-in-Coll-clause-normal
simplified-returns-in_ok-uncovered-in-Coll-clause-normal g t c =
    let u = c.args.under.now in
    let n = c.args.size in
    let r = c.in_ok-uncovered-in-Coll.field-0 in
    set_is_normal u n r (λ k h. (All-contains (IsLeanComp c.args.brief u n) c.in_ok-lean-in-Coll.lean k c.in_ok-lean-in-Coll.ensures.lean (c.in_ok-uncovered-in-Coll.ensures.only k h)).0) c.in_ok-uncovered-in-Coll.ensures.own

pub simplified-returns-in_ok-uncovered-in-Coll-clause-guards : goal.simplified-returns-in_ok-uncovered-in-Coll-clause-guards
simplified-returns-in_ok-uncovered-in-Coll-clause-guards g t c =
    let u = c.args.under.now in
    let n = c.args.size in
    let r = c.in_ok-uncovered-in-Coll.field-0 in
    set_has_normal_guards u n r (λ k h. (All-contains (IsLeanComp c.args.brief u n) c.in_ok-lean-in-Coll.lean k c.in_ok-lean-in-Coll.ensures.lean (c.in_ok-uncovered-in-Coll.ensures.only k h)).0)

pub simplified-returns-in_ok-uncovered-in-Coll-clause-plain : goal.simplified-returns-in_ok-uncovered-in-Coll-clause-plain
simplified-returns-in_ok-uncovered-in-Coll-clause-plain g t c =
    let u = c.args.under.now in
    let n = c.args.size in
    let r = c.in_ok-uncovered-in-Coll.field-0 in
    λ read. set_has_plain_guards u n r (λ k h. (All-contains (IsLeanComp c.args.brief u n) c.in_ok-lean-in-Coll.lean k c.in_ok-lean-in-Coll.ensures.lean (c.in_ok-uncovered-in-Coll.ensures.only k h)).1 read)

pub simplified_parts-loop-part-init : goal.simplified_parts-loop-part-init
simplified_parts-loop-part-init g t c =
    record {
      can_next = tt;
      is_finite = tt;
      simplified = subst (PartsSimplified c.args.brief c.args.under.now c.args.size []) (sym c.new-simple.ensures) tt;
      asked = g.met.D.Oracle.reaches_itself c.args.decider.now;
    }

pub simplified_parts-simplified-requires : goal.simplified_parts-simplified-requires
simplified_parts-simplified-requires g t c κs within =
    let items = c.into_vec-part-items.result.items in
    let seen = c.loop-part.yielded in
    let turn = YieldsList-turn (YieldsList-from_vec items (cc) (cc)) seen c.loop-part.part-iterator c.loop-part.yielded_by c.next.result c.next.new.self c.in-Some.part c.in-Some.is c.next.ensures.steps in
    let p = is_part_of items c.args.parts (length seen) c.in-Some.part c.into_vec-part-items.ensures turn.0 turn.1 in
    (omega (arith, p.depth), (within.0, (within.1, (c.requires.sound, (record { levels = p.fits c.args.size c.requires.over.levels; operators = p.admits g.T.Structure.ordered c.requires.over.operators }, (c.requires.under, c.requires.met))))))

pub simplified_parts-loop-part-preserved : goal.simplified_parts-loop-part-preserved
simplified_parts-loop-part-preserved g t c =
    let u = c.args.under.now in
    let n = c.args.size in
    let seen = c.loop-part.yielded in
    let p = c.in-Some.part in
    let s = c.in_ok-simplified.field-0 in
    let done : List TermD = map tree seen in
    let one : IsSimplified c.args.brief u n (tree p) (tree s) = record { kept = c.in_ok-simplified.ensures.kept; normal = c.in_ok-simplified.ensures.normal; guards = c.in_ok-simplified.ensures.guards; plain = c.in_ok-simplified.ensures.plain } in
    record {
      can_next = tt;
      is_finite = tt;
      simplified =
          subst (λ z. PartsSimplified c.args.brief u n z c.push.new.self) (sym (map-append tree seen (p ∷ [])))
          (subst (PartsSimplified c.args.brief u n (done ++ tree p ∷ [])) (sym c.in_ok-push.ensures.ok) (part_behind c.args.brief u n done c.loop-part.simple (tree p) (tree s) c.loop-part.invariant.simplified one));
      asked = g.met.D.Oracle.reaches_then c.args.decider.now c.loop-part.decider c.simplified.new.decider c.loop-part.invariant.asked c.simplified.ensures.asked;
    }

pub simplified_parts-returns-clause-kept : goal.simplified_parts-returns-clause-kept
simplified_parts-returns-clause-kept g t c =
    let u = c.args.under.now in
    let n = c.args.size in
    let items = c.into_vec-part-items.result.items in
    let end = YieldsList-end (YieldsList-from_vec items (cc) (cc)) c.loop-part.yielded c.loop-part.part-iterator c.loop-part.yielded_by c.next.result c.next.new.self c.in-None.is c.next.ensures.steps in
    let seen : c.loop-part.yielded ≡ items = sym (map-id c.loop-part.yielded) ∙ end.0 in
    let all = subst (λ z. PartsSimplified c.args.brief u n z c.loop-part.simple) (ap (map tree) seen ∙ c.into_vec-part-items.ensures) c.loop-part.invariant.simplified in
    tuple_kept c.args.brief u n c.args.parts c.loop-part.simple all

pub simplified_parts-returns-clause-normal : goal.simplified_parts-returns-clause-normal
simplified_parts-returns-clause-normal g t c =
    let u = c.args.under.now in
    let n = c.args.size in
    let items = c.into_vec-part-items.result.items in
    let end = YieldsList-end (YieldsList-from_vec items (cc) (cc)) c.loop-part.yielded c.loop-part.part-iterator c.loop-part.yielded_by c.next.result c.next.new.self c.in-None.is c.next.ensures.steps in
    let seen : c.loop-part.yielded ≡ items = sym (map-id c.loop-part.yielded) ∙ end.0 in
    let all = subst (λ z. PartsSimplified c.args.brief u n z c.loop-part.simple) (ap (map tree) seen ∙ c.into_vec-part-items.ensures) c.loop-part.invariant.simplified in
    parts_normal c.args.brief u n c.args.parts c.loop-part.simple all

pub simplified_parts-returns-clause-guards : goal.simplified_parts-returns-clause-guards
simplified_parts-returns-clause-guards g t c =
    let u = c.args.under.now in
    let n = c.args.size in
    let items = c.into_vec-part-items.result.items in
    let end = YieldsList-end (YieldsList-from_vec items (cc) (cc)) c.loop-part.yielded c.loop-part.part-iterator c.loop-part.yielded_by c.next.result c.next.new.self c.in-None.is c.next.ensures.steps in
    let seen : c.loop-part.yielded ≡ items = sym (map-id c.loop-part.yielded) ∙ end.0 in
    let all = subst (λ z. PartsSimplified c.args.brief u n z c.loop-part.simple) (ap (map tree) seen ∙ c.into_vec-part-items.ensures) c.loop-part.invariant.simplified in
    parts_guards c.args.brief u n c.args.parts c.loop-part.simple all

pub simplified_parts-returns-clause-plain : goal.simplified_parts-returns-clause-plain
simplified_parts-returns-clause-plain g t c =
    let u = c.args.under.now in
    let n = c.args.size in
    let items = c.into_vec-part-items.result.items in
    let end = YieldsList-end (YieldsList-from_vec items (cc) (cc)) c.loop-part.yielded c.loop-part.part-iterator c.loop-part.yielded_by c.next.result c.next.new.self c.in-None.is c.next.ensures.steps in
    let seen : c.loop-part.yielded ≡ items = sym (map-id c.loop-part.yielded) ∙ end.0 in
    let all = subst (λ z. PartsSimplified c.args.brief u n z c.loop-part.simple) (ap (map tree) seen ∙ c.into_vec-part-items.ensures) c.loop-part.invariant.simplified in
    parts_plain c.args.brief u n c.args.parts c.loop-part.simple all
