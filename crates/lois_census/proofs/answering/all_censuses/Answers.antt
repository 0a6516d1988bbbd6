use Rattle.std.proofs.Common.{◌+◌, refl, sym, subst, take, map}
use Rattle.lois_base.proofs.Viewed.{one_more, item_has}
use Rattle.lois_answers.specs.CaseView.{case_of}
use Rattle.lois_answers.specs.Sound.{IsSoundCase}
use Rattle.lois_deciders.proofs.OnlyAsked.{only_asked_then}
use Rattle.lois_census.specs.Censuses.{HasSet, AreCensusesOf, numbered}
use Rattle.lois_census.proofs.Numbering.{numbered_next}
use Rattle.lois_census.proofs.answering.all_censuses.Goals as goal

pub add_census-requires-clause-sound : goal.add_census-requires-clause-sound
add_census-requires-clause-sound g c =
    item_has case_of (IsSoundCase g.T.Structure.ordered 0) c.as_slice-case-items.result.now c.args.cases.now c.loop-index.index c.case-item.result c.as_slice-case-items.ensures.items c.loop-index-test.true c.case-item.is c.requires.sound

pub add_census-requires-clause-set : goal.add_census-requires-clause-set
add_census-requires-clause-set g c =
    item_has case_of (HasSet c.args.name.now) c.as_slice-case-items.result.now c.args.cases.now c.loop-index.index c.case-item.result c.as_slice-case-items.ensures.items c.loop-index-test.true c.case-item.is c.requires.sets

pub loop-index-preserved : goal.loop-index-preserved
loop-index-preserved g c =
    let items = c.as_slice-case-items.result.now in
    let i = c.loop-index.index in
    let x = c.case-item.result in
    record {
      censuses =
          subst (λ ks. AreCensusesOf g.T.Structure.ordered c.args.name.now ks c.add_census.new.censuses) (sym (numbered_next items i x (i + 1) (one_more case_of items i x c.loop-index-test.true c.case-item.is) c.loop-index-test.true refl))
          (c.in_ok-add_census.ensures.added (numbered 1 (map case_of (take i items))) c.loop-index.invariant.censuses);
      only_asked = only_asked_then (λ b. (goal.Decider-dyn g (b.vtable, b.value)).kind_of b.value) (λ b. (goal.Decider-dyn g (b.vtable, b.value)).questions b.value) c.args.chosen.now c.loop-index.chosen c.add_census.new.chosen c.loop-index.invariant.only_asked c.add_census.ensures.only_asked;
    }
