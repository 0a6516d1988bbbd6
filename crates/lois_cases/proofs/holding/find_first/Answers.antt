use Rattle.std.proofs.Common.{◌+◌, length, map, take, drop, sym, ◌∙◌, arith}
use Rattle.std.proofs.lemmas.List.Elements.{All-map}
use Rattle.lois_base.specs.Truth.{sampled}
use Rattle.lois_answers.specs.CaseView.{case_of}
use Rattle.lois_cases.specs.Cases.{CaseFits, HoldsAt}
use Rattle.lois_cases.proofs.Parted.{parted_at, count_before, of_each, of_all}
use Rattle.lois_cases.proofs.holding.find_first.Goals as goal

pub at-requires : goal.at-requires
at-requires c =
    of_each case_of (CaseFits (length c.args.sample.now)) c.args.cases.now c.loop-index.index c.index-cases-index.result c.loop-index-test.true c.index-cases-index.is c.requires

pub returns-then-at-clause-first : goal.returns-then-at-clause-first
returns-then-at-clause-first c =
    let xs = c.args.cases.now in
    let i = c.loop-index.index in
    let x = c.index-cases-index.result in
    record {
      before = map case_of (take i xs);
      here = case_of x;
      behind = map case_of (drop (i + 1) xs);
      among = parted_at case_of xs i x c.loop-index-test.true c.index-cases-index.is;
      index = count_before case_of xs i c.loop-index-test.true;
      none_before = All-map (λ k. HoldsAt (sampled c.args.sample.now) k → ⊥) case_of (take i xs) c.loop-index.invariant;
      holds_here = sym c.at.ensures ∙ c.if-at.true;
    }

pub returns-clause-first : goal.returns-clause-first
returns-clause-first c =
    of_all case_of (λ k. HoldsAt (sampled c.args.sample.now) k → ⊥) c.args.cases.now c.loop-index.index (omega (arith, c.loop-index-test.false)) c.loop-index.invariant
