use Rattle.std.proofs.Common.{◌≡◌, ◌-◌, ◌<◌, ◌≤◌, suc, length, ap, subst, ◌∙◌, arith}
use Rattle.lois_base.specs.Data.{terms_of}
use Rattle.lois_base.specs.Normal.{OccursInPart}
use Rattle.lois_shortest_word.specs.Words.{AreUsedBetween}
use Rattle.lois_shortest_word.proofs.Lowered.{length_removed}
use Rattle.lois_shortest_word.proofs.Shorter.{shortened_none, shortened_more, everywhere_none, everywhere_more, used_more, used_here}
use Rattle.lois_shortest_word.proofs.shortening.drop_unused_numbers.Goals as goal

pub dropping-init : goal.dropping-init
dropping-init c = record {
  short = shortened_none c.args.size c.args.word c.requires.count c.requires.levels;
  everywhere = everywhere_none c.args.size c.args.word;
  least = omega (arith, c.requires.count, c.len-left.ensures);
  most = omega (arith, c.len-left.ensures);
  used = λ i least most. absurd (omega (arith, c.len-left.ensures));
}

pub without-requires : goal.without-requires
without-requires c = omega (arith, c.dropping.invariant.most, c.dropping-test.true)

pub dropping-preserved-then-not-is_used : goal.dropping-preserved-then-not-is_used
dropping-preserved-then-not-is_used c =
    let n = c.args.size in
    let gone = c.dropping.left - 1 in
    let v = c.dropping.shorter in
    let r = c.in_ok-shorter.shorter in
    let was = c.dropping.invariant in
    let from : n ≤ gone = omega (arith, c.dropping-test.true) in
    let below : gone < length v.sample = omega (arith, was.most, c.dropping-test.true) in
    let same : c.dropping.left ≡ suc gone = omega (arith, c.dropping-test.true) in
    let is = c.in_ok-shorter.ensures in
    let unused : OccursInPart gone (terms_of v.letters) → ⊥ = λ o. let yes = c.is_used.ensures.1 o in let no = c.if-not-is_used.true in absurd (cc) in
    let count : suc (length r.sample) ≡ length v.sample = ap (λ z. suc (length z)) is.sample ∙ length_removed v.sample gone below in
    record {
      short = shortened_more n gone c.args.word v r from below unused is was.short;
      everywhere = everywhere_more n gone c.args.word v r from below unused is was.everywhere;
      least = from;
      most = omega (arith, count, below);
      used = used_more n gone c.args.word v r from below unused is (subst (λ z. AreUsedBetween z (length v.sample) v.letters) same was.used);
    }

pub dropping-preserved : goal.dropping-preserved
dropping-preserved c =
    let gone = c.dropping.left - 1 in
    let v = c.dropping.shorter in
    let was = c.dropping.invariant in
    let same : c.dropping.left ≡ suc gone = omega (arith, c.dropping-test.true) in
    let here : OccursInPart gone (terms_of v.letters) = c.is_used.ensures.0 c.if-not-is_used.false in
    record {
      short = was.short;
      everywhere = was.everywhere;
      least = omega (arith, c.dropping-test.true);
      most = omega (arith, was.most);
      used = used_here gone v here (subst (λ z. AreUsedBetween z (length v.sample) v.letters) same was.used);
    }

pub returns-clause-shortened : goal.returns-clause-shortened
returns-clause-shortened c = c.dropping.invariant.short

pub returns-clause-everywhere : goal.returns-clause-everywhere
returns-clause-everywhere c = c.dropping.invariant.everywhere

pub returns-clause-used : goal.returns-clause-used
returns-clause-used c = λ i least most. c.dropping.invariant.used i (omega (arith, c.dropping-test.false, least)) most
