use Rattle.std.proofs.Common.{◌≡◌, ◌<◌, ◌++◌, true, map, length, length-append, ap, arith}
use Rattle.std.proofs.lemmas.List.{length-map}
use Rattle.lois_base.specs.Tree.{comp_of}
use Rattle.lois_context.proofs.Contents.{same_item, same_rest}
use Rattle.lois_context.proofs.content.are_equal.Goals as goal

pub returns-then-count-third : goal.returns-then-count-third
returns-then-count-third c = (
  λ h. absurd (cc),
  λ e. absurd (omega (arith, c.if-count-third.true, ap length e, length-append (map comp_of c.args.first.now) (map comp_of c.args.second.now), length-append (map comp_of c.args.third.now) (map comp_of c.args.fourth.now), length-map c.args.first.now comp_of, length-map c.args.second.now comp_of, length-map c.args.third.now comp_of, length-map c.args.fourth.now comp_of)),
)

pub returns-then-not-is_equal : goal.returns-then-not-is_equal
returns-then-not-is_equal c =
    let left = map comp_of c.args.first.now ++ map comp_of c.args.second.now in
    let right = map comp_of c.args.third.now ++ map comp_of c.args.fourth.now in
    let i = c.loop-i.i in let x = comp_of c.comp_at.result.now in let y = comp_of c.comp_at-in-loop-i.result.now in
    let l : i < length left = omega (arith, c.loop-i-test.true, length-append (map comp_of c.args.first.now) (map comp_of c.args.second.now), length-map c.args.first.now comp_of, length-map c.args.second.now comp_of) in
    let m : i < length right = omega (arith, c.loop-i-test.true, c.if-count-third.false, length-append (map comp_of c.args.third.now) (map comp_of c.args.fourth.now), length-map c.args.third.now comp_of, length-map c.args.fourth.now comp_of) in (
      λ h. absurd (cc),
      λ e.
          let same : c.is_equal.result ≡ true = c.is_equal.ensures.1 (same_item left right i x y l m c.comp_at.ensures c.comp_at-in-loop-i.ensures e) in
          absurd (cc),
    )

pub loop-i-preserved : goal.loop-i-preserved
loop-i-preserved c =
    let left = map comp_of c.args.first.now ++ map comp_of c.args.second.now in
    let right = map comp_of c.args.third.now ++ map comp_of c.args.fourth.now in
    let i = c.loop-i.i in let x = comp_of c.comp_at.result.now in let y = comp_of c.comp_at-in-loop-i.result.now in
    let l : i < length left = omega (arith, c.loop-i-test.true, length-append (map comp_of c.args.first.now) (map comp_of c.args.second.now), length-map c.args.first.now comp_of, length-map c.args.second.now comp_of) in
    let m : i < length right = omega (arith, c.loop-i-test.true, c.if-count-third.false, length-append (map comp_of c.args.third.now) (map comp_of c.args.fourth.now), length-map c.args.third.now comp_of, length-map c.args.fourth.now comp_of) in
    let rest = same_rest left right i x y l m c.comp_at.ensures c.comp_at-in-loop-i.ensures (c.is_equal.ensures.0 c.if-not-is_equal.false) in
    (λ h. rest.0 (c.loop-i.invariant.0 h), λ h. c.loop-i.invariant.1 (rest.1 h))
