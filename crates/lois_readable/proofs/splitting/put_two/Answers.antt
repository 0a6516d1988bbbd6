use Rattle.std.proofs.Common.{◌≡◌, ◌+◌, [], ◌∷◌, ◌++◌, subst}
use Rattle.lois_base.specs.Data.{comp}
use Rattle.lois_base.specs.Tree.{tree, comp_of}
use Rattle.lois_deciders.proofs.Oracle.{on_ok}
use Rattle.lois_readable.proofs.Parted.{parts_kept, only_fits, only_admitted, put_both}
use Rattle.lois_readable.proofs.splitting.put_two.Goals as goal

pub returns : goal.returns
returns c =
    let k = c.args.comp.now in
    let d = c.in_ok-only.only in
    let is = c.in_ok-only.ensures in
    let p = c.in_ok-meet.field-0 in
    let q = c.in_ok-and_not.field-0 in
    let t = tree k.item in
    let first = subst (λ x. c.push.new.self ≡ c.args.parted.now ++ comp k.binders p (tree x) ∷ []) c.in_ok-copy.ensures c.in_ok-push.ensures.ok in
    on_ok c.push-2.result (c.push-2.new.self ≡ c.push.new.self ++ comp k.binders q (tree c.in_ok-copy-2.field-0) ∷ []) _
    (λ pushed u n fits.
    let only = only_fits (n + k.binders) c.args.lit d is fits in
    put_both u n c.args.parted.now c.push.new.self c.push-2.new.self (comp_of k) (comp k.binders p t) (comp k.binders q t) first
    (subst (λ x. c.push-2.new.self ≡ c.push.new.self ++ comp k.binders q (tree x) ∷ []) c.in_ok-copy-2.ensures pushed)
    (parts_kept k.binders k.guard d p q t c.in_ok-meet.ensures.truth c.in_ok-and_not.ensures.truth u n
    (λ f. c.in_ok-meet.ensures.fits (n + k.binders) f only)
    (λ f. c.in_ok-and_not.ensures.fits (n + k.binders) f only)
    (λ o f. c.in_ok-meet.ensures.operators o f.0 (only_admitted o c.args.lit d is (c.requires o f)))
    (λ o f. c.in_ok-and_not.ensures.operators o f.0 (only_admitted o c.args.lit d is (c.requires o f)))))
    c.push-2.ensures.ok
