use Rattle.std.proofs.Common.{get_or, sym, refl, rules}
use Rattle.std.proofs.lemmas.Cmp.{ranked}
use Rattle.std.proofs.lemmas.List.Elements.{Contains-get_or}
use Rattle.std.proofs.lemmas.List.Sorted.{answers_always}
use Rattle.lois_relate.proofs.comparing.paired_at.Goals as goal

pub returns-in-Ok : goal.returns-in-Ok
returns-in-Ok c =
    let row = c.args.row.now in
    let found = c.in-Ok.found in
    let pair = c.index-row-found.result in
    let equal = c.in-Ok.ensures.position (λ p. p.place) (answers_always _ _ _ (λ f a r g called. search rules)) in
    (get_or row found pair, Contains-get_or row found pair c.in-Ok.ensures.bound, ranked _ c.args.place _ (sym (equal pair)), refl)
