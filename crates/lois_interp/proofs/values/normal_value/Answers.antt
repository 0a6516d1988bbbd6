use Rattle.lois_base.specs.Tree.{tree as term_tree}
use Rattle.lois_base.specs.Truth.{sampled}
use Rattle.lois_base.specs.Values.{point}
use Rattle.lois_base.proofs.NormalDepths.{normal_depth}
use Rattle.lois_script.specs.View.{tree}
use Rattle.lois_meaning.proofs.Moves.{gives_to}
use Rattle.lois_context.specs.Slots.{store_at}
use Rattle.lois_eval.proofs.FaultsAt.{own_sample}
use Rattle.lois_interp.proofs.values.normal_value.Goals as goal

pub returns-clause-value : goal.returns-clause-value
returns-clause-value g c =
    let k = c.args.context.now in
    let t = term_tree c.in_ok-term.term in
    let r = term_tree c.in_ok-simplify.field-0 in
    λ a adm. gives_to (tree c.args.e.now) (store_at a k.store) (point t a) (point r a) (c.in_ok-simplify.ensures.value a adm.0 adm.1) (c.in_ok-term.ensures.value a adm)

pub returns-clause-brackets : goal.returns-clause-brackets
returns-clause-brackets g c =
    let k = c.args.context.now in
    let t = term_tree c.in_ok-term.term in
    let r = term_tree c.in_ok-simplify.field-0 in
    let own = own_sample k in
    normal_depth r k.«when» k.size 64 k.levels c.in_ok-simplify.ensures.levels c.in_ok-simplify.ensures.normal (sampled k.sample, record { count = own.0; met = own.1 })
    (λ a m. (gives_to (tree c.args.e.now) (store_at a k.store) (point t a) (point r a) (c.in_ok-simplify.ensures.value a m.count m.met) (c.in_ok-term.ensures.value a (m.count, m.met))).1)
