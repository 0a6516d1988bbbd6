use Rattle.std.proofs.Common.{◌≡◌, true, map, arith}
use Rattle.std.specs.List.{HoldsAt}
use Rattle.lois_deciders.specs.Choice.{IsUnwanted}
use Rattle.lois_deciders.proofs.Following.{up_to}
use Rattle.lois_deciders.proofs.Choosing.{unwanted_at, first_wanted, some_wanted}
use Rattle.lois_deciders.proofs.chosen.Chosen.choose.Goals as goal

pub loop-position-preserved : goal.loop-position-preserved
loop-position-preserved g c = λ i l.
    up_to (λ j. HoldsAt (IsUnwanted c.args.kind) (map (λ b. (goal.Decider-dyn g (b.vtable, b.value)).kind_of b.value) c.args.deciders.items) j) c.loop-position.position c.loop-position.invariant (unwanted_at (λ b. (goal.Decider-dyn g (b.vtable, b.value)).kind_of b.value) c.args.kind c.args.deciders.items c.loop-position.position c.index.result.now (omega arith) c.index.ensures (λ w. let t : c.is_wanted.result ≡ true = c.is_wanted.ensures.1 w in
    let f = c.if-is_wanted.false in
    cc)) i l

pub returns-then-is_wanted-clause-chosen : goal.returns-then-is_wanted-clause-chosen
returns-then-is_wanted-clause-chosen g c =
    first_wanted (λ b. (goal.Decider-dyn g (b.vtable, b.value)).kind_of b.value) c.args.kind c.args.deciders.items c.loop-position.position c.index.result.now (omega arith) c.index.ensures (c.is_wanted.ensures.0 c.if-is_wanted.true) c.loop-position.invariant

pub returns-then-is_wanted-clause-none : goal.returns-then-is_wanted-clause-none
returns-then-is_wanted-clause-none g c =
    (λ n. absurd (cc), λ all. absurd (some_wanted (λ b. (goal.Decider-dyn g (b.vtable, b.value)).kind_of b.value) c.args.kind c.args.deciders.items c.loop-position.position c.index.result.now (omega arith) c.index.ensures (c.is_wanted.ensures.0 c.if-is_wanted.true) all))
