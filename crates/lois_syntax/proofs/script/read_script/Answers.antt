use Rattle.std.proofs.Common.{Err, inl, inr, ⊎_elim, ap, ◌∙◌}
use Rattle.lois_script.specs.View.{script_tree}
use Rattle.lois_syntax.proofs.ReadScript.{spells, those, never_refused, refuses, refuses_so, accepts}
use Rattle.lois_syntax.proofs.script.read_script.Goals as goal

pub returns-in-Ok-clause-script : goal.returns-in-Ok-clause-script
returns-in-Ok-clause-script c = spells c.args.text.now c.args.tokens.now c.requires.cut (script_tree c.in-Ok.script) c.in-Ok.ensures.read

pub returns-in-Err-clause-refused : goal.returns-in-Err-clause-refused
returns-in-Err-clause-refused c = rw c.error_of.ensures (refuses c.args.text.now c.args.tokens.now c.requires.cut c.in-Err.halt c.in-Err.ensures.read)

pub returns-in-Err-clause-accepts : goal.returns-in-Err-clause-accepts
returns-in-Err-clause-accepts c = rw c.error_of.ensures (accepts c.args.text.now c.args.tokens.now c.requires.cut c.in-Err.halt c.in-Err.ensures.read)

pub returns-in-Ok-clause-exact : goal.returns-in-Ok-clause-exact
returns-in-Ok-clause-exact c = those c.args.text.now c.args.tokens.now c.requires.cut (script_tree c.in-Ok.script) c.in-Ok.ensures.read

pub returns-in-Ok-clause-refuses : goal.returns-in-Ok-clause-refuses
returns-in-Ok-clause-refuses c = λ error refused.
    absurd (never_refused c.args.text.now c.args.tokens.now c.requires.cut (script_tree c.in-Ok.script) c.in-Ok.ensures.read error refused)

pub returns-in-Err-clause-refuses : goal.returns-in-Err-clause-refuses
returns-in-Err-clause-refuses c = λ error refused.
    ⊎_elim (λ same. inl (ap (λ x. Err x) (c.error_of.ensures ∙ same))) (λ memory. inr (ap (λ x. Err x) (c.error_of.ensures ∙ memory)))
    (refuses_so c.args.text.now c.args.tokens.now c.requires.cut c.in-Err.halt c.in-Err.ensures.read error refused)
