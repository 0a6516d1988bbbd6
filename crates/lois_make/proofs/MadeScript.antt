-- How long the made script is.
use Rattle.std.proofs.Common.{◌≡◌, ℕ, zero, suc, ◌+◌, ◌*◌, length, codes, refl, arith, length-append}
use Rattle.lois_answers.specs.ResultsText.{lined}
use Rattle.lois_make.specs.MadeScript.{made_loop, made_loops, made_script}

loop_length : (i : ℕ) → length (made_loop i) ≡ 74
loop_length i = refl

pub loops_length : (n : ℕ) → length (made_loops n) ≡ 74 * n
loops_length zero = refl
loops_length (suc n) = omega (arith, length-append (made_loops n) (made_loop n), loop_length n, loops_length n)

pub script_length : (n : ℕ) → length (made_script n) ≡ 37 + 74 * n
script_length n = omega (arith, length-append (made_loops n) (lined (codes "print s;")), loops_length n)
