-- Worked texts: what some results and traces are written as.
use Rattle.std.specs.Prelude.{◌≡◌, ℕ, true, false, List, [], ◌∷◌, codes}
use Rattle.std.specs.List.{flat_map}
use Rattle.lois_base.specs.Data.{TermD, var, tag, tup, coll, terms_of, comp, comps_of}
use Rattle.lois_base.specs.declared.guards.Lit.{Lit}
use Rattle.lois_base.specs.declared.guards.Op.TheVariants.{Eq, Ne, Lt}
use Rattle.lois_answers.specs.ResultsData.{LineD}
use Rattle.lois_answers.specs.ResultsText.{lined, results_text}
use Rattle.lois_answers.specs.TraceText.{trace_text}
use Rattle.lois_answers.specs.declared.faults.FaultKind.TheVariants.{Assertion, NotASet}
use Rattle.lois_answers.specs.declared.faults.Trace.{Trace}
use Rattle.lois_answers.specs.declared.results.Results.{Results}

abbrev a : List ℕ
a = codes "a"

abbrev b : List ℕ
b = codes "b"

abbrev line : List ℕ → TermD → LineD
line name term = record { name = name; term = term }

abbrev different : ℕ → ℕ → Lit
different i j = record { op = Ne; left = i; right = j }

abbrev less : ℕ → ℕ → Lit
less i j = record { op = Lt; left = i; right = j }

abbrev always : List (List Lit)
always = [] ∷ []

-- the set of all atoms
abbrev all_atoms : Results
all_atoms =
    record { order = false; parameters = []; cases = record { «when» = always; lines = line a (coll (comps_of (comp 1 always (var 0) ∷ []))) ∷ [] } ∷ [] }

abbrev pub AllAtoms : Type 0
AllAtoms =
    results_text all_atoms ≡ flat_map lined (codes "lois results 1" ∷ codes "atoms equality" ∷ codes "parameters" ∷ codes "case when true" ∷ codes "a = {$0 for $0}" ∷ codes "end" ∷ [])

-- an open interval between two parameters
abbrev interval : Results
interval =
    record { order = true; parameters = a ∷ b ∷ []; cases = record { «when» = always; lines = line (codes "i") (coll (comps_of (comp 1 ((less 0 2 ∷ less 2 1 ∷ []) ∷ []) (var 2) ∷ []))) ∷ [] } ∷ [] }

abbrev pub Interval : Type 0
Interval =
    results_text interval ≡ flat_map lined (codes "lois results 1" ∷ codes "atoms order" ∷ codes "parameters a b" ∷ codes "case when true" ∷ codes "i = {$2 for $2 if a<$2 and $2<b}" ∷ codes "end" ∷ [])

-- a case for equal parameters, and one for different ones
abbrev tags : Results
tags =
    record { order = false; parameters = a ∷ b ∷ []; cases = record { «when» = (record { op = Eq; left = 0; right = 1 } ∷ []) ∷ []; lines = line (codes "s") (coll (comps_of (comp 0 always (tag (codes "eq")) ∷ []))) ∷ [] } ∷ record { «when» = (different 0 1 ∷ []) ∷ []; lines = line (codes "s") (coll (comps_of (comp 0 always (tag (codes "ne")) ∷ []))) ∷ [] } ∷ [] }

abbrev pub Tags : Type 0
Tags =
    results_text tags ≡ flat_map lined (codes "lois results 1" ∷ codes "atoms equality" ∷ codes "parameters a b" ∷ codes "case when a=b" ∷ codes "s = {'eq}" ∷ codes "case when a!=b" ∷ codes "s = {'ne}" ∷ codes "end" ∷ [])

-- the least automaton of the words whose first and last letters agree: its states
abbrev classes : TermD
classes =
    coll (comps_of (comp 0 always (coll (comps_of (comp 0 always (tag (codes "start")) ∷ []))) ∷ comp 1 always (coll (comps_of (comp 0 always (tup (terms_of (var 0 ∷ var 0 ∷ []))) ∷ []))) ∷ comp 1 always (coll (comps_of (comp 1 ((different 0 1 ∷ []) ∷ []) (tup (terms_of (var 0 ∷ var 1 ∷ []))) ∷ []))) ∷ []))

abbrev pub Classes : Type 0
Classes =
    results_text (record { order = false; parameters = []; cases = record { «when» = always; lines = line (codes "q") classes ∷ [] } ∷ [] })
    ≡ flat_map lined (codes "lois results 1" ∷ codes "atoms equality" ∷ codes "parameters" ∷ codes "case when true" ∷ codes "q = {{'start}, {($0, $0)} for $0, {($0, $1) for $1 if $0!=$1} for $0}" ∷ codes "end" ∷ [])

-- an assertion that fails in two loops
abbrev loops : Trace
loops =
    record { order = false; parameters = []; line = 1; column = 51; kind = Assertion; sample = 0 ∷ 1 ∷ []; elements = line (codes "x") (var 0) ∷ line (codes "y") (var 1) ∷ [] }

abbrev pub Loops : Type 0
Loops =
    trace_text loops ≡ flat_map lined (codes "lois results 2" ∷ codes "atoms equality" ∷ codes "parameters" ∷ codes "failed at 1:51: assertion failed" ∷ codes "choice 0 1" ∷ codes "for x = $0" ∷ codes "for y = $1" ∷ codes "end" ∷ [])

-- an assertion on parameters that fails
abbrev choice : Trace
choice =
    record { order = true; parameters = a ∷ b ∷ []; line = 1; column = 30; kind = Assertion; sample = 0 ∷ 0 ∷ []; elements = [] }

abbrev pub Choice : Type 0
Choice =
    trace_text choice ≡ flat_map lined (codes "lois results 2" ∷ codes "atoms order" ∷ codes "parameters a b" ∷ codes "failed at 1:30: assertion failed" ∷ codes "choice 0 0" ∷ codes "end" ∷ [])

-- a name that holds no set, in a loop
abbrev no_set : Trace
no_set =
    record { order = true; parameters = []; line = 1; column = 40; kind = NotASet; sample = 0 ∷ []; elements = line (codes "x") (var 0) ∷ [] }

abbrev pub NoSet : Type 0
NoSet =
    trace_text no_set ≡ flat_map lined (codes "lois results 2" ∷ codes "atoms order" ∷ codes "parameters" ∷ codes "failed at 1:40: not a set" ∷ codes "choice 0" ∷ codes "for x = $0" ∷ codes "end" ∷ [])
