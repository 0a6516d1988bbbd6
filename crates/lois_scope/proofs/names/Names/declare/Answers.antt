use Rattle.std.proofs.Common.{sym, ◌∙◌, ap, nat_eq, List, ℕ, Bor, Bool}
use Rattle.std.specs.Cmp.Lexicographic.{pointwise}
use Rattle.std.specs.Map.{lookup}
use Rattle.indexmap.proofs.CallerLemmas.{insert_entry-new}
use Rattle.lois_script.proofs.Lookup.{has}
use Rattle.lois_scope.proofs.Lookup.{present, absent, none_there}
use Rattle.lois_scope.proofs.names.Names.declare.Goals as goal

abbrev same_key : Bor (List ℕ) → Bor (List ℕ) → Bool
same_key x y = pointwise nat_eq x.now y.now

pub returns-then-contains_key : goal.returns-then-contains_key
returns-then-contains_key c = record {
  added = present c.args.name.now c.bytes.result.now c.args.made c.args.self.now.made.entries c.if-contains_key.ensures c.bytes.ensures.same;
}

pub returns : goal.returns
returns c = record {
  added =
      let apart = sym c.if-contains_key.false ∙ c.contains_key.ensures in
      let again = ap (λ (x : List ℕ). lookup (has x) c.args.self.now.made.entries) (c.bytes-2.ensures.same ∙ sym c.bytes.ensures.same) in
      absent c.args.name.now c.bytes.result.now c.args.made c.bytes-2.result c.args.self.now.made.entries c.insert.new.self.entries
      apart c.bytes.ensures.same c.bytes-2.ensures.same
      (c.in_ok-insert.ensures.entries ∙ insert_entry-new same_key c.args.self.now.made c.bytes-2.result c.args.made (again ∙ none_there _ apart));
}
