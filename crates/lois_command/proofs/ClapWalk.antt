-- What clap makes of words that are no options, at any level of a command line.
use Rattle.std.proofs.Common.{◌≡◌, ℕ, Bool, true, false, List, [], ◌∷◌, Option, Some, None, option_map, Box, box_value, ap₂, refl, sym, subst, bytes_eq, if◌then◌else◌, arith}
use Rattle.std.proofs.lemmas.Bool.Decides.{nat_tests}
use Rattle.clap.specs.Faults.{level_fault, stray_fault, turn_fault, walk_fault}
use Rattle.clap.specs.Kinds.{Kinds, or_else}
use Rattle.clap.specs.Lexer.{long_of, short_of}
use Rattle.clap.specs.Simple.{Shape, subcommand_rows}
use Rattle.clap.specs.Walk.{Held, Names, Row, Text, Walk, arg_by_index, idle, nothing_held, subcommand_met, walk_from, walked}
use Rattle.clap.specs.declared.error.kind.ErrorKind.TheVariants as kind
use Rattle.clap.specs.declared.parser.matches.ArgMatches.TheViews.{out-SubCommand}
use Rattle.clap.specs.declared.parser.matches.SubCommand.{SubCommand}
use Rattle.lois_base.proofs.Lists.{same_item}
use Rattle.lois_command.specs.CommandWords.{is_dashed}
use Rattle.lois_command.specs.FreeNames.{free_name}

abbrev pub HasFault : Kinds → Type 0
HasFault kinds = kinds ≡ [] → ⊥

pub or_fault : (a b : Kinds) → HasFault a → HasFault (or_else a b)
or_fault [] b h = λ e. h refl
or_fault (k ∷ ks) b h = λ e. cc e

pub plain_long : (w : List ℕ) → is_dashed w ≡ false → long_of w ≡ None
plain_long [] d = refl
plain_long (x ∷ xs) d = rw d refl

pub plain_short : (w : List ℕ) → is_dashed w ≡ false → short_of w ≡ None
plain_short [] d = refl
plain_short (x ∷ xs) d = rw d refl

pub plain_apart : (w t : List ℕ) → is_dashed w ≡ false → bytes_eq w (45 ∷ t) ≡ false
plain_apart [] t d = refl
plain_apart (x ∷ xs) t d = rw d refl

-- where words went to positional arguments before
abbrev pub walk_at : ℕ → Held → Walk
walk_at position h = record (walk_from h) { position = position }

-- a word that starts with no hyphen, names no subcommand and goes to no positional argument
pub stray : (s : Shape) (names : Names) (position : ℕ) (h : Held) (w : Text) → is_dashed w ≡ false → subcommand_met names idle w ≡ None → arg_by_index s.rules position ≡ None → turn_fault s names (walk_at position h) w ≡ stray_fault s
stray s names position h w d none nowhere = rw (none, plain_apart w (45 ∷ []) d, plain_long w d, plain_short w d, nowhere) refl

pub stray_fails : (s : Shape) → HasFault (stray_fault s)
stray_fails s = go s.is_leaf
  where
    go : (b : Bool) → HasFault (if b then kind.UnknownArgument ∷ [] else kind.UnknownArgument ∷ kind.InvalidSubcommand ∷ [])
    go true = λ e. cc e
    go false = λ e. cc e

pub walk_fails : (s : Shape) (names : Names) (w : Walk) (word : Text) (rest : List Text) → HasFault (turn_fault s names w word) → HasFault (walk_fault s names w (word ∷ rest))
unfolding walk_fault
walk_fails s names w word rest h = or_fault _ _ h

pub level_fails : (s : Shape) (names : Names) (words : List Text) (has : Bool) (below : Kinds) → HasFault (walk_fault s names (walk_from nothing_held) words) → HasFault (level_fault s names nothing_held words has below)
level_fails s names words has below h = or_fault _ _ h

pub or_later : (a b : Kinds) → HasFault b → HasFault (or_else a b)
or_later [] b h = h
or_later (k ∷ ks) b h = λ e. cc e

-- a word that no argument takes, wherever it stands
pub stray_at : (s : Shape) (position : ℕ) (h : Held) (k : Text) (more : List Text) → arg_by_index s.rules position ≡ None → is_dashed k ≡ false → HasFault (walk_fault s [] (walk_at position h) (k ∷ more))
stray_at s position h k more nowhere d = walk_fails s [] (walk_at position h) k more (subst HasFault (sym (stray s [] position h k d refl nowhere)) (stray_fails s))

pub later : (s : Shape) (w next : Walk) (o : Text) (rest : List Text) → walked s.rules [] w o ≡ next → HasFault (walk_fault s [] next rest) → HasFault (walk_fault s [] w (o ∷ rest))
unfolding walk_fault
later s w next o rest is fails = or_later _ _ (subst (λ (x : Walk). HasFault (walk_fault s [] x rest)) (sym is) fails)

pub dashed_free : (w : Text) → is_dashed w ≡ true → free_name w ≡ None
dashed_free [] d = refl
dashed_free (b ∷ bs) d = let hyphen : b ≡ 45 = grind (arith, nat_tests) in rw hyphen refl

-- the name and the rows of a subcommand, from both
pub entered_is : {Z : Type 0} (o : Option (Box SubCommand Z)) (name : List ℕ) (rows : List Row) → Some name ≡ option_map (λ b. (out-SubCommand (box_value b)).name.now) o → Some rows ≡ option_map (λ p. p.1) (subcommand_rows o) → subcommand_rows o ≡ Some (name, rows)
entered_is None name rows e f = cc e
entered_is (Some b) name rows e f = sym (ap₂ (λ (n : List ℕ) (r : List Row). Some (n, r)) (same_item name _ e) (same_item rows _ f))
