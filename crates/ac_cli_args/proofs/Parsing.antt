-- What clap gives for the command line.
use Rattle.std.proofs.Common.{◌≡◌, ◌<◌, ◌++◌, ℕ, zero, suc, true, List, [], ◌∷◌, length, map, get_or, Option, None, Some, option_map, MatchOption, Err, ⊎_elim, refl, sym, subst, arith}
use Rattle.std.specs.List.{AllByRecursion}
use Rattle.clap.specs.Words.{Kinds, found_of, rows_of, FailsBy, Row, Text, IsAmong, fault_of, is_simple, is_simple_and_free, kind_of, subcommand_of, subcommand_rows_of}
use Rattle.clap.specs.Matches.{subcommand_name_of}
use Rattle.std.specs.Box.{box_value}
use Rattle.clap.specs.declared.parser.matches.ArgMatches.TheViews.{out-ArgMatches, out-SubCommand}
use Rattle.clap.specs.declared.Error.{Error}
use Rattle.clap.specs.declared.ArgMatches.{ArgMatches}
use Rattle.clap.specs.declared.error.ErrorKind.TheVariants as kind
use Rattle.clap.proofs.OnLiterals.{clap_on_literals}
use Rattle.ac_cli_args.specs.CommandLine.{command_line}
use Rattle.ac_cli_args.specs.Commands.{Asked, Asks, AsksIn, IsSpelled, asked_by}
use Rattle.ac_cli_args.specs.declared.command.Command.{Command}

-- the command line is simple, and no argument has a rule on another
pub is_plain : is_simple_and_free command_line ≡ true
unfolding clap_on_literals
is_plain = refl

pub has_plain : is_simple command_line ≡ true
unfolding clap_on_literals
has_plain = refl

among_none : (ks : Kinds) (e : Error) → IsAmong (kind_of e) ks → ¬ (ks ≡ [])
among_none ks e h none = subst (IsAmong (kind_of e)) none h

-- an error other than want of memory comes only where the words have a fault
pub has_fault : (ks : Kinds) (e : Error) → FailsBy {T = ArgMatches} ks (Err e) → ¬ (kind_of e ≡ kind.OutOfMemory) → ¬ (ks ≡ [])
has_fault ks e h other none = ⊎_elim (λ memory. other memory) (λ among. among_none ks e among none) h

-- what the subcommand asks for, the words ask for
pub asked_from : (words : List Text) (name : Text) (rows : List Row) → fault_of command_line words ≡ [] → subcommand_of command_line words ≡ Some (name, rows)
    → (r : Option Command) → MatchOption r ((a : Asked) → ¬ (Asks name rows a)) (λ c. Asks name rows (asked_by c))
    → MatchOption r ((a : Asked) → ¬ (IsSpelled words a)) (λ c. IsSpelled words (asked_by c))
asked_from words name rows taken met None h = λ a k. h a (subst (λ m. AsksIn m a) met k.asks)
asked_from words name rows taken met (Some c) h = record { taken = taken; asks = subst (λ m. AsksIn m (asked_by c)) (sym met) h }

-- where there is none, they ask for nothing
pub nothing_from : (words : List Text) → subcommand_of command_line words ≡ None → (a : Asked) → ¬ (IsSpelled words a)
nothing_from words met a k = subst (λ m. AsksIn m a) met k.asks

abbrev both : {B : Type 0} → (B → Text) → (B → List Row) → Option B → Option (Text × List Row)
both f g o = option_map (λ b. (f b, g b)) o

both_are : {B : Type 0} (f : B → Text) (g : B → List Row) (o : Option B) (name : Text) (rows : List Row)
    → option_map f o ≡ Some name → option_map (λ (p : Text × List Row). p.1) (both f g o) ≡ Some rows → both f g o ≡ Some (name, rows)
both_are f g None name rows h k = absurd cc
both_are f g (Some b) name rows h k =
    let first : f b ≡ name = cc in
    let second : g b ≡ rows = cc in
    λ i. Some (first i, second i)

-- the subcommand that a parse met, by its name and its rows
pub met_is : (m : ArgMatches) (name : Text) (rows : List Row) → subcommand_name_of m ≡ Some name → option_map (λ (p : Text × List Row). p.1) (subcommand_rows_of m) ≡ Some rows
    → subcommand_rows_of m ≡ Some (name, rows)
met_is m name rows h k = both_are (λ b. (out-SubCommand (box_value b)).name.now) (λ b. rows_of (found_of (out-SubCommand (box_value b)).matches)) (out-ArgMatches m).subcommand name rows h k

-- ---- texts

pub all_more : {A : Type 0} (P : A → Type 0) (xs : List A) (x : A) → AllByRecursion P xs → P x → AllByRecursion P (xs ++ x ∷ [])
all_more P [] x h k = (k, tt)
all_more P (y ∷ ys) x h k = (h.0, all_more P ys x h.1 k)

pub all_at : {A B : Type 0} (P : B → Type 0) (f : A → B) (xs : List A) (i : ℕ) (d : A) → i < length xs → AllByRecursion P (map f xs) → P (f (get_or xs i d))
all_at P f [] i d k h = absurd (omega (arith, k))
all_at P f (x ∷ xs) zero d k h = h.0
all_at P f (x ∷ xs) (suc i) d k h = all_at P f xs i d (omega (arith, k)) h.1
