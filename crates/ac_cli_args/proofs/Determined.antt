-- Words spell one command at most, and a word gives one list of values.
use Rattle.std.proofs.Common.{◌≡◌, ◌<◌, ◌^◌, true≢false, nat_eq, ℕ, ℤ, List, [], ◌∷◌, map, Option, None, Some, refl, sym, ap, ◌∙◌, arith}
use Rattle.std.specs.Prelude.{codes}
use Rattle.clap.specs.Words.{Row, Text, first_of, subcommand_of}
use Rattle.ac_cli_args.specs.CommandLine.{command_line}
use Rattle.ac_cli_args.specs.DecimalNumbers.{IsLimitOr, IsNumberIn, IsSeed, IsSize}
use Rattle.ac_cli_args.specs.Commands.{Asked, prove, check_of, instance_of, flow_of, gen_of, legal_of, aprove_of, Asks, AsksIn, HasNumber}
use Rattle.ac_cli_args.specs.SymbolLists.{HasSymbols}
use Rattle.ac_cli_args.specs.Valuations.{given_to}
use Rattle.ac_cli_args.specs.UniqueCommands.{HasOneCommand, HasOneValuation}
use Rattle.ac_cli_args.proofs.Numerals.{number_is}
use Rattle.ac_cli_args.proofs.Reading.{entries_once}

number_once : (least greatest : ℕ) (text : List ℕ) (n m : ℕ) → greatest < 2 ^ 64 → IsNumberIn least greatest text n → IsNumberIn least greatest text m → n ≡ m
number_once least greatest text n m room h k = number_is least greatest text n m room h (let b = k.at_most in omega (arith, b, room)) k.spelled

limit_once : (otherwise : ℕ) (d : Option (List ℕ)) (n m : ℕ) → IsLimitOr otherwise d n → IsLimitOr otherwise d m → n ≡ m
limit_once otherwise None n m h k = h ∙ sym k
limit_once otherwise (Some d) n m h k = number_once 1 1000000 d n m (omega arith) h k

seed_once : (d : Option (List ℕ)) (n m : ℕ) → HasNumber IsSeed d n → HasNumber IsSeed d m → n ≡ m
seed_once None n m h k = absurd h
seed_once (Some d) n m h k = number_once 0 18446744073709551615 d n m (omega arith) h k

size_once : (d : Option (List ℕ)) (n m : ℕ) → HasNumber IsSize d n → HasNumber IsSize d m → n ≡ m
size_once None n m h k = absurd h
size_once (Some d) n m h k = number_once 1 12 d n m (omega arith) h k

value_once : (o : Option Text) (a b : Text) → o ≡ Some a → o ≡ Some b → a ≡ b
value_once None a b h k = absurd cc
value_once (Some v) a b h k = let first : v ≡ a = cc in let second : v ≡ b = cc in sym first ∙ second

symbols_once : (d : Option Text) (ns ms : List Text) → HasSymbols d ns → HasSymbols d ms → ns ≡ ms
symbols_once None ns ms h k = absurd h
symbols_once (Some d) ns ms h k = h.listed ∙ sym k.listed

-- the first letter of a name
abbrev letter : Text → ℕ
letter [] = 0
letter (c ∷ cs) = c

asks_once : (name : Text) (found : List Row) (asked other : Asked) → Asks name found asked → Asks name found other → asked ≡ other
asks_once name found (prove a b budget proof) (prove a' b' budget' proof') h k =
    let first = value_once (first_of (codes "A") found) a a' h.1 k.1 in
    let second = value_once (first_of (codes "B") found) b b' h.2 k.2 in
    let number = limit_once 50000 (first_of (codes "budget") found) budget budget' h.3 k.3 in
    let file = sym h.4 ∙ k.4 in
    λ i. prove (first i) (second i) (number i) (file i)
asks_once name found (prove a b budget proof) (check_of a' b' p') h k = absurd (true≢false (ap (λ n. nat_eq (letter n) 112) (sym h.0 ∙ k.0)))
asks_once name found (prove a b budget proof) (instance_of a' b' at' limit') h k = absurd (true≢false (ap (λ n. nat_eq (letter n) 112) (sym h.0 ∙ k.0)))
asks_once name found (prove a b budget proof) (flow_of a') h k = absurd (true≢false (ap (λ n. nat_eq (letter n) 112) (sym h.0 ∙ k.0)))
asks_once name found (prove a b budget proof) (gen_of seed' size') h k = absurd (true≢false (ap (λ n. nat_eq (letter n) 112) (sym h.0 ∙ k.0)))
asks_once name found (prove a b budget proof) (legal_of a' order') h k = absurd (true≢false (ap (λ n. nat_eq (letter n) 112) (sym h.0 ∙ k.0)))
asks_once name found (prove a b budget proof) (aprove_of a' b' names') h k = absurd (true≢false (ap (λ n. nat_eq (letter n) 112) (sym h.0 ∙ k.0)))
asks_once name found (check_of a b p) (prove a' b' budget' proof') h k = absurd (true≢false (ap (λ n. nat_eq (letter n) 99) (sym h.0 ∙ k.0)))
asks_once name found (check_of a b p) (check_of a' b' p') h k =
    let first = value_once (first_of (codes "A") found) a a' h.1 k.1 in
    let second = value_once (first_of (codes "B") found) b b' h.2 k.2 in
    let third = value_once (first_of (codes "P") found) p p' h.3 k.3 in
    λ i. check_of (first i) (second i) (third i)
asks_once name found (check_of a b p) (instance_of a' b' at' limit') h k = absurd (true≢false (ap (λ n. nat_eq (letter n) 99) (sym h.0 ∙ k.0)))
asks_once name found (check_of a b p) (flow_of a') h k = absurd (true≢false (ap (λ n. nat_eq (letter n) 99) (sym h.0 ∙ k.0)))
asks_once name found (check_of a b p) (gen_of seed' size') h k = absurd (true≢false (ap (λ n. nat_eq (letter n) 99) (sym h.0 ∙ k.0)))
asks_once name found (check_of a b p) (legal_of a' order') h k = absurd (true≢false (ap (λ n. nat_eq (letter n) 99) (sym h.0 ∙ k.0)))
asks_once name found (check_of a b p) (aprove_of a' b' names') h k = absurd (true≢false (ap (λ n. nat_eq (letter n) 99) (sym h.0 ∙ k.0)))
asks_once name found (instance_of a b at limit) (prove a' b' budget' proof') h k = absurd (true≢false (ap (λ n. nat_eq (letter n) 105) (sym h.0 ∙ k.0)))
asks_once name found (instance_of a b at limit) (check_of a' b' p') h k = absurd (true≢false (ap (λ n. nat_eq (letter n) 105) (sym h.0 ∙ k.0)))
asks_once name found (instance_of a b at limit) (instance_of a' b' at' limit') h k =
    let first = value_once (first_of (codes "A") found) a a' h.1 k.1 in
    let second = value_once (first_of (codes "B") found) b b' h.2 k.2 in
    let word = sym h.3 ∙ k.3 in
    let number = limit_once 1000000 (first_of (codes "limit") found) limit limit' h.4 k.4 in
    λ i. instance_of (first i) (second i) (word i) (number i)
asks_once name found (instance_of a b at limit) (flow_of a') h k = absurd (true≢false (ap (λ n. nat_eq (letter n) 105) (sym h.0 ∙ k.0)))
asks_once name found (instance_of a b at limit) (gen_of seed' size') h k = absurd (true≢false (ap (λ n. nat_eq (letter n) 105) (sym h.0 ∙ k.0)))
asks_once name found (instance_of a b at limit) (legal_of a' order') h k = absurd (true≢false (ap (λ n. nat_eq (letter n) 105) (sym h.0 ∙ k.0)))
asks_once name found (instance_of a b at limit) (aprove_of a' b' names') h k = absurd (true≢false (ap (λ n. nat_eq (letter n) 105) (sym h.0 ∙ k.0)))
asks_once name found (flow_of a) (prove a' b' budget' proof') h k = absurd (true≢false (ap (λ n. nat_eq (letter n) 102) (sym h.0 ∙ k.0)))
asks_once name found (flow_of a) (check_of a' b' p') h k = absurd (true≢false (ap (λ n. nat_eq (letter n) 102) (sym h.0 ∙ k.0)))
asks_once name found (flow_of a) (instance_of a' b' at' limit') h k = absurd (true≢false (ap (λ n. nat_eq (letter n) 102) (sym h.0 ∙ k.0)))
asks_once name found (flow_of a) (flow_of a') h k =
    let first = value_once (first_of (codes "A") found) a a' h.1 k.1 in
    ap (λ file. flow_of file) first
asks_once name found (flow_of a) (gen_of seed' size') h k = absurd (true≢false (ap (λ n. nat_eq (letter n) 102) (sym h.0 ∙ k.0)))
asks_once name found (flow_of a) (legal_of a' order') h k = absurd (true≢false (ap (λ n. nat_eq (letter n) 102) (sym h.0 ∙ k.0)))
asks_once name found (flow_of a) (aprove_of a' b' names') h k = absurd (true≢false (ap (λ n. nat_eq (letter n) 102) (sym h.0 ∙ k.0)))
asks_once name found (gen_of seed size) (prove a' b' budget' proof') h k = absurd (true≢false (ap (λ n. nat_eq (letter n) 103) (sym h.0 ∙ k.0)))
asks_once name found (gen_of seed size) (check_of a' b' p') h k = absurd (true≢false (ap (λ n. nat_eq (letter n) 103) (sym h.0 ∙ k.0)))
asks_once name found (gen_of seed size) (instance_of a' b' at' limit') h k = absurd (true≢false (ap (λ n. nat_eq (letter n) 103) (sym h.0 ∙ k.0)))
asks_once name found (gen_of seed size) (flow_of a') h k = absurd (true≢false (ap (λ n. nat_eq (letter n) 103) (sym h.0 ∙ k.0)))
asks_once name found (gen_of seed size) (gen_of seed' size') h k =
    let first = seed_once (first_of (codes "SEED") found) seed seed' h.1 k.1 in
    let second = size_once (first_of (codes "SIZE") found) size size' h.2 k.2 in
    λ i. gen_of (first i) (second i)
asks_once name found (gen_of seed size) (legal_of a' order') h k = absurd (true≢false (ap (λ n. nat_eq (letter n) 103) (sym h.0 ∙ k.0)))
asks_once name found (gen_of seed size) (aprove_of a' b' names') h k = absurd (true≢false (ap (λ n. nat_eq (letter n) 103) (sym h.0 ∙ k.0)))
asks_once name found (legal_of a order) (prove a' b' budget' proof') h k = absurd (true≢false (ap (λ n. nat_eq (letter n) 108) (sym h.0 ∙ k.0)))
asks_once name found (legal_of a order) (check_of a' b' p') h k = absurd (true≢false (ap (λ n. nat_eq (letter n) 108) (sym h.0 ∙ k.0)))
asks_once name found (legal_of a order) (instance_of a' b' at' limit') h k = absurd (true≢false (ap (λ n. nat_eq (letter n) 108) (sym h.0 ∙ k.0)))
asks_once name found (legal_of a order) (flow_of a') h k = absurd (true≢false (ap (λ n. nat_eq (letter n) 108) (sym h.0 ∙ k.0)))
asks_once name found (legal_of a order) (gen_of seed' size') h k = absurd (true≢false (ap (λ n. nat_eq (letter n) 108) (sym h.0 ∙ k.0)))
asks_once name found (legal_of a order) (legal_of a' order') h k =
    let first = value_once (first_of (codes "A") found) a a' h.1 k.1 in
    let second = value_once (first_of (codes "S") found) order order' h.2 k.2 in
    λ i. legal_of (first i) (second i)
asks_once name found (legal_of a order) (aprove_of a' b' names') h k = absurd (true≢false (ap (λ n. nat_eq (letter n) 108) (sym h.0 ∙ k.0)))
asks_once name found (aprove_of a b names) (prove a' b' budget' proof') h k = absurd (true≢false (ap (λ n. nat_eq (letter n) 97) (sym h.0 ∙ k.0)))
asks_once name found (aprove_of a b names) (check_of a' b' p') h k = absurd (true≢false (ap (λ n. nat_eq (letter n) 97) (sym h.0 ∙ k.0)))
asks_once name found (aprove_of a b names) (instance_of a' b' at' limit') h k = absurd (true≢false (ap (λ n. nat_eq (letter n) 97) (sym h.0 ∙ k.0)))
asks_once name found (aprove_of a b names) (flow_of a') h k = absurd (true≢false (ap (λ n. nat_eq (letter n) 97) (sym h.0 ∙ k.0)))
asks_once name found (aprove_of a b names) (gen_of seed' size') h k = absurd (true≢false (ap (λ n. nat_eq (letter n) 97) (sym h.0 ∙ k.0)))
asks_once name found (aprove_of a b names) (legal_of a' order') h k = absurd (true≢false (ap (λ n. nat_eq (letter n) 97) (sym h.0 ∙ k.0)))
asks_once name found (aprove_of a b names) (aprove_of a' b' names') h k =
    let first = value_once (first_of (codes "A") found) a a' h.1 k.1 in
    let second = value_once (first_of (codes "B") found) b b' h.2 k.2 in
    let third = symbols_once (first_of (codes "SYMBOLS") found) names names' h.3 k.3 in
    λ i. aprove_of (first i) (second i) (third i)

in_once : (met : Option (Text × List Row)) (asked other : Asked) → AsksIn met asked → AsksIn met other → asked ≡ other
in_once None asked other h k = absurd h
in_once (Some p) asked other h k = asks_once p.0 p.1 asked other h k

pub one_command : HasOneCommand
one_command words asked other h k = in_once (subcommand_of command_line words) asked other h.spelled.asks k.spelled.asks

singles_once : (values others : List ℤ) → map (λ v. v ∷ []) values ≡ map (λ v. v ∷ []) others → values ≡ others
singles_once [] [] e = refl
singles_once [] (w ∷ ws) e = absurd cc
singles_once (v ∷ vs) [] e = absurd cc
singles_once (v ∷ vs) (w ∷ ws) e =
    let first : v ≡ w = cc in
    let rest : map (λ v. v ∷ []) vs ≡ map (λ v. v ∷ []) ws = cc in
    let more : vs ≡ ws = singles_once vs ws rest in
    λ i. first i ∷ more i

pub one_valuation : HasOneValuation
one_valuation params word values others h k =
    let same : h.given ≡ k.given = entries_once _ h.given k.given h.entries k.entries in
    singles_once values others (sym h.gives.each ∙ ap (λ given. map (λ name. given_to name given) params) same ∙ k.gives.each)
