-- Counts of a longest front.
use Rattle.std.specs.Prelude.{Bool}
use Rattle.std.specs.List.{prefix_len, take_while}
use Rattle.std.proofs.Common.{◌≡◌, ℕ, ◌≤◌, List, [], ◌∷◌, ◌++◌, length, map}
use Rattle.std.proofs.lemmas.List.{map-append}
use Rattle.ac_lex.specs.declared.tokens.Token.{Token}
use Rattle.ac_lex.specs.Lexemes.{lexeme_of}
use Rattle.std.proofs.lemmas.List.Folds.{length-prefix_len}
use Rattle.std.proofs.lemmas.List.Sums.{prefix_len-le-length}

pub count_is : (p : ℕ → Bool) (xs : List ℕ) → length (take_while p xs) ≡ prefix_len p xs
count_is p xs = length-prefix_len p xs

pub count_fits : (p : ℕ → Bool) (xs : List ℕ) → prefix_len p xs ≤ length xs
count_fits p xs = prefix_len-le-length p xs

pub one_more_lexeme : (tokens : List Token) (token : Token) → map lexeme_of (tokens ++ token ∷ []) ≡ map lexeme_of tokens ++ lexeme_of token ∷ []
one_more_lexeme tokens token = map-append lexeme_of tokens (token ∷ [])
