-- Lists of operators and functions, joined by commas.
use Rattle.std.specs.Prelude.{◌≡◌, ◌≤◌, ◌<◌, ◌==◌, ℕ, List, [], ◌∷◌, length, codes, nat_eq, Bool, true, false, not, ◌&&◌, ◌||◌, Option, None, Some}
use Rattle.std.specs.List.{list_any, list_all, slice_split}
use Rattle.std.specs.Cmp.Lexicographic.{pointwise}
use Rattle.ac_lex.specs.Bytes.{is_letter, is_word_byte}
use Rattle.ac_lex.specs.declared.tokens.TokenKind.TheVariants as token
use Rattle.ac_parse_grammar.specs.Terminals.{terminal_by, is_name}

-- a letter or an underscore, then letters, underscores and digits
abbrev pub is_word : List ℕ → Bool
is_word [] = false
is_word (b ∷ bs) = is_letter b && list_all is_word_byte bs

-- a word that the grammar takes for a name, of at most 64 bytes
abbrev pub is_free_name : List ℕ → Bool
is_free_name text = is_word text && is_name (terminal_by token.Word text)

-- `+`, `*`, or such a name
abbrev pub is_symbol : List ℕ → Bool
is_symbol text = pointwise nat_eq text (codes "+") || pointwise nat_eq text (codes "*") || is_free_name text

-- no text stands twice
abbrev pub are_different : List (List ℕ) → Bool
are_different [] = true
are_different (x ∷ xs) = not (list_any (pointwise nat_eq x) xs) && are_different xs

-- the texts between the commas
abbrev pub listed_in : List ℕ → List (List ℕ)
listed_in word = slice_split (λ c. c == 44) word

-- a word lists these names: from 1 to 8 different symbols
pub record IsSymbolList (word : List ℕ) (names : List (List ℕ)) : Type 0 where
  pub listed : names ≡ listed_in word
  pub few : length names ≤ 8
  pub symbols : list_all is_symbol names ≡ true
  pub different : are_different names ≡ true

-- whether a word lists symbols
abbrev pub IsTold : Bool → List ℕ → Type 0
IsTold true word = IsSymbolList word (listed_in word)
IsTold false word = (names : List (List ℕ)) → ¬ (IsSymbolList word names)

-- what an argument lists; where it has no value it lists nothing
abbrev pub HasSymbols : Option (List ℕ) → List (List ℕ) → Type 0
HasSymbols None names = ⊥
HasSymbols (Some word) names = IsSymbolList word names

-- as many bytes as a name may have
abbrev pub FitsAName : List ℕ → Type 0
FitsAName text = (0 < length text) × (length text ≤ 64)
