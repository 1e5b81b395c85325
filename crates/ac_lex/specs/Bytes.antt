-- The classes of bytes that tokens are made of, by their ASCII codes (ISO/IEC 9899, 5.2.1).
use Rattle.std.specs.Prelude.{ℕ, Bool, not, ◌&&◌, ◌||◌, ◌==◌, nat_le, List, codes}
use Rattle.std.specs.List.{list_any}

-- one of the characters of a text
abbrev pub is_one_of : List ℕ → ℕ → Bool
is_one_of text b = list_any (λ c. b == c) text

abbrev pub is_newline : ℕ → Bool
is_newline b = b == 10

-- a space or a tab
abbrev pub is_indent : ℕ → Bool
is_indent b = b == 32 || b == 9

-- space, tab, line feed, vertical tab, form feed or carriage return
abbrev pub is_white_byte : ℕ → Bool
is_white_byte b = b == 32 || (nat_le 9 b && nat_le b 13)

-- white space inside a line
abbrev pub is_gap : ℕ → Bool
is_gap b = is_white_byte b && not (is_newline b)

abbrev pub is_inside_line : ℕ → Bool
is_inside_line b = not (is_newline b)

abbrev pub is_digit : ℕ → Bool
is_digit b = nat_le 48 b && nat_le b 57

-- a letter or an underscore
abbrev pub is_letter : ℕ → Bool
is_letter b = (nat_le 97 b && nat_le b 122) || (nat_le 65 b && nat_le b 90) || b == 95

-- a letter, an underscore or a digit
abbrev pub is_word_byte : ℕ → Bool
is_word_byte b = is_letter b || is_digit b

abbrev pub is_exponent_letter : ℕ → Bool
is_exponent_letter b = is_one_of (codes "eE") b

abbrev pub is_sign : ℕ → Bool
is_sign b = is_one_of (codes "+-") b

abbrev pub is_suffix_letter : ℕ → Bool
is_suffix_letter b = is_one_of (codes "fFlL") b
