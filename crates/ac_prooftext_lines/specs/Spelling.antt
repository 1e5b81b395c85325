-- How the lines of a proof are spelled: a word that says what the line is, and words for its parts.
use Rattle.std.specs.Prelude.{ℕ, suc, ◌+◌, ℤ, pos, List, [], ◌∷◌, ◌++◌, map, length, codes, decimal, Option, Some, None, if◌then◌else◌}
use Rattle.std.specs.Fmt.{signed_decimal}
use Rattle.std.specs.Ordering.{int_eq}
use Rattle.ac_forms.specs.Affine.{Affine}
use Rattle.ac_forms.specs.declared.row.Row.{Row}
use Rattle.ac_forms.specs.declared.row.Row.TheVariants as row
use Rattle.ac_syntax.specs.declared.tree.Position.{Position}
use Rattle.ac_syntax.specs.declared.tree.Position.TheVariants as position
use Rattle.ac_syntax.specs.declared.tree.Order.{Order}
use Rattle.ac_syntax.specs.declared.tree.Order.TheVariants as order
use Rattle.ac_cert.specs.declared.types.Step.{Step}
use Rattle.ac_cert.specs.declared.types.Step.TheVariants as step
use Rattle.ac_omega_steps.specs.declared.choose.Choice.{Choice}
use Rattle.ac_omega_steps.specs.declared.choose.Choice.TheVariants as choice
use Rattle.ac_claims.specs.declared.item.Item.{Item}
use Rattle.ac_claims.specs.declared.item.Item.TheVariants as item
use Rattle.ac_prooftext_lines.specs.LineWords.{line_of}

-- a number and an integer, as `r:l`
abbrev pub pair_word : ℕ × ℤ → List ℕ
pair_word p = decimal p.0 ++ (codes ":" ++ signed_decimal p.1)

-- two numbers, as `k.q`
abbrev pub dotted_word : ℕ × ℕ → List ℕ
dotted_word p = decimal p.0 ++ (codes "." ++ decimal p.1)

-- the coefficient of a column, as `k:a`; none where it is 0
abbrev pub term_words : ℕ → ℤ → List (List ℕ)
term_words k a = if int_eq a (pos 0) then [] else pair_word (k, a) ∷ []

-- the coefficients from column k on
abbrev pub terms_from : ℕ → List ℤ → List (List ℕ)
terms_from k [] = []
terms_from k (a ∷ more) = term_words k a ++ terms_from (suc k) more

-- a form: its constant, and then its coefficients
abbrev pub form_words : Affine → List (List ℕ)
form_words f = signed_decimal f.konst ∷ terms_from 0 f.coefs

-- a position: `O` and an array, or `S` with an assignment and a node; behind an `I` where it is initial
abbrev pub position_word : Position → List ℕ
position_word (position.Output o) = codes "O" ++ decimal o
position_word (position.Node s k) = codes "S" ++ dotted_word (s, k)
position_word (position.InitialOutput o) = codes "IO" ++ decimal o
position_word (position.InitialNode s k) = codes "IS" ++ dotted_word (s, k)

abbrev pub row_words : Row → List (List ℕ)
row_words (row.Ge f) = codes "ge" ∷ form_words f
row_words (row.Eq f) = codes "eq" ∷ form_words f
row_words (row.Div m f) = codes "div" ∷ signed_decimal m ∷ form_words f

abbrev pub step_words : Step → List (List ℕ)
step_words (step.Add pairs) = codes "add" ∷ map pair_word pairs
step_words (step.Cut r g) = codes "cut" ∷ decimal r ∷ signed_decimal g ∷ []
step_words (step.DivScale r k) = codes "divscale" ∷ decimal r ∷ signed_decimal k ∷ []
step_words (step.DivAdd r k s l) = codes "divadd" ∷ decimal r ∷ signed_decimal k ∷ decimal s ∷ signed_decimal l ∷ []
step_words (step.DivMod r g n f) = codes "divmod" ∷ decimal r ∷ signed_decimal g ∷ signed_decimal n ∷ form_words f
step_words (step.DivEq r n) = codes "diveq" ∷ decimal r ∷ signed_decimal n ∷ []
step_words (step.Quot r) = codes "quot" ∷ decimal r ∷ []
step_words (step.Floor m f) = codes "floor" ∷ signed_decimal m ∷ form_words f
step_words (step.EqCut r s) = codes "eqcut" ∷ decimal r ∷ decimal s ∷ []

abbrev pub choice_words : Choice → List (List ℕ)
choice_words (choice.Drop z) = codes "drop" ∷ decimal z ∷ []
choice_words (choice.Equal z r) = codes "equal" ∷ decimal z ∷ decimal r ∷ []
choice_words (choice.Residue z m i) = codes "residue" ∷ decimal z ∷ signed_decimal m ∷ signed_decimal i ∷ []
choice_words (choice.Shadow z) = codes "shadow" ∷ decimal z ∷ []
choice_words (choice.Splinter z r i) = codes "splinter" ∷ decimal z ∷ decimal r ∷ signed_decimal i ∷ []

abbrev pub order_word : Order → List ℕ
order_word order.Keep = codes "keep"
order_word order.Swap = codes "swap"

-- a level; `-` where there is none
abbrev pub level_word : Option ℕ → List ℕ
level_word None = codes "-"
level_word (Some l) = decimal l

abbrev pub item_words : Item → List (List ℕ)
item_words (item.Point values) = codes "point" ∷ map signed_decimal values
item_words (item.Left shapes) = codes "left" ∷ map dotted_word shapes
item_words (item.Right shapes) = codes "right" ∷ map dotted_word shapes
item_words (item.Claims n) = codes "claims" ∷ decimal n ∷ []
item_words (item.Claim P Q n) = codes "claim" ∷ position_word P ∷ position_word Q ∷ decimal n ∷ []
item_words (item.Row r) = row_words r
item_words (item.Output o c) = codes "output" ∷ decimal o ∷ decimal c ∷ []
item_words (item.Tree c a b) = codes "tree" ∷ decimal c ∷ decimal a ∷ decimal b ∷ []
item_words (item.Step s) = step_words s
item_words (item.Split f) = codes "split" ∷ form_words f
item_words (item.Residue m f) = codes "residue" ∷ signed_decimal m ∷ form_words f
item_words (item.Go o n) = codes "go" ∷ order_word o ∷ decimal n ∷ []
item_words (item.Absurd r) = codes "absurd" ∷ decimal r ∷ []
item_words (item.Hit c) = codes "hit" ∷ decimal c ∷ []
item_words item.Number = codes "number" ∷ []
item_words item.Initial = codes "initial" ∷ []
item_words (item.Killed s d l m n) = codes "killed" ∷ decimal s ∷ decimal d ∷ level_word l ∷ decimal m ∷ decimal n ∷ []
item_words (item.Choice x) = choice_words x
item_words item.End = codes "end" ∷ []

-- the line of an item
abbrev pub spelled : Item → List ℕ
spelled x = line_of (item_words x)
