-- What is known of a text after some of its lines.
use Rattle.std.specs.Prelude.{◌≡◌, ℕ, ◌+◌, ◌<◌, ◌⊎◌, max, Bool, List, [], ◌∷◌, ◌++◌, map, length, Option, Some, None, cond}
use Rattle.ac_claims.specs.declared.item.Item.{Item}
use Rattle.ac_prooftext_lines.specs.Spellable.{IsSpellable}
use Rattle.ac_prooftext_lines.specs.Spelling.{spelled}
use Rattle.ac_prooftext.specs.LineOrder.{Place, next, start, opens}
use Rattle.ac_prooftext.specs.ProofTexts.{format_line, lines_in, Begin, deepest, capped}
use Rattle.ac_prooftext.specs.declared.lines.Reading.{Reading}
use Rattle.ac_prooftext.specs.declared.lines.LineReader.{LineReader}
use Rattle.ac_prooftext.specs.declared.lines.Reading.TheVariants.{Unopened, Within, Faulty}

-- the first line that is malformed or may not stand there is among these lines
pub data IsBroken : List (List ℕ) → ℕ → ℕ → Type 0 where
  format : (line : List ℕ) (more : List (List ℕ)) → ((shapes : Bool) → ¬ (line ≡ format_line shapes)) → IsBroken (line ∷ more) 0 0
  item : (shapes : Bool) (xs : List Item) (p : Place) (line : List ℕ) (more : List (List ℕ)) → Begin shapes xs p
      → ((x : Item) (q : Place) → IsSpellable x → next p x ≡ Some q → ¬ (line ≡ spelled x)) → IsBroken (lines_in shapes xs ++ line ∷ more) (capped (length xs + 1)) (capped (deepest shapes xs))

-- these are the lines that led here
pub record IsWithin (lines : List (List ℕ)) (p : Place) (count depth : ℕ) : Type 0 where
  pub shapes : Bool
  pub items : List Item
  pub begin : Begin shapes items p
  pub lines_are : lines ≡ lines_in shapes items
  pub count_is : count ≡ capped (length items + 1)
  pub depth_is : depth ≡ capped (deepest shapes items)

abbrev pub IsAfter : List (List ℕ) → Reading → Place → ℕ → ℕ → Type 0
IsAfter lines Unopened p count depth = (lines ≡ []) × (count ≡ 0) × (depth ≡ 0)
IsAfter lines Within p count depth = IsWithin lines p count depth
IsAfter lines Faulty p count depth = IsBroken lines count depth

-- the lines that a reader took
abbrev pub Took : List (List ℕ) → LineReader → Type 0
Took lines r = IsAfter lines r.reading r.outline r.lines r.deepest

-- the item that a line gave, with all lines standing where they may; none for the line of the format, and behind a fault
abbrev pub Gave : LineReader → List ℕ → LineReader → Option Item → Type 0
Gave old line new (Some x) = (old.reading ≡ Within) × (new.reading ≡ Within) × IsSpellable x × (line ≡ spelled x)
Gave old line new None = (old.reading ≡ Unopened) ⊎ (new.reading ≡ Faulty)
