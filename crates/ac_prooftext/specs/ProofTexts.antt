-- The text of a proof: a line for the format, and then the line of each item, each with an LF at its end.
use Rattle.std.specs.Prelude.{◌≡◌, ℕ, ◌+◌, ◌-◌, ◌^◌, min, max, Bool, true, false, List, [], ◌∷◌, ◌++◌, map, length, Option, Some, None, codes, is_some}
use Rattle.std.specs.List.{flat_map, AllByRecursion}
use Rattle.ac_claims.specs.ProofMachine.{lines_of, AreSpelledTrees}
use Rattle.ac_claims.specs.declared.item.Item.{Item}
use Rattle.ac_claims.specs.declared.types.Proof.{Proof}
use Rattle.ac_prooftext_lines.specs.Spellable.{IsSpellable}
use Rattle.ac_prooftext_lines.specs.Spelling.{spelled}
use Rattle.ac_prooftext.specs.CompleteProofs.{AreRising}
use Rattle.ac_prooftext.specs.LineOrder.{Place, next, next_all, start, opens}
use Rattle.ac_prooftext.specs.declared.stages.Stage.TheVariants as stage

-- the line that names the format: 1, or 2 where the shapes of the programs stand at the head
abbrev pub format_line : Bool → List ℕ
format_line false = codes "affine-proof 1"
format_line true = codes "affine-proof 2"

abbrev pub ended : List ℕ → List ℕ
ended line = line ++ 10 ∷ []

-- lines, each with an LF at its end
abbrev pub lines_text : List (List ℕ) → List ℕ
lines_text = flat_map ended

-- the lines of items
abbrev pub items_text : List Item → List ℕ
items_text xs = lines_text (map spelled xs)

abbrev pub lines_in : Bool → List Item → List (List ℕ)
lines_in shapes xs = format_line shapes ∷ map spelled xs

abbrev pub text_of : Bool → List Item → List ℕ
text_of shapes xs = lines_text (lines_in shapes xs)

-- items that can be spelled, and that may stand at the beginning of a proof up to this place
abbrev pub Begin : Bool → List Item → Place → Type 0
Begin shapes xs p = AllByRecursion IsSpellable xs × (next_all (start shapes) xs ≡ Some p)

-- the greatest number of branches that are open on one path over these lines; a line that opens a branch counts it
abbrev pub deepest_from : Option Place → List Item → ℕ
deepest_from p [] = 0
deepest_from None (x ∷ xs) = 0
deepest_from (Some p) (x ∷ xs) = max (length p.open_counts + opens x) (deepest_from (next p x) xs)

abbrev pub deepest : Bool → List Item → ℕ
deepest shapes xs = deepest_from (Some (start shapes)) xs

-- a spelling: the text of the items of a complete proof
pub record IsSpelling (text : List ℕ) (depth : ℕ) : Type 0 where
  pub shapes : Bool
  pub items : List Item
  pub place : Place
  pub begin : Begin shapes items place
  pub complete : place.stage ≡ stage.Done
  pub text_is : text ≡ text_of shapes items
  pub depth_is : depth ≡ deepest shapes items

-- the first line that is malformed, missing or may not stand there, and the depth of the lines before it
pub data IsTextFault (text : List ℕ) : ℕ → ℕ → Type 0 where
  no_format : ((shapes : Bool) (more : List ℕ) → ¬ (text ≡ ended (format_line shapes) ++ more)) → IsTextFault text 1 0
  no_item : (shapes : Bool) (xs : List Item) (p : Place) (rest : List ℕ) → Begin shapes xs p → text ≡ text_of shapes xs ++ rest → ¬ ((p.stage ≡ stage.Done) × (rest ≡ []))
      → ((x : Item) (q : Place) (more : List ℕ) → IsSpellable x → next p x ≡ Some q → ¬ (rest ≡ ended (spelled x) ++ more)) → IsTextFault text (length xs + 2) (deepest shapes xs)

-- numbers as they are counted: they stand still at the last number of `u64`
abbrev pub capped : ℕ → ℕ
capped n = min n (2 ^ 64 - 1)

-- a proof that is spelled
pub record IsSpelledProof (p : Proof) : Type 0 where
  pub items : AllByRecursion IsSpellable (lines_of p)
  pub branches : AreSpelledTrees p.trees.items
  pub outputs : AreRising None p.outputs

-- its text
abbrev pub proof_text : Proof → List ℕ
proof_text p = text_of (is_some p.heads) (lines_of p)

-- what is told of a text: the depth of its lines before the first fault, and that fault; both as they are counted
abbrev pub IsNesting : List ℕ → ℕ → Option ℕ → Type 0
IsNesting text deep None = (depth : ℕ) × (IsSpelling text depth × (deep ≡ capped depth))
IsNesting text deep (Some k) = (line : ℕ) × (depth : ℕ) × (IsTextFault text line depth × (k ≡ capped line) × (deep ≡ capped depth))
