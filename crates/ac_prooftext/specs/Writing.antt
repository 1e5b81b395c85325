-- What is added to a text that is written.
use Rattle.std.specs.Prelude.{◌≡◌, ℕ, List, ◌++◌, Vec}
use Rattle.std.specs.Global.{Global}
use Rattle.ac_claims.specs.declared.item.Item.{Item}
use Rattle.ac_prooftext.specs.ProofTexts.{items_text}

-- the lines of these items were added
abbrev pub Adds : List Item → Vec ℕ Global → Vec ℕ Global → Type 0
Adds xs old new = new.items ≡ old.items ++ items_text xs
