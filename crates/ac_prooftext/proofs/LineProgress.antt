-- The lines that are still to be written.
use Rattle.std.specs.Prelude.{◌≡◌, ℕ, List, ◌++◌, Vec}
use Rattle.std.specs.Global.{Global}
use Rattle.ac_claims.specs.declared.item.Item.{Item}
use Rattle.ac_prooftext.specs.ProofTexts.{items_text}

-- with the lines of the rest, the new text is the old one with the lines of all
abbrev pub Leads : Vec ℕ Global → List Item → Vec ℕ Global → List Item → Type 0
Leads old all new rest = new.items ++ items_text rest ≡ old.items ++ items_text all
