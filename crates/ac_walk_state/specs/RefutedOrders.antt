-- The law on derivations that refute a part of an order.
use Rattle.std.specs.Prelude.{ℕ, List, Bool}
use Rattle.ac_forms.specs.declared.row.Row.{Row}
use Rattle.ac_syntax.specs.declared.tree.Order.{Order}
use Rattle.ac_syntax.specs.declared.tree.Pair.{Pair}
use Rattle.ac_syntax.specs.declared.tree.Position.{Position}
use Rattle.ac_syntax.specs.declared.tree.Site.{Site}
use Rattle.ac_widen_programs.specs.PairSetting.{setting}
use Rattle.ac_widen.specs.Derivations.{IsDerivation}
use Rattle.ac_widen.specs.OrderRefutations.{IsPartOf, IsRefuted}
use Rattle.ac_widen.specs.Setting.{Setting, IsLawful}
use Rattle.ac_widen.specs.declared.derivation.Entry.{Entry}
use Rattle.ac_widen_programs.specs.PairPoints.{choices_of}
use Rattle.ac_widen_programs.specs.DerivationEntries.{entries_of}
use Rattle.ac_walk_state.specs.Growth.{EndsInMismatch}

-- a derivation under an order that ends in a mismatch refutes the part of the order at the sites from which it steps
abbrev pub RefutesPart : Setting (Position × Position) → Type 0
RefutesPart s =
    (order : Position × Position → Order) (es : List Entry) (partial : List (Site × Order)) → IsLawful s → IsDerivation s order (entries_of es) → EndsInMismatch s es → IsPartOf s order (entries_of es) (choices_of partial) → IsRefuted s (choices_of partial) (entries_of es)

-- in each setting of two programs
abbrev pub DerivationsRefuteParts : Type 0
DerivationsRefuteParts = (pair : Pair) (outputs : List ℕ) (recurrent : Position × Position → Bool) (template : Position × Position → List Row) → RefutesPart (setting pair outputs recurrent template)
