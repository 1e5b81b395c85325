-- What the obligations of outputs say of their terms, and agreeing terms of obligations.
use Rattle.std.specs.Prelude.{ℕ, ◌≡◌, List, [], Bool, true, false, nat_eq}
use Rattle.std.specs.List.{list_any}
use Rattle.ac_forms.specs.declared.row.Row.{Row}
use Rattle.ac_syntax.specs.declared.tree.Order.{Order}
use Rattle.ac_syntax.specs.declared.tree.Pair.{Pair}
use Rattle.ac_syntax.specs.declared.tree.Position.{Position}
use Rattle.ac_forms.specs.ListMembers.{IsAmong}
use Rattle.ac_claims.specs.Soundness.{ArePaired, TermsAgree}
use Rattle.ac_graph.specs.GraphMeaning.{HaveOutputs}
use Rattle.ac_widen_programs.specs.PairSetting.{setting}
use Rattle.ac_syntax.specs.ExecutedCalls.{HaveArities}
use Rattle.ac_widen.specs.Obligations.{HasMismatch}

-- where the terms of each output agree, no obligation is a mismatch, if no pair is widened and no function is declared commutative
abbrev pub AgreeingTermsHaveNoMismatch : Type 0
AgreeingTermsHaveNoMismatch =
    (pair : Pair) (outputs : List ℕ) (recurrent : Position × Position → Bool) (template : Position × Position → List Row) → ((positions : Position × Position) → recurrent positions ≡ false) → pair.commutative ≡ [] → ((o : ℕ) → IsAmong o outputs → TermsAgree pair o)
    → (order : Position × Position → Order) → ¬ (HasMismatch (setting pair outputs recurrent template) order)

-- outputs of the pair, which are inputs with at least one dimension in both programs
pub record AreOutputs (pair : Pair) (outputs : List ℕ) : Type 0 where
  pub among : (o : ℕ) → IsAmong o outputs → list_any (nat_eq o) pair.outputs ≡ true
  pub named : HaveOutputs pair outputs

-- where under some order no obligation is a mismatch, wherever is widened, the terms of each output agree, and so the outputs are the same
abbrev pub OutputsWithoutMismatchAgree : Type 0
OutputsWithoutMismatchAgree =
    (pair : Pair) (outputs : List ℕ) (recurrent : Position × Position → Bool) (template : Position × Position → List Row) → ArePaired pair → HaveArities pair.left.body → HaveArities pair.right.body → AreOutputs pair outputs
    → (order : Position × Position → Order) → ¬ (HasMismatch (setting pair outputs recurrent template) order) → (o : ℕ) → IsAmong o outputs → TermsAgree pair o
