-- When a pair of spots is shown to have one value, from claims that may be hit below a step.
use Rattle.std.specs.Prelude.{ℕ, ◌≡◌, List, [], ◌∷◌, Bool, true, IsTrue}
use Rattle.ac_syntax.specs.Index.{index_value}
use Rattle.ac_syntax.specs.Trace.{Entry}
use Rattle.ac_syntax.specs.Algebra.{Cell}
use Rattle.ac_syntax.specs.Source.{Writer, source}
use Rattle.ac_syntax.specs.declared.tree.Place.{Place}
use Rattle.ac_syntax.specs.declared.tree.Symbol.{Symbol}
use Rattle.ac_syntax.specs.declared.tree.IndexExpr.{IndexExpr}
use Rattle.ac_syntax.specs.declared.tree.Value.{Value}
use Rattle.ac_syntax.specs.declared.tree.Value.TheVariants.{Number, Call}
use Rattle.ac_syntax.specs.Term.{Term, Agree, free, Initial}
use Rattle.ac_syntax.specs.Sameness.{left_leaf, right_leaf}
use Rattle.ac_syntax.specs.Spot.{Spot, AtNode, AtStart, Reads, resolved, value_at}

-- the traces of the two runs, which arrays are inputs, and which symbols may be swapped
pub record Runs : Type 0 where
  pub is_input : ℕ → Bool
  pub swaps : Symbol → Bool
  pub left : List Entry
  pub right : List Entry

mutual
  pub data Covered (r : Runs) (Claimed : Spot → Spot → Type 0) : Bool → Spot → Spot → Type 0 where
    numbers : (b : Bool) (w u : Writer) (e f : IndexExpr) → index_value w.entry.point e ≡ index_value u.entry.point f → Covered r Claimed b (AtNode w (Number e)) (AtNode u (Number f))
    one_input : (b : Bool) (c : Cell) → r.is_input c.array ≡ true → Covered r Claimed b (AtStart c) (AtStart c)
    hit : (s t : Spot) → Claimed s t → Covered r Claimed true s t
    go_left : (b : Bool) (s t : Spot) (c : Cell) (before : List Entry) → Reads r.left s c before → Covered r Claimed true (resolved c (source c before)) t → Covered r Claimed b s t
    go_right : (b : Bool) (s t : Spot) (c : Cell) (before : List Entry) → Reads r.right t c before → Covered r Claimed true s (resolved c (source c before)) → Covered r Claimed b s t
    go_keep : (b : Bool) (w u : Writer) (f : Symbol) (xs ys : List Value) (p q : Place) → AllCovered r Claimed w u xs ys → Covered r Claimed b (AtNode w (Call f xs p)) (AtNode u (Call f ys q))
    go_swap : (b : Bool) (w u : Writer) (f : Symbol) (x y z v : Value) (p q : Place) → IsTrue (r.swaps f)
        → Covered r Claimed true (AtNode w x) (AtNode u v) → Covered r Claimed true (AtNode w y) (AtNode u z)
        → Covered r Claimed b (AtNode w (Call f (x ∷ y ∷ []) p)) (AtNode u (Call f (z ∷ v ∷ []) q))

  pub data AllCovered (r : Runs) (Claimed : Spot → Spot → Type 0) : Writer → Writer → List Value → List Value → Type 0 where
    no_more : (w u : Writer) → AllCovered r Claimed w u [] []
    one_more : (w u : Writer) (a b : Value) (xs ys : List Value) → Covered r Claimed true (AtNode w a) (AtNode u b) → AllCovered r Claimed w u xs ys → AllCovered r Claimed w u (a ∷ xs) (b ∷ ys)

-- the terms at a spot of either run
abbrev pub left_term : Runs → Spot → Term
left_term r s = value_at free r.left (λ c. Initial (left_leaf r.is_input c)) s

abbrev pub right_term : Runs → Spot → Term
right_term r s = value_at free r.right (λ c. Initial (right_leaf r.is_input c)) s

abbrev pub Agreeing : Runs → Spot → Spot → Type 0
Agreeing r s t = Agree r.swaps (left_term r s) (right_term r t)
