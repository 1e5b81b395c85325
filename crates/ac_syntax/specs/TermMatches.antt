-- Agreement of terms from the outside in: what a comparison of two terms looks at, node by node.
use Rattle.std.specs.Prelude.{ℤ, Bool, IsTrue}
use Rattle.ac_syntax.specs.declared.tree.Symbol.{Symbol}
use Rattle.ac_syntax.specs.Term.{Term, Terms, Leaf, Num, Initial, Apply, none, more}

mutual
  pub data Matches (swaps : Symbol → Bool) : Term → Term → Type 0 where
    one_number : (a : ℤ) → Matches swaps (Num a) (Num a)
    one_leaf : (l : Leaf) → Matches swaps (Initial l) (Initial l)
    kept : (s : Symbol) (ts us : Terms) → MatchAll swaps ts us → Matches swaps (Apply s ts) (Apply s us)
    swapped : (s : Symbol) (t t' u u' : Term) → IsTrue (swaps s) → Matches swaps t u' → Matches swaps t' u → Matches swaps (Apply s (more t (more t' none))) (Apply s (more u (more u' none)))

  pub data MatchAll (swaps : Symbol → Bool) : Terms → Terms → Type 0 where
    no_terms : MatchAll swaps none none
    more_terms : (t u : Term) (ts us : Terms) → Matches swaps t u → MatchAll swaps ts us → MatchAll swaps (more t ts) (more u us)
