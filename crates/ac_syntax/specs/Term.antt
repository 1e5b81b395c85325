-- Free terms, their values, and when two of them agree.
use Rattle.std.specs.Prelude.{List, [], ◌∷◌, ◌≡◌, ℤ, Bool, IsTrue}
use Rattle.ac_syntax.specs.declared.tree.Symbol.{Symbol}
use Rattle.ac_syntax.specs.Algebra.{Algebra, Cell}

-- A cell's initial contents: a cell of an input array is one leaf for both programs, a cell of a local one of its own program.
pub data Leaf : Type 0 where
  Input : Cell → Leaf
  LeftLocal : Cell → Leaf
  RightLocal : Cell → Leaf

mutual
  pub data Term : Type 0 where
    Num : ℤ → Term
    Initial : Leaf → Term
    Apply : Symbol → Terms → Term

  pub data Terms : Type 0 where
    none : Terms
    more : Term → Terms → Terms

abbrev pub terms : List Term → Terms
terms [] = none
terms (t ∷ ts) = more t (terms ts)

-- the terms themselves as what a run computes with
abbrev pub free : Algebra
free = record { Carrier = Term; number = Num; call = λ s ts. Apply s (terms ts) }

-- the value of a term, from the values of the leaves
unfoldable mutual
  pub eval : (a : Algebra) → (Leaf → a.Carrier) → Term → a.Carrier
  eval a initial (Num n) = a.number n
  eval a initial (Initial c) = initial c
  eval a initial (Apply s ts) = a.call s (evals a initial ts)

  pub evals : (a : Algebra) → (Leaf → a.Carrier) → Terms → List a.Carrier
  evals a initial none = []
  evals a initial (more t ts) = eval a initial t ∷ evals a initial ts

-- the least congruence that swaps the two arguments of the symbols that may be swapped
mutual
  pub data Agree (swaps : Symbol → Bool) : Term → Term → Type 0 where
    same : (t : Term) → Agree swaps t t
    reverse : (t u : Term) → Agree swaps t u → Agree swaps u t
    through : (t u v : Term) → Agree swaps t u → Agree swaps u v → Agree swaps t v
    under : (s : Symbol) (ts us : Terms) → AgreeAll swaps ts us → Agree swaps (Apply s ts) (Apply s us)
    swap : (s : Symbol) (t u : Term) → IsTrue (swaps s) → Agree swaps (Apply s (more t (more u none))) (Apply s (more u (more t none)))

  pub data AgreeAll (swaps : Symbol → Bool) : Terms → Terms → Type 0 where
    nothing : AgreeAll swaps none none
    both : (t u : Term) (ts us : Terms) → Agree swaps t u → AgreeAll swaps ts us → AgreeAll swaps (more t ts) (more u us)

-- the symbols that may be swapped give the same for their two arguments in both orders
abbrev pub Respects : (Symbol → Bool) → Algebra → Type 0
Respects swaps a = (s : Symbol) → IsTrue (swaps s) → (x y : a.Carrier) → a.call s (x ∷ y ∷ []) ≡ a.call s (y ∷ x ∷ [])
