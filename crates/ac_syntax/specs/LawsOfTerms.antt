-- What terms say of integers: where the terms of two programs agree, the programs leave the same.
use Rattle.std.specs.Prelude.{ℕ, ◌≡◌, ◌↔◌, List, ℤ, Bool}
use Rattle.ac_syntax.specs.Trace.{Entry}
use Rattle.ac_syntax.specs.Algebra.{Cell, run, integers}
use Rattle.ac_syntax.specs.Source.{source}
use Rattle.ac_syntax.specs.Spot.{value_at, resolved}
use Rattle.ac_syntax.specs.Term.{Leaf, Term, Agree, Respects, eval, free, Initial}
use Rattle.ac_syntax.specs.TermMatches.{Matches}
use Rattle.ac_syntax.specs.Sameness.{leaves, term, Same, SameTerms}
use Rattle.ac_syntax.specs.Outputs.{IsValuation, IsElement, SameTermsAt, SameOutput}
use Rattle.ac_syntax.specs.declared.tree.Stmt.{Stmt}
use Rattle.ac_syntax.specs.declared.tree.Symbol.{Symbol}
use Rattle.ac_syntax.specs.declared.tree.Pair.{Pair}

-- the integer that a run leaves is the value of the term that it leaves
abbrev pub IntegersAreValuesOfTerms : Type 0
IntegersAreValuesOfTerms =
    (body : List Stmt) (params : List ℤ) (table : Symbol → List ℤ → ℤ) (contents : Leaf → ℤ) (leaf : Cell → Leaf) (c : Cell)
    → leaves body params table (λ d. contents (leaf d)) c ≡ eval (integers table) contents (term body params leaf c)

-- the term of a cell is the term that its source stored, or the cell's own leaf
abbrev pub TermsAreOfTheSource : Type 0
TermsAreOfTheSource =
    (es : List Entry) (leaf : Cell → Leaf) (c : Cell)
    → run free es (λ d. Initial (leaf d)) c ≡ value_at free es (λ d. Initial (leaf d)) (resolved c (source c es))

-- terms that agree have equal values, under each table that respects the declarations
abbrev pub AgreeingTermsHaveEqualValues : Type 0
AgreeingTermsHaveEqualValues =
    (swaps : Symbol → Bool) (table : Symbol → List ℤ → ℤ) (contents : Leaf → ℤ) (t u : Term) → Respects swaps (integers table)
    → Agree swaps t u → eval (integers table) contents t ≡ eval (integers table) contents u

-- two terms agree exactly where they match from the outside in
abbrev pub AgreementIsMatching : Type 0
AgreementIsMatching = (swaps : Symbol → Bool) (t u : Term) → Agree swaps t u ↔ Matches swaps t u

-- where the terms of two programs agree at a cell, both leave the same there
abbrev pub AgreeingTermsAreTheSame : Type 0
AgreeingTermsAreTheSame =
    (is_input : ℕ → Bool) (swaps : Symbol → Bool) (left right : List Stmt) (params : List ℤ) (c : Cell)
    → SameTerms is_input swaps left right params c → Same is_input swaps left right params c

-- where they agree at each valuation of the context and each element, the output is the same
abbrev pub AgreeingOutputsAreTheSame : Type 0
AgreeingOutputsAreTheSame =
    (pair : Pair) (output : ℕ)
    → ((params : List ℤ) → IsValuation pair params → (e : List ℤ) → IsElement pair params output e → SameTermsAt pair params output e)
    → SameOutput pair output
