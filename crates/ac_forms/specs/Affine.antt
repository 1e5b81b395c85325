-- Affine forms over integer columns: what a form is worth at a point, sums and multiples, and the numbers that a computation forms.
use Rattle.std.specs.Prelude.{ℤ, pos, negsuc, ◌+ℤ◌, ◌*ℤ◌, ℕ, ◌+◌, ◌-◌, List, [], ◌∷◌, ◌++◌, map, replicate, slice_index_or}
use Rattle.ac_base.specs.Dot.{dot, mix}
use Rattle.ac_forms.specs.Fits.{Fits, AllFit}

-- a constant plus a sum of columns, each times its coefficient; a missing coefficient is 0
pub record Affine : Type 0 where
  pub konst : ℤ
  pub coefs : List ℤ

-- the value at a point
abbrev pub value_at : Affine → List ℤ → ℤ
value_at f p = dot f.coefs p +ℤ f.konst

-- the coefficient of column z
abbrev pub coef : ℕ → Affine → ℤ
coef z f = slice_index_or f.coefs z (pos 0)

-- the form whose value is the number c
abbrev pub constant_form : ℕ → ℤ → Affine
constant_form columns c = record { konst = c; coefs = replicate columns (pos 0) }

-- the form whose value is column z
abbrev pub column_form : ℕ → ℕ → Affine
column_form columns z = record { konst = pos 0; coefs = replicate z (pos 0) ++ pos 1 ∷ replicate (columns - z - 1) (pos 0) }

-- the sum, column by column; a list that ends first stands for zeros
abbrev pub plus : List ℤ → List ℤ → List ℤ
plus [] ys = ys
plus (x ∷ xs) [] = x ∷ xs
plus (x ∷ xs) (y ∷ ys) = (x +ℤ y) ∷ plus xs ys

-- the sum of two forms
abbrev pub added : Affine → Affine → Affine
added f g = record { konst = f.konst +ℤ g.konst; coefs = plus f.coefs g.coefs }

-- k times a form
abbrev pub scaled : ℤ → Affine → Affine
scaled k f = record { konst = k *ℤ f.konst; coefs = map (λ c. k *ℤ c) f.coefs }

-- k times a form plus l times another
abbrev pub combined : ℤ → Affine → ℤ → Affine → Affine
combined k f l g = record { konst = k *ℤ f.konst +ℤ l *ℤ g.konst; coefs = mix k f.coefs l g.coefs }

-- the form plus a number
abbrev pub shifted : Affine → ℤ → Affine
shifted f c = record { konst = f.konst +ℤ c; coefs = f.coefs }

-- each number of the form is one of `i128`
abbrev pub FormFits : Affine → Type 0
FormFits f = AllFit f.coefs × Fits f.konst

-- the products and the partial sums of an evaluation, column by column from a first sum on
abbrev pub partial_sums : ℤ → List ℤ → List ℤ → List ℤ
partial_sums sum [] xs = []
partial_sums sum (c ∷ cs) [] = []
partial_sums sum (c ∷ cs) (x ∷ xs) = (c *ℤ x) ∷ (sum +ℤ c *ℤ x) ∷ partial_sums (sum +ℤ c *ℤ x) cs xs

-- an evaluation stays in `i128`: each product and each partial sum, the constant last
abbrev pub CanEvaluate : Affine → List ℤ → Type 0
CanEvaluate f xs = AllFit (partial_sums (pos 0) f.coefs xs) × Fits (value_at f xs)

-- the two products and the sum of `k x + l y`
abbrev pub MixFits : ℤ → ℤ → ℤ → ℤ → Type 0
MixFits k x l y = Fits (k *ℤ x) × Fits (l *ℤ y) × Fits (k *ℤ x +ℤ l *ℤ y)

-- the products and the sums of a combination of two lists, column by column
abbrev pub mix_numbers : ℤ → List ℤ → ℤ → List ℤ → List ℤ
mix_numbers k [] l [] = []
mix_numbers k [] l (y ∷ ys) = (l *ℤ y) ∷ mix_numbers k [] l ys
mix_numbers k (x ∷ xs) l [] = (k *ℤ x) ∷ mix_numbers k xs l []
mix_numbers k (x ∷ xs) l (y ∷ ys) = (k *ℤ x) ∷ (l *ℤ y) ∷ (k *ℤ x +ℤ l *ℤ y) ∷ mix_numbers k xs l ys

-- a combination stays in `i128`: each product and each sum, the constant last
abbrev pub CanCombine : ℤ → Affine → ℤ → Affine → Type 0
CanCombine k f l g = AllFit (mix_numbers k f.coefs l g.coefs) × MixFits k f.konst l g.konst

-- the products and the sums of adding c times a list, column by column
abbrev pub times_numbers : List ℤ → ℤ → List ℤ → List ℤ
times_numbers xs c [] = []
times_numbers [] c (y ∷ ys) = (c *ℤ y) ∷ times_numbers [] c ys
times_numbers (x ∷ xs) c (y ∷ ys) = (c *ℤ y) ∷ (x +ℤ c *ℤ y) ∷ times_numbers xs c ys

-- adding c times a form stays in `i128`: each product and each sum, the constant last
abbrev pub CanAddTimes : Affine → ℤ → Affine → Type 0
CanAddTimes f c g = AllFit (times_numbers f.coefs c g.coefs) × Fits (c *ℤ g.konst) × Fits (f.konst +ℤ c *ℤ g.konst)
