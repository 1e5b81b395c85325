-- Which integers are numbers of `i128`, from -2^127 to 2^127 - 1.
use Rattle.std.specs.Prelude.{ℕ, ◌^◌, ℤ, pos, negsuc, List, [], ◌∷◌, FitsSigned, Bool, true, ◌&&◌, nat_lt}
use Rattle.std.specs.Int.{w128}

abbrev pub Fits : ℤ → Type 0
Fits z = FitsSigned w128 z

-- each of the numbers is one of `i128`
abbrev pub AllFit : List ℤ → Type 0
AllFit [] = Unit {0}
AllFit (c ∷ cs) = Fits c × AllFit cs

-- the same as tests
abbrev pub fits : ℤ → Bool
fits (pos n) = nat_lt n (2 ^ 127)
fits (negsuc n) = nat_lt n (2 ^ 127)

abbrev pub all_fit : List ℤ → Bool
all_fit [] = true
all_fit (c ∷ cs) = fits c && all_fit cs
