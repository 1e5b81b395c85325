-- The walk over rows of differences: what it costs, which numbers it meets, and how far its points reach.
use Rattle.std.proofs.Common.{◌≡◌, ℕ, zero, suc, ◌+◌, ◌*◌, ◌<◌, ◌≤◌, max, ℤ, pos, List, [], ◌∷◌, length, Option, Some, arith, refl, ap, subst, mul-le-mul_left}
use Rattle.std.specs.Prelude.{unsigned_abs, replicate}
use Rattle.ac_forms.specs.Affine.{Affine}
use Rattle.ac_forms.specs.NormalForm.{normal_conj}
use Rattle.ac_forms.specs.declared.conj.Conj.{Conj}
use Rattle.ac_forms.specs.declared.row.Row.{Row}
use Rattle.ac_forms.specs.declared.row.Row.TheVariants.{Eq, Div, Ge}
use Rattle.ac_omega.specs.Maxima.{Maxima, greatest_abs, with_form, with_rows}
use Rattle.ac_omega.specs.Walk.{Walked, Empty, Found, Spent, Wide, behind}
use Rattle.ac_omega.proofs.DifferenceRows.{IsOver, IsRow, IsRaw, Each, AreUnits, form-units}
use Rattle.ac_omega.proofs.DifferenceNormals.{normal-each}
use Rattle.ac_omega.proofs.DifferenceCounts.{AreApart}
use Rattle.ac_omega.proofs.DifferenceLabels.{normal-few, normal-apart}
use Rattle.ac_omega.proofs.DifferenceFits.{unit-small}
use Rattle.ac_omega.proofs.DifferencePoints.{AreWithin}

-- the rows and the pairs over m columns, and those of all walks from there on
unfoldable pub level : ℕ → ℕ
level m = 2 * (suc m * suc m) + m * m

unfoldable pub cost : ℕ → ℕ
cost m = 2 * (suc m * (suc m * suc m))

suc-times : (m n : ℕ) → suc m * n ≡ n + m * n
suc-times m n = omega arith

times-suc : (m n : ℕ) → m * suc n ≡ m + m * n
times-suc m n = omega arith

times-sum : (m n k : ℕ) → m * (n + k) ≡ m * n + m * k
times-sum m n k = omega arith

-- where a product is a square and more, of which a part is a cube and a smaller square
in-parts : (product square more cube less : ℕ) → product ≡ square + more → cube + less ≤ more → 2 * square + less + 2 * cube ≤ 2 * product
in-parts product square more cube less e l = omega arith

in-two : (product square more less : ℕ) → product ≡ square + more → less ≤ more → 2 * square + less ≤ 2 * product
in-two product square more less e l = omega arith

cubes : (x : ℕ) → 2 * (suc x * suc x) + x * x + 2 * (x * (x * x)) ≤ 2 * (suc x * (suc x * suc x))
cubes x =
    let l : x * x + x ≤ suc x * suc x = omega (arith, suc-times x (suc x), times-suc x x) in
    let m : x * (x * x + x) ≤ x * (suc x * suc x) = mul-le-mul_left x l in
    in-parts (suc x * (suc x * suc x)) (suc x * suc x) (x * (suc x * suc x)) (x * (x * x)) (x * x) (suc-times x (suc x * suc x)) (subst (λ (n : ℕ). n ≤ x * (suc x * suc x)) (times-sum x (x * x) x) m)

pub cost-step : (m : ℕ) → level (suc m) + cost m ≤ cost (suc m)
unfolding level cost
cost-step m = cubes (suc m)

pub cost-level : (m : ℕ) → level m ≤ cost m
unfolding level cost
cost-level m =
    let l : m ≤ suc m * suc m = omega (arith, suc-times m (suc m)) in
    let k : m * m ≤ m * (suc m * suc m) = mul-le-mul_left m l in
    in-two (suc m * (suc m * suc m)) (suc m * suc m) (m * (suc m * suc m)) (m * m) (suc-times m (suc m * suc m)) k

pub squares : (m n : ℕ) → m ≤ n → suc m * suc m ≤ suc n * suc n
squares m n l =
    let s : suc m ≤ suc n = omega arith in
    omega (arith, mul-le-mul_left (suc m) s, mul-le-mul_left (suc n) s)

-- the greatest constants behind m further columns
unfoldable pub grown : ℕ → ℕ → ℕ
grown zero b = b
grown (suc m) b = grown m (b + b)

pub grown-least : (m b : ℕ) → b ≤ grown m b
unfolding grown
grown-least zero b = omega arith
grown-least (suc m) b = omega (arith, grown-least m (b + b))

-- a conjunction of the walk
pub record Standing (vars : List ℕ) (b : ℕ) (c : Conj) : Type 0 where
  pub rows : Each (IsRow vars b) c.rows
  pub few : length c.rows ≤ 2 * (suc (length vars) * suc (length vars))
  pub apart : AreApart c.rows

pub normal-standing : (vars : List ℕ) (b : ℕ) (c : Conj) → 1 ≤ b → Each (IsRaw vars b) c.rows → Standing vars b (normal_conj c)
normal-standing vars b c l h = record { rows = normal-each vars b c.rows l h; few = normal-few vars b c.rows h; apart = normal-apart vars b c.rows h }

-- the greatest numbers met
pub record AreSmall (top : ℕ) (s : Maxima) : Type 0 where
  pub factor : s.factor ≤ 1
  pub number : s.number ≤ top

greatest-small : (cs : List ℤ) (n k : ℕ) → AreUnits cs → n ≤ k → 1 ≤ k → greatest_abs n cs ≤ k
greatest-small [] n k u l m = l
greatest-small (c ∷ cs) n k u l m = greatest-small cs (max n (unsigned_abs c)) k u.1 (omega (arith, unit-small c u.0)) m

pub form-small : (vars : List ℕ) (b top : ℕ) (f : Affine) (s : Maxima) → IsOver vars b f → b ≤ top → 1 ≤ top → AreSmall top s → AreSmall top (with_form f s)
form-small vars b top f s h l m a = record {
  factor = greatest-small f.coefs s.factor 1 (form-units vars b f h) a.factor (omega arith);
  number = greatest-small f.coefs (max s.number (unsigned_abs f.konst)) top (form-units vars b f h) (omega (arith, h.small, a.number)) m;
}

pub rows-small : (vars : List ℕ) (b top : ℕ) (rs : List Row) (s : Maxima) → Each (IsRow vars b) rs → b ≤ top → 1 ≤ top → AreSmall top s → AreSmall top (with_rows rs s)
rows-small vars b top [] s h l m a = a
rows-small vars b top (Eq f ∷ rs) s h l m a = rows-small vars b top rs (with_form f s) h.1 l m (form-small vars b top f s h.0.0 l m a)
rows-small vars b top (Div n f ∷ rs) s h l m a = absurd h.0
rows-small vars b top (Ge f ∷ rs) s h l m a = rows-small vars b top rs (with_form f s) h.1 l m (form-small vars b top f s h.0.0 l m a)

-- what the walk comes to, from a cost on, where m columns are left of n
abbrev pub Comes : ℕ → ℕ → ℕ → ℕ → ℕ → Walked Maxima → Type 0
Comes top budget n m k (Empty j s) = (j ≤ k + cost m) × AreSmall top s
Comes top budget n m k (Found p) = AreWithin (m * top) p × (length p ≡ n)
Comes top budget n m k (Spent j) = budget < k + cost m
Comes top budget n m k Wide = ⊥

pub zeros-within : (v n : ℕ) → AreWithin v (replicate n (pos 0))
zeros-within v zero = tt
zeros-within v (suc n) = (omega arith, zeros-within v n)

pub zeros-length : (n : ℕ) → length (replicate n (pos 0)) ≡ n
zeros-length zero = refl
zeros-length (suc n) = ap suc (zeros-length n)

-- behind the one choice
pub behind-comes : (top budget n m k j : ℕ) (w : Walked Maxima) (lift : List ℤ → Option (List ℤ)) → j + cost m ≤ k + cost (suc m)
    → ((q : List ℤ) → AreWithin (m * top) q → length q ≡ n → (p : List ℤ) × (lift q ≡ Some p) × AreWithin (suc m * top) p × (length p ≡ n))
    → Comes top budget n m j w → Comes top budget n (suc m) k (behind w lift (λ i s. Empty i s))
behind-comes top budget n m k j (Empty i s) lift l h g = (omega (arith, g.0), g.1)
behind-comes top budget n m k j (Found q) lift l h g = let p = h q g.0 g.1 in rw (p.1) (p.2, p.3)
behind-comes top budget n m k j (Spent i) lift l h g = omega arith
behind-comes top budget n m k j Wide lift l h g = g
