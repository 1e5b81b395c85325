-- Where the rows that the shadow of a column leaves stand.
use Rattle.std.proofs.Common.{◌≡◌, ℕ, ◌≤◌, List, [], ◌∷◌, ◌++◌, length, arith}
use Rattle.ac_forms.specs.Rows.{AreRowsOver, HaveModuli}
use Rattle.ac_forms.specs.declared.conj.Conj.{Conj}
use Rattle.ac_forms.specs.declared.row.Row.{Row}
use Rattle.ac_omega_certify.proofs.Distinct.{name-within, columns-of}
use Rattle.ac_omega_certify.specs.Descents.{AreNames, StandOn, Carries, base_of}
use Rattle.ac_omega_certify.specs.ShadowSteps.{Continues}
use Rattle.ac_omega_certify.specs.TreePathRows.{Stand, Reaches}
use Rattle.ac_omega_certify.specs.declared.descent.Base.{Base}
use Rattle.ac_omega_certify.specs.declared.descent.Standing.{Standing}
use Rattle.ac_omega_certify.specs.declared.path.TreePath.{TreePath}

stand-front : (names : List ℕ) (c : Conj) (rs ss : List Row) (is js : List ℕ) → length is ≡ length rs → Stand names c (rs ++ ss) (is ++ js) → Stand names c rs is
stand-front names c [] ss [] js l h = tt
stand-front names c [] ss (i ∷ is) js l h = absurd (omega (arith, l))
stand-front names c (r ∷ rs) ss [] js l h = absurd (omega (arith, l))
stand-front names c (r ∷ rs) ss (i ∷ is) js l h = (h.0, stand-front names c rs ss is js (omega (arith, l)) h.1)

stand-behind : (names : List ℕ) (c : Conj) (rs ss : List Row) (is js : List ℕ) → length is ≡ length rs → Stand names c (rs ++ ss) (is ++ js) → Stand names c ss js
stand-behind names c [] ss [] js l h = h
stand-behind names c [] ss (i ∷ is) js l h = absurd (omega (arith, l))
stand-behind names c (r ∷ rs) ss [] js l h = absurd (omega (arith, l))
stand-behind names c (r ∷ rs) ss (i ∷ is) js l h = stand-behind names c rs ss is js (omega (arith, l)) h.1

front-on : (b : Base) (names : List ℕ) (rs ss : List Row) (is js : List ℕ) (c : Conj) → length is ≡ length rs → StandOn b names (rs ++ ss) (is ++ js) c → StandOn b names rs is c
front-on b names rs ss is js c l h = record { columns = h.columns; rows = h.rows; one = h.one; names = h.names; stand = stand-front names c rs ss is js l h.stand }

more-names : (m n : ℕ) (names : List ℕ) → m ≤ n → AreNames m names → AreNames n names
more-names m n names l h = record { within = columns-of n names (λ k w. let i = name-within m names h.within k w in omega arith); apart = h.apart }

pub carries-shadows : (t u : TreePath) (names : List ℕ) (rs ss : List Row) (is js : List ℕ) (made more : Standing) → length is ≡ length rs
    → ((b : Base) (path : Conj) (names : List ℕ) → StandOn b names rs is path → StandOn b names made.rows.items made.places.items path)
    → Continues t u made more (λ names path. Stand names path ss js × Stand names path rs is)
    → (start : Conj) → Carries t start names (rs ++ ss) (is ++ js) → Carries u start names more.rows.items more.places.items
carries-shadows t u names rs ss is js made more l stand shows start c =
    let front = front-on (base_of t) names rs ss is js c.path l c.stand in
    let reaches : Reaches t start c.path = record { steps = c.steps; columns = c.stand.columns; rows = c.stand.rows } in
    let s = shows start c.path names reaches c.stand.one (stand-behind names c.path rs ss is js l c.stand.stand, front.stand) (stand (base_of t) c.path names front).stand in
    let wide : t.columns ≤ u.columns = omega (arith, c.stand.columns, s.onto.columns, s.reaches.columns) in
    record {
      path = s.further;
      steps = s.reaches.steps;
      stand = record { columns = s.reaches.columns; rows = s.reaches.rows; one = s.one; names = more-names t.columns u.columns names wide c.stand.names; stand = s.stand };
    }

-- rows over columns have their moduli
pub over-moduli : (columns : ℕ) (rows : List Row) → AreRowsOver columns rows → HaveModuli rows
over-moduli columns [] h = tt
over-moduli columns (r ∷ rs) h = (h.0.1, over-moduli columns rs h.1)
