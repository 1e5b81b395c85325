-- Rows of a question, on a path that follows it.
use Rattle.std.proofs.Common.{◌≡◌, ℕ, zero, suc, ◌≤◌, List, [], ◌∷◌, length, true, Option, Some, slice_get, refl, ap, ◌∙◌, subst, arith}
use Rattle.ac_forms.specs.Rows.{form_of, AreRowsOver, IsWellMade}
use Rattle.ac_forms.specs.Standing.{stands, all_stand}
use Rattle.ac_forms.specs.declared.conj.Conj.{Conj}
use Rattle.ac_forms.specs.declared.row.Row.{Row}
use Rattle.ac_forms.proofs.Twins.{normal_fits-is}
use Rattle.ac_base.proofs.Options.{some-is}
use Rattle.ac_claims_paths.specs.PathRows.{made_and_stand}
use Rattle.ac_claims_paths.specs.declared.path.Path.{Path}
use Rattle.ac_claims_plans.proofs.Forms.{listed-renames}
use Rattle.ac_claims_plans.proofs.Named.{place_of, AreNames}
use Rattle.ac_claims_plans.proofs.Views.{embedding-names}
use Rattle.ac_claims_plans.proofs.Along.{AreAlong, RowsMade}
use Rattle.ac_claims_plans.specs.QuestionEmbedding.{StandsAt, Stand}
use Rattle.ac_claims_plans.specs.declared.embedding.Embedding.{Embedding}
use Rattle.ac_claims_plans.specs.QuestionPaths.{AreRising, Follows}
use Rattle.ac_unfold_plans.specs.RowsAlongPaths.{RowsStandOn, RowsStandAlong, StandingRowsStandAlong, RowsThereStand}
use Rattle.ac_unfold_plans.proofs.Normals.{among-of}
use Rattle.ac_unfold_plans.proofs.Rows.{HasRow, stands-among-columns, stands-there}

-- ---- rows of the question

-- where a row of the question stands
stands-at : (columns : List ℕ) (d : Conj) (rs : List Row) (is : List ℕ) (k : ℕ) (r : Row) → Stand columns d rs is → slice_get rs k ≡ Some r → (p : ℕ) × StandsAt columns d p r
stands-at columns d [] is k r h e = absurd cc
stands-at columns d (x ∷ rs) [] k r h e = absurd h
stands-at columns d (x ∷ rs) (i ∷ is) zero r h e = (i, subst (λ (z : Row). StandsAt columns d i z) (some-is x r e) h.0)
stands-at columns d (x ∷ rs) (i ∷ is) (suc k) r h e = stands-at columns d rs is k r h.1 e

over : (n : ℕ) (rs : List Row) (k : ℕ) (r : Row) → AreRowsOver n rs → slice_get rs k ≡ Some r → length (form_of r).coefs ≤ n
over n [] k r h e = absurd cc
over n (x ∷ rs) zero r h e = subst (λ (z : Row). length (form_of z).coefs ≤ n) (some-is x r e) h.0.0
over n (x ∷ rs) (suc k) r h e = over n rs k r h.1 e

has-row : (columns : List ℕ) (d : Conj) (i : ℕ) (r : Row) → AreRising columns → length (form_of r).coefs ≤ length columns → StandsAt columns d i r → HasRow columns d.rows r
has-row columns d i r h l a = record { place = i; form = a.form; at = a.at; is = among-of columns (form_of r) a.form h l a.is }

within : (params : ℕ) (s : Embedding) (q h : Path) (n : ℕ) → Follows params s q h → n ≤ q.conj.columns → n ≤ length s.columns
within params s q h n f l = let e = f.stands.columns in omega (arith, e, l)

has-there : (params : ℕ) (s : Embedding) (q h : Path) → Follows params s q h → IsWellMade q.conj → (i : ℕ) (r : Row) → slice_get q.conj.rows i ≡ Some r → HasRow s.columns h.conj.rows r
has-there params s q h f made i r at =
    let a = stands-at s.columns h.conj q.conj.rows s.rows i r f.stands.rows at in
    has-row s.columns h.conj a.0 r f.rising (within params s q h (length (form_of r).coefs) f (over q.conj.columns q.conj.rows i r made at)) a.1

pub standing_along : StandingRowsStandAlong
standing_along params s q r made short stand = λ h f form e.
    stands-among-columns s.columns q.conj.rows h.conj.rows (has-there params s q h f made) r form (among-of s.columns (form_of r) form f.rising (within params s q h (length (form_of r).coefs) f short) e) stand

pub rows_there : RowsThereStand
rows_there columns path i r h l a fits n = λ form e.
    stands-there columns path.rows r form (has-row columns path i r h l a) (among-of columns (form_of r) form h l e) ((normal_fits-is r).1 fits) n

-- ---- rows that are made on the path

all-there : (n : ℕ) (columns : List ℕ) (path : Conj) (rs ts : List Row) → AreNames n columns → AreAlong (λ j. place_of j columns) rs ts → RowsStandOn columns path rs → all_stand path.rows ts ≡ true
all-there n columns path [] [] names a h = refl
all-there n columns path [] (t ∷ ts) names a h = absurd a
all-there n columns path (r ∷ rs) [] names a h = absurd a
all-there n columns path (r ∷ rs) (t ∷ ts) names a h =
    let one : stands path.rows t ≡ true = ap (stands path.rows) a.0.with ∙ h.0 a.0.form (listed-renames n columns (form_of r) a.0.form names a.0.renames) in
    rw (one, all-there n columns path rs ts names a.1 h.1) refl

pub made-there : (params : ℕ) (s : Embedding) (q h : Path) (wanted : List Row) (made : Option (List Row)) → Follows params s q h → RowsMade (λ j. place_of j s.columns) wanted made → RowsStandOn s.columns h.conj wanted → made_and_stand h.conj.rows made ≡ true
made-there params s q h wanted made f m r = rw m.is (all-there s.next_column s.columns h.conj wanted m.rows (embedding-names s q.conj h.conj f.stands) m.along r)

-- rows that stand on each path that follows do on this one
pub on-path : (params : ℕ) (s : Embedding) (q h : Path) (rs : List Row) → Follows params s q h → RowsStandAlong params s q rs → RowsStandOn s.columns h.conj rs
on-path params s q h [] f a = tt
on-path params s q h (r ∷ rs) f a = (a.0 h f, on-path params s q h rs f a.1)
