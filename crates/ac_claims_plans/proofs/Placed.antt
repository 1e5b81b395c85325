-- Places of a question whose path goes on.
use Rattle.std.proofs.Common.{◌≡◌, ℕ, zero, suc, ◌+◌, List, [], ◌∷◌, ◌++◌, append_assoc, length, length-append, Some, slice_get, refl, sym, ap, ◌∙◌, subst, arith}
use Rattle.std.specs.List.{range_with_len}
use Rattle.std.proofs.lemmas.List.FromFn.{length-range_with_len}
use Rattle.ac_forms.specs.Renaming.{AreColumns}
use Rattle.ac_forms.specs.Rows.{form_of, AreRowsOver, IsWellMade}
use Rattle.ac_forms.specs.declared.conj.Conj.{Conj}
use Rattle.ac_forms.specs.declared.row.Row.{Row}
use Rattle.ac_cert.specs.Apart.{IsOnto}
use Rattle.ac_claims_paths.specs.PathSteps.{extended}
use Rattle.ac_claims_plans.specs.Embeddings.{grown}
use Rattle.ac_claims_plans.specs.QuestionEmbedding.{Stand, StandsOn}
use Rattle.ac_claims_plans.specs.declared.embedding.Embedding.{Embedding}
use Rattle.ac_claims_plans.proofs.Forms.{listed-renames}
use Rattle.ac_claims_plans.proofs.Grown.{columns-wider, columns-both, distinct-further, stand-more, stand-both}
use Rattle.ac_claims_plans.proofs.Named.{place_of, AreNames}
use Rattle.ac_claims_plans.proofs.Selves.{range-columns}
use Rattle.ac_claims_plans.proofs.Views.{names-of}
use Rattle.ac_claims_plans.specs.QuestionPaths.{AreRising}
use Rattle.ac_claims_plans.proofs.Along.{AreAlong}

-- ---- the next columns are above all others

pub range-rising : (first count : ℕ) → AreRising (range_with_len first count)
range-rising first zero = tt
range-rising first (suc zero) = tt
range-rising first (suc (suc count)) = (omega arith, range-rising (first + 1) (suc count))

pub rising-further : (n : ℕ) (xs : List ℕ) (count : ℕ) → AreColumns n xs → AreRising xs → AreRising (xs ++ range_with_len n count)
rising-further n [] count a r = range-rising n count
rising-further n (k ∷ []) zero a r = tt
rising-further n (k ∷ []) (suc count) a r = (a.0, range-rising n (suc count))
rising-further n (k ∷ l ∷ ks) count a r = (r.0, rising-further n (l ∷ ks) count a.1 r.1)

-- ---- a path that goes on with rows along those of the question

pub columns-further : (n : ℕ) (xs : List ℕ) (count : ℕ) → AreColumns n xs → AreColumns (n + count) (xs ++ range_with_len n count)
columns-further n xs count a = columns-both (n + count) xs (range_with_len n count) (columns-wider n (n + count) xs (omega arith) a) (range-columns n count (n + count) (omega arith))

get-behind : (front rest : List Row) (r : Row) (i : ℕ) → length front ≡ i → slice_get (front ++ r ∷ rest) i ≡ Some r
get-behind [] rest r zero e = refl
get-behind [] rest r (suc i) e = absurd (omega (arith, e))
get-behind (x ∷ front) rest r zero e = absurd (omega (arith, e))
get-behind (x ∷ front) rest r (suc i) e = get-behind front rest r i (omega (arith, e))

stand-along : (n : ℕ) (xs : List ℕ) (d : Conj) (front made rows : List Row) (i : ℕ) → AreNames n xs → AreAlong (λ j. place_of j xs) made rows → d.rows ≡ front ++ rows → length front ≡ i → Stand xs d made (range_with_len i (length made))
stand-along n xs d front [] [] i names along e l = tt
stand-along n xs d front [] (s ∷ rows) i names along e l = absurd along
stand-along n xs d front (r ∷ made) [] i names along e l = absurd along
stand-along n xs d front (r ∷ made) (s ∷ rows) i names along e l =
    let far : d.rows ≡ (front ++ s ∷ []) ++ rows = e ∙ sym (append_assoc front (s ∷ []) rows) in
    let longer : length (front ++ s ∷ []) ≡ i + 1 = omega (arith, length-append front (s ∷ []), l) in
    let here : slice_get d.rows i ≡ Some s = rw e (get-behind front rows s i l) in (
      record { form = along.0.form; at = here ∙ ap (λ (x : Row). Some x) along.0.with; is = listed-renames n xs (form_of r) along.0.form names along.0.renames },
      stand-along n xs d (front ++ s ∷ []) made rows (i + 1) names along.1 far longer,
    )

along-long : (names : ℕ → _) (made rows : List Row) → AreAlong names made rows → length rows ≡ length made
along-long names [] [] a = refl
along-long names [] (s ∷ rows) a = absurd a
along-long names (r ∷ made) [] a = absurd a
along-long names (r ∷ made) (s ∷ rows) a = ap (λ (n : ℕ). suc n) (along-long names made rows a.1)

pub names-further : (s : Embedding) (c d : Conj) (w : ℕ) → StandsOn s c d → AreNames (s.next_column + w) (s.columns ++ range_with_len s.next_column w)
names-further s c d w v = names-of (s.next_column + w) (s.columns ++ range_with_len s.next_column w) (columns-further s.next_column s.columns w v.among) (distinct-further s.next_column s.columns w v.among v.distinct)

pub stands-grown : (s : Embedding) (c d : Conj) (w : ℕ) (made rows : List Row) → IsWellMade c → StandsOn s c d → AreAlong (λ j. place_of j (s.columns ++ range_with_len s.next_column w)) made rows
    → StandsOn (grown s w (length made)) (extended c w made) (extended d w rows)
stands-grown s c d w made rows well v along =
    let xs = s.columns ++ range_with_len s.next_column w in
    let e = extended d w rows in
    let names = names-further s c d w v in
    let onto : IsOnto d e = record { more = rows; rows = refl; columns = omega arith } in
    record {
      columns = omega (arith, length-append s.columns (range_with_len s.next_column w), length-range_with_len s.next_column w, v.columns);
      among = columns-further s.next_column s.columns w v.among;
      distinct = distinct-further s.next_column s.columns w v.among v.distinct;
      rows = stand-both xs e c.rows made s.rows (range_with_len s.next_row (length made))
          (stand-more s.columns (range_with_len s.next_column w) d e c.rows s.rows onto (subst (λ (k : ℕ). AreRowsOver k c.rows) (sym v.columns) well) v.rows)
          (stand-along (s.next_column + w) xs e d.rows made rows s.next_row names along refl v.path_rows);
      path_columns = omega (arith, v.path_columns);
      path_rows = omega (arith, length-append d.rows rows, along-long (λ j. place_of j xs) made rows along, v.path_rows);
    }
