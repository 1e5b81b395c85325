-- The rows without a column, collected one by one.
use Rattle.std.proofs.Common.{◌≡◌, ℕ, ◌+◌, ◌<◌, ◌≤◌, List, [], ◌∷◌, ◌++◌, length, drop, get_or, Bool, true, false, cond, append_assoc, refl, sym, ap, ◌∙◌}
use Rattle.std.proofs.lemmas.List.{drop_all, append-nil}
use Rattle.std.proofs.lemmas.Option.{slice_get_read}
use Rattle.ac_forms.specs.declared.conj.Conj.{Conj}
use Rattle.ac_forms.specs.declared.row.Row.{Row}
use Rattle.ac_omega_steps.specs.Bounds.{rows_without}
use Rattle.ac_forms.specs.RowColumns.{has_column}
use Rattle.ac_omega_steps.proofs.Parts.{drop-at}
use Rattle.ac_omega_certify.specs.Descents.{IsRowUpTo2To122, AreRowsUpTo2To122, StandOn}
use Rattle.ac_omega_certify.specs.TreePathRows.{StandsAt, Stand}
use Rattle.ac_omega_certify.specs.declared.descent.Base.{Base}
use Rattle.ac_omega_certify.proofs.StandingLists.{stand-at}

-- the rows without the column among those before place i, at these places
pub record FreeSoFar (z i : ℕ) (rows : List Row) (places : List ℕ) (made : List Row) (at : List ℕ) : Type 0 where
  pub rest : rows_without z rows ≡ made ++ rows_without z (drop i rows)
  pub long : length at ≡ length made
  pub stand : (path : Conj) (names : List ℕ) → Stand names path rows places → Stand names path made at

rows_without-first : (z : ℕ) (r : Row) (rs : List Row) → rows_without z (r ∷ rs) ≡ rows_without z (r ∷ []) ++ rows_without z rs
rows_without-first z r rs = by (has_column z r)
  where
    by : (b : Bool) → cond b (rows_without z rs) (r ∷ rows_without z rs) ≡ cond b [] (r ∷ []) ++ rows_without z rs
    by true = refl
    by false = refl

pub free-start : (z : ℕ) (rows : List Row) (places : List ℕ) (made : List Row) (at : List ℕ) → made ≡ [] → at ≡ [] → FreeSoFar z 0 rows places made at
free-start z rows places made at e f = rw (e, f) (record { rest = refl; long = refl; stand = λ path names h. tt })

pub free-more : (z i : ℕ) (rows : List Row) (places : List ℕ) (made : List Row) (at : List ℕ) (r : Row) (made2 : List Row) (at2 : List ℕ) → FreeSoFar z i rows places made at → i < length rows → r ≡ get_or rows i r
    → made2 ≡ made ++ rows_without z (r ∷ []) → (length at ≡ length made → length at2 ≡ length made2)
    → ((path : Conj) (names : List ℕ) → StandsAt names path (get_or places i 0) r → Stand names path made at → Stand names path made2 at2)
    → FreeSoFar z (i + 1) rows places made2 at2
free-more z i rows places made at r made2 at2 s h e m l k = record {
  rest = s.rest ∙ ap (λ (xs : List Row). made ++ rows_without z xs) (drop-at rows i r h e) ∙ ap (λ (xs : List Row). made ++ xs) (rows_without-first z r (drop (i + 1) rows)) ∙ sym (append_assoc made (rows_without z (r ∷ [])) (rows_without z (drop (i + 1) rows))) ∙ ap (λ (xs : List Row). xs ++ rows_without z (drop (i + 1) rows)) (sym m);
  long = l s.long;
  stand = λ path names t. k path names (stand-at names path rows places i r t (slice_get_read rows (length rows) i r refl h e)) (s.stand path names t);
}

pub free-rows : (z i : ℕ) (rows : List Row) (places : List ℕ) (made : List Row) (at : List ℕ) → FreeSoFar z i rows places made at → length rows ≤ i → made ≡ rows_without z rows
free-rows z i rows places made at s h = sym (s.rest ∙ ap (λ (xs : List Row). made ++ rows_without z xs) (drop_all i rows h) ∙ append-nil made)

pub free-stand : (z i : ℕ) (rows : List Row) (places : List ℕ) (made : List Row) (at : List ℕ) → FreeSoFar z i rows places made at
    → (b : Base) (path : Conj) (names : List ℕ) → StandOn b names rows places path → StandOn b names made at path
free-stand z i rows places made at s b path names h = record { columns = h.columns; rows = h.rows; one = h.one; names = h.names; stand = s.stand path names h.stand }

calm-free : (b : Bool) (r : Row) (rs : List Row) → IsRowUpTo2To122 r → AreRowsUpTo2To122 rs → AreRowsUpTo2To122 (cond b rs (r ∷ rs))
calm-free true r rs h g = g
calm-free false r rs h g = (h, g)

pub rows_without-calm : (z : ℕ) (rows : List Row) → AreRowsUpTo2To122 rows → AreRowsUpTo2To122 (rows_without z rows)
rows_without-calm z [] h = tt
rows_without-calm z (r ∷ rs) h = calm-free (has_column z r) r (rows_without z rs) h.0 (rows_without-calm z rs h.1)
