-- What is left of a conjunction on its first columns, and the relation of a question.
use Rattle.std.proofs.Common.{◌≡◌, inl, inr, ℕ, ◌+◌, ◌≤◌, ℤ, List, [], ◌∷◌, ◌++◌, length, map, Option, Some, None, refl, sym, ap, ◌∙◌, subst, arith, length-append}
use Rattle.std.specs.Prelude.{◌↔◌, option_map}
use Rattle.ac_forms.specs.PieceMembership.{IsInSome}
use Rattle.ac_forms.specs.Renaming.{picked, renamed_row, rows_renaming, CanRenameAll}
use Rattle.ac_forms.specs.Rows.{Meets}
use Rattle.ac_forms.specs.declared.conj.Conj.{Conj}
use Rattle.ac_forms.specs.declared.row.Row.{Row}
use Rattle.ac_omega_steps.specs.IntegerPoints.{IsPoint}
use Rattle.ac_omega_certify.specs.declared.strategy.Strategy.TheVariants.{Full, Economical}
use Rattle.ac_omega.specs.Decisions.{walk_of}
use Rattle.ac_omega.specs.Either.{FindsEither}
use Rattle.ac_omega.specs.Projection.{MeetsRest}
use Rattle.ac_omega.specs.declared.decision.Decided.{Decided}
use Rattle.ac_omega.specs.declared.piece.Piece.{Piece}
use Rattle.ac_omega.specs.declared.pieces.Stop.TheVariants as stop
use Rattle.ac_flow.specs.CaseRemainder.{CopyStops}
use Rattle.ac_flow.specs.declared.cut.CutStop.TheVariants as cut
use Rattle.std.specs.Prelude.{Err}
use Rattle.ac_claims_paths.specs.declared.path.Path.{Path}
use Rattle.ac_claims_paths.proofs.Moduli.{rows_made, rows_none}
use Rattle.ac_unfold_table.specs.ColumnProjection.{AreLeftOn, IsLeftOn}
use Rattle.ac_unfold_table.specs.QuestionRelations.{HasNoPiece, HasNoRelation, IsRelationOf, IsSeated, LacksPoint, columns_first, own_of, places_of}
use Rattle.ac_unfold_table.proofs.Columns.{fits_first, left_each, left_only}

-- ---- stops

pub wide_stops : (budget first : ℕ) (c d : Conj) → CopyStops budget first c (cut.Overflow d) → HasNoPiece budget first c
wide_stops budget first c d h = HasNoPiece.stops h.1 (inl h.2)

pub costly_stops : (budget first : ℕ) (c d : Conj) (k : ℕ) → CopyStops budget first c (cut.Spent d k) → HasNoPiece budget first c
costly_stops budget first c d k h = HasNoPiece.stops h.1 (inr (h.2, h.3))

pub wide_point : (budget : ℕ) (c d : Conj) (w : Decided) → FindsEither (Err (stop.Overflow d)) c (walk_of Economical budget c) (walk_of Full budget c) → LacksPoint budget c
wide_point budget c d w h = LacksPoint.stops h.0 (inl h.1.1)

pub costly_point : (budget : ℕ) (c d : Conj) (k : ℕ) → FindsEither (Err (stop.Spent d k)) c (walk_of Economical budget c) (walk_of Full budget c) → LacksPoint budget c
costly_point budget c d k h = LacksPoint.stops h.0 (inr (h.1.1.0, h.1.1.1))

-- ---- pieces

pub no_pieces : (budget first : ℕ) (c : Conj) (pieces : List Piece) → AreLeftOn budget first c pieces → pieces ≡ [] → HasNoPiece budget first c
no_pieces budget first c pieces h e = HasNoPiece.parted pieces h.walk (λ one. (let n : length pieces ≡ 0 = ap length e in omega (arith, n, one)))

some_left : (rest : List Piece) → ¬ (rest ≡ []) → ¬ (length rest ≡ 0)
some_left [] h e = h refl
some_left (x ∷ rest) h e = omega (arith, e)

pub more_pieces : (budget first : ℕ) (c : Conj) (all rest : List Piece) (last : Piece) → AreLeftOn budget first c all → all ≡ rest ++ last ∷ [] → ¬ (rest ≡ []) → HasNoPiece budget first c
more_pieces budget first c all rest last h e some = HasNoPiece.parted all h.walk (λ one. some_left rest some (let n : length all ≡ length rest + 1 = ap length e ∙ length-append rest (last ∷ []) in omega (arith, n, one)))

only_one : (all rest : List Piece) (last : Piece) → all ≡ rest ++ last ∷ [] → rest ≡ [] → all ≡ last ∷ []
only_one all rest last e f = e ∙ ap (λ xs. xs ++ last ∷ []) f

pub no_point : (budget first : ℕ) (c : Conj) (all rest : List Piece) (last : Piece) → AreLeftOn budget first c all → all ≡ rest ++ last ∷ [] → rest ≡ [] → LacksPoint budget last.rest → HasNoPiece budget first c
no_point budget first c all rest last h e f lacks = by (subst (AreLeftOn budget first c) (only_one all rest last e f) h)
  where
    by : AreLeftOn budget first c (last ∷ []) → HasNoPiece budget first c
    by k = HasNoPiece.empty last k.walk lacks

in_one : (last : Piece) (x : List ℤ) → IsInSome MeetsRest (last ∷ []) x → Meets last.rest.rows x
in_one last x (inl h) = h
in_one last x (inr h) = absurd h

pub one_piece : (budget first : ℕ) (c : Conj) (all rest : List Piece) (last : Piece) → AreLeftOn budget first c all → all ≡ rest ++ last ∷ [] → rest ≡ [] → ((p : List ℤ) × IsPoint last.rest p) → IsLeftOn first c last.rest.rows
one_piece budget first c all rest last h e f point = by (subst (AreLeftOn budget first c) (only_one all rest last e f) h)
  where
    by : AreLeftOn budget first c (last ∷ []) → IsLeftOn first c last.rest.rows
    by k = record {
      points = λ x long. (λ has. in_one last x ((k.found.projection x long).0 has), λ meets. (k.found.projection x long).1 (inl meets));
      point = (point.0, point.1.meets);
    }

-- ---- relations

pub first_some : (own : List ℕ) (c : Conj) (places : List ℕ) (rows made : List Row) → places ≡ places_of own c.columns → rows ≡ c.rows → CanRenameAll places rows × (made ≡ map (renamed_row places) rows) → Some (record { columns = c.columns; rows = made }) ≡ columns_first own c
first_some own c places rows made e f h =
    let whole : Some made ≡ rows_renaming places rows = ap Some h.1 ∙ rows_made places rows h.0 in
    let moved : rows_renaming places rows ≡ rows_renaming (places_of own c.columns) c.rows = λ i. rows_renaming (e i) (f i) in
    ap (option_map (λ rows. record { columns = c.columns; rows = rows })) (whole ∙ moved)

pub first_none : (own : List ℕ) (c : Conj) (places : List ℕ) (rows : List Row) → places ≡ places_of own c.columns → rows ≡ c.rows → ¬ (CanRenameAll places rows) → None ≡ columns_first own c
first_none own c places rows e f h =
    let whole : None ≡ rows_renaming places rows = rows_none places rows h in
    let moved : rows_renaming places rows ≡ rows_renaming (places_of own c.columns) c.rows = λ i. rows_renaming (e i) (f i) in
    ap (option_map (λ rows. record { columns = c.columns; rows = rows })) (whole ∙ moved)

first_made : (own : List ℕ) (c d : Conj) → Some d ≡ columns_first own c → d.columns ≡ c.columns
first_made own c d = by (rows_renaming (places_of own c.columns) c.rows)
  where
    by : (o : Option (List Row)) → Some d ≡ option_map (λ rows. record { columns = c.columns; rows = rows }) o → d.columns ≡ c.columns
    by None e = absurd cc
    by (Some rows) e = ap (λ (x : Conj). x.columns) (let i : d ≡ record { columns = c.columns; rows = rows } = cc in i)

pub first_fits : (params : ℕ) (q : Path) (own : List ℕ) (d : Conj) → IsSeated params q → own ≡ own_of params q → Some d ≡ columns_first own q.conj → length own ≤ d.columns
first_fits params q own d s e f =
    let same = first_made own q.conj d f in
    let fits = fits_first (own_of params q) q.conj.columns s.there s.distinct in
    let long : length own ≡ length (own_of params q) = ap length e in
    omega (arith, same, fits, long)

pub not_first : (budget params : ℕ) (q : Path) (own : List ℕ) → own ≡ own_of params q → None ≡ columns_first own q.conj → HasNoRelation budget params q
not_first budget params q own e f = HasNoRelation.wide (sym (ap (λ (ks : List ℕ). columns_first ks q.conj) e) ∙ sym f)

pub not_left : (budget params : ℕ) (q : Path) (own : List ℕ) (d : Conj) → own ≡ own_of params q → Some d ≡ columns_first own q.conj → HasNoPiece budget (length own) d → HasNoRelation budget params q
not_left budget params q own d e f h = HasNoRelation.piece d (sym (ap (λ (ks : List ℕ). columns_first ks q.conj) e) ∙ sym f) (subst (λ (ks : List ℕ). HasNoPiece budget (length ks) d) e h)

pub is_relation : (params : ℕ) (q : Path) (own : List ℕ) (d : Conj) (rows : List Row) → IsSeated params q → own ≡ own_of params q → Some d ≡ columns_first own q.conj → ((p : List ℤ) → Meets d.rows p ↔ Meets q.conj.rows (picked (places_of own q.conj.columns) p)) → IsLeftOn (length own) d rows
    → IsRelationOf params q (record { left = q.left.position; right = q.right.position; rows = rows })
is_relation params q own d rows s e f moved left =
    let ks = own_of params q in
    let same = first_made own q.conj d f in
    let move = subst (λ (xs : List ℕ). (p : List ℤ) → Meets d.rows p ↔ Meets q.conj.rows (picked (places_of xs q.conj.columns) p)) e moved in
    let on = subst (λ (xs : List ℕ). IsLeftOn (length xs) d rows) e left in
    record {
      left_is = refl;
      right_is = refl;
      each = left_each ks q.conj d rows s.there s.distinct same move on;
      only = left_only ks q.conj d rows s.there s.distinct same move on;
      point = on.point;
    }
