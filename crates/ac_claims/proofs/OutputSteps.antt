-- The claims of outputs.
use Rattle.std.proofs.Common.{◌≡◌, ◌≢◌, ℕ, zero, suc, ◌<◌, ◌≤◌, List, [], ◌∷◌, ◌++◌, length, Bool, true, false, ◌&&◌, ◌||◌, Option, Some, None, slice_get, refl, sym, ap, ◌∙◌, subst, arith, inl}
use Rattle.std.specs.Prelude.{nat_eq, option_map, get_or}
use Rattle.std.specs.List.{list_any}
use Rattle.std.proofs.lemmas.Bool.{eq-eqb, eqb-true}
use Rattle.std.proofs.lemmas.Option.{slice_get_read, slice_get_past}
use Rattle.ac_forms.specs.Rows.{HaveModuli, AreRowsOver}
use Rattle.ac_forms.specs.declared.row.Row.{Row}
use Rattle.ac_forms.proofs.Passes.{moduli_of}
use Rattle.ac_syntax.specs.declared.tree.Position.{Position}
use Rattle.ac_syntax.specs.declared.tree.Position.TheVariants.{Output}
use Rattle.ac_poly.specs.declared.types.Model.{Model}
use Rattle.ac_base.proofs.Options.{map-some, bind-some}
use Rattle.ac_claims_paths.specs.ModelCalls.{pairing}
use Rattle.ac_claims_paths.specs.PathColumns.{columns_of, equal_forms}
use Rattle.ac_claims_paths.specs.WellFormedPaths.{HasModuli}
use Rattle.ac_claims_paths.specs.PathSteps.{Pairing}
use Rattle.ac_claims_paths.specs.OptionalRows.{HaveIf}
use Rattle.ac_claims_paths.specs.ModelPositions.{element_forms}
use Rattle.ac_claims_paths.specs.declared.path.Programs.{Programs}
use Rattle.ac_forms.specs.ListMembers.{IsAmong}
use Rattle.ac_claims_paths.proofs.InBranches.{made-wide}
use Rattle.ac_claims_paths.proofs.Moving.{appended-parts, made-both, equal-within}
use Rattle.ac_claims_paths.proofs.OnPaths.{seat_columns}
use Rattle.ac_claims.specs.Domains.{size_of, piece_by, single_of, single, of_width, asks_of}
use Rattle.ac_claims.specs.Dues.{RowsHaveModuli}
use Rattle.ac_claims.specs.ProofEnds.{same_position}
use Rattle.ac_claims.specs.ProofFaults.{Domain, domain, left_seat, right_seat, start_columns, piece_rows, output_rows, all_stand_among, asks_by, asks_no_more, output_stands}
use Rattle.ac_claims.specs.ReadyModels.{AreReady}
use Rattle.ac_claims.specs.declared.domains.Piece.{Piece}
use Rattle.ac_claims.specs.declared.domains.Size.{Size}
use Rattle.ac_claims.specs.declared.types.Claim.{Claim}
use Rattle.ac_claims.proofs.Trees.{pieces_made, domain_rows}

one_of : (width : ℕ) (pieces : List (List Row)) → length pieces ≡ 1 → option_map (λ rows. record { width = width; rows = rows }) (slice_get pieces 0) ≡ single_of width pieces
one_of width (rows ∷ []) h = refl
one_of width [] h = absurd (omega (arith, h))
one_of width (rows ∷ more ∷ rest) h = absurd (omega (arith, h))

not_one : (width : ℕ) (pieces : List (List Row)) → length pieces ≢ 1 → None ≡ single_of width pieces
not_one width (rows ∷ []) n = absurd (n refl)
not_one width [] n = refl
not_one width (rows ∷ more ∷ rest) n = refl

-- the only piece is the one with number 0, where there is one
pub single_here : (o : Option Domain) (size : Size) → Some size ≡ option_map size_of o → size.pieces ≡ 1 → piece_by 0 o ≡ single o
single_here None size e h = absurd cc
single_here (Some a) size e h = let s : size ≡ size_of a = cc in one_of a.width a.pieces (sym (ap (λ (z : Size). z.pieces) s) ∙ h)

pub single_many : (o : Option Domain) (size : Size) → Some size ≡ option_map size_of o → size.pieces ≢ 1 → None ≡ single o
single_many None size e n = absurd cc
single_many (Some a) size e n = let s : size ≡ size_of a = cc in not_one a.width a.pieces (λ h. n (ap (λ (z : Size). z.pieces) s ∙ h))

pub single_none : (o : Option Domain) → None ≡ option_map size_of o → None ≡ single o
single_none None e = refl
single_none (Some a) e = absurd cc

pub ruleset single_steps = (single_here, single_many, single_none)

-- each modulus of what an output may ask is at least 1
pub given_moduli : (programs : Programs) (c : Claim) (l r : Piece) (given : List Row) → Some given ≡ output_rows (pairing programs) c (of_width l.width) (of_width r.width) l.rows r.rows → AreReady programs → HaveModuli l.rows → HaveModuli r.rows → HaveModuli given
given_moduli programs c l r given e ready hl hr =
    let g = pairing programs in
    let a = of_width l.width in
    let b = of_width r.width in
    let ks = columns_of (left_seat g c a) in
    let ls = columns_of (right_seat g c a b) in
    let equal = equal_forms ks (element_forms 0 a.width) ls (element_forms 0 b.width) in
    let t = appended-parts equal (option_map (λ rows. g.left.context ++ rows) (piece_rows g c a b l.rows r.rows)) given (sym e) in
    let u = map-some (piece_rows g c a b l.rows r.rows) (λ rows. g.left.context ++ rows) t.1 t.3 in
    let cols = start_columns g a b in
    let kl = seat_columns (left_seat g c a) cols (omega arith) in
    let kr = seat_columns (right_seat g c a b) cols (omega arith) in
    let w1 = equal-within ks (element_forms 0 a.width) ls (element_forms 0 b.width) t.0 cols kl kr t.2 in
    let w2 = made-wide g.left.context g.params cols (omega arith) ready.context in
    let w3 = pieces_made g c a b l.rows r.rows u.0 u.1 hl hr in
    let is : given ≡ t.0 ++ (g.left.context ++ u.0) = t.4 ∙ ap (λ (z : List Row). t.0 ++ z) u.2 in
    moduli_of cols given (subst (λ (z : List Row). AreRowsOver cols z) (sym is) (made-both cols t.0 (g.left.context ++ u.0) w1 (made-both cols g.left.context u.0 w2 w3)))

pub given_if : (programs : Programs) (c : Claim) (l r : Piece) (given : Option (List Row)) → given ≡ output_rows (pairing programs) c (of_width l.width) (of_width r.width) l.rows r.rows → AreReady programs → HaveModuli l.rows → HaveModuli r.rows → HaveIf given
given_if programs c l r None e ready hl hr = tt
given_if programs c l r (Some given) e ready hl hr = given_moduli programs c l r given e ready hl hr

single_in : (width : ℕ) (pieces : List (List Row)) (piece : Piece) → single_of width pieces ≡ Some piece → IsAmong piece.rows pieces
single_in width (rows ∷ []) piece e = let s : piece ≡ record { width = width; rows = rows } = cc in inl (ap (λ (z : Piece). z.rows) s)
single_in width [] piece e = absurd cc
single_in width (rows ∷ more ∷ rest) piece e = absurd cc

-- each modulus in the only piece of a position is at least 1
pub single_moduli : (m : Model) (P : Position) (piece : Piece) → Some piece ≡ single (domain m P) → HasModuli m → HaveModuli piece.rows
single_moduli m P piece e h =
    let b = bind-some (domain m P) (λ (a : Domain). single_of a.width a.pieces) piece (sym e) in
    domain_rows m h.pieces P b.0 piece.rows b.1 (single_in b.0.width b.0.pieces piece b.2)

pub asks_here : (g : Pairing) (c : Claim) (o o' : Option Piece) (l r : Piece) (b : Bool) → Some l ≡ o → Some r ≡ o' → b ≡ all_stand_among (output_rows g c (of_width l.width) (of_width r.width) l.rows r.rows) c.rows → b ≡ asks_of g c o o'
asks_here g c o o' l r b e f h = h ∙ (λ i. asks_of g c (e i) (f i))

pub asks_no_left : (g : Pairing) (c : Claim) (o o' : Option Piece) → None ≡ o → false ≡ asks_of g c o o'
asks_no_left g c o o' e = ap (λ z. asks_of g c z o') e

pub asks_no_right : (g : Pairing) (c : Claim) (o o' : Option Piece) (l : Piece) → Some l ≡ o → None ≡ o' → false ≡ asks_of g c o o'
asks_no_right g c o o' l e f = λ i. asks_of g c (e i) (f i)

pub ruleset piece_steps = (single_moduli, asks_here, asks_no_left, asks_no_right)

-- the two forms of the question
asks_is : (g : Pairing) (c : Claim) (o o' : Option Domain) → asks_no_more g c o o' ≡ asks_of g c (single o) (single o')
asks_is g c None o' = refl
asks_is g c (Some a) None = by (single_of a.width a.pieces)
  where
    by : (o : Option Piece) → false ≡ asks_of g c o None
    by None = refl
    by (Some l) = refl
asks_is g c (Some a) (Some b) = by a.pieces b.pieces
  where
    left_none : (o : Option Piece) → false ≡ asks_of g c None o
    left_none o = refl

    right_none : (o : Option Piece) → false ≡ asks_of g c o None
    right_none None = refl
    right_none (Some l) = refl

    by : (ls rs : List (List Row)) → asks_by g c a b ls rs ≡ asks_of g c (single_of a.width ls) (single_of b.width rs)
    by (l ∷ []) (r ∷ []) = refl
    by [] rs = refl
    by (l ∷ l' ∷ ls) rs = refl
    by (l ∷ []) [] = refl
    by (l ∷ []) (r ∷ r' ∷ rs) = refl

and_both : (a b c d : Bool) → (a && (b && (c && d))) ≡ ((a && (b && c)) && d)
and_both true true true d = refl
and_both true true false d = refl
and_both true false c d = refl
and_both false b c d = refl

-- a number is among some where one of them is equal to it
pub other_way : (o : ℕ) (xs : List ℕ) → list_any (λ y. nat_eq y o) xs ≡ list_any (nat_eq o) xs
other_way o [] = refl
other_way o (x ∷ xs) = ap (λ b. b || list_any (λ y. nat_eq y o) xs) (turned x o) ∙ ap (λ b. nat_eq o x || b) (other_way o xs)
  where
    by : (x y : ℕ) (a b : Bool) → nat_eq x y ≡ a → nat_eq y x ≡ b → a ≡ b
    by x y true true e f = refl
    by x y false false e f = refl
    by x y true false e f = sym (eq-eqb y x (sym (eqb-true x y e))) ∙ f
    by x y false true e f = sym e ∙ eq-eqb x y (sym (eqb-true y x f))

    turned : (x y : ℕ) → nat_eq x y ≡ nat_eq y x
    turned x y = by x y (nat_eq x y) (nat_eq y x) refl refl

pub stands_by : (g : Pairing) (outputs : List ℕ) (o : ℕ) (c : Claim) → output_stands g outputs o (Some c) ≡ ((list_any (nat_eq o) outputs && (same_position c.left (Output o) && same_position c.right (Output o))) && asks_of g c (single (domain g.left c.left)) (single (domain g.right c.right)))
stands_by g outputs o c =
    ap (λ z. list_any (nat_eq o) outputs && (same_position c.left (Output o) && (same_position c.right (Output o) && z))) (asks_is g c (domain g.left c.left) (domain g.right c.right))
    ∙ and_both (list_any (nat_eq o) outputs) (same_position c.left (Output o)) (same_position c.right (Output o)) _

-- the three answers
pub stands_past : (g : Pairing) (outputs : List ℕ) (o : ℕ) (cs : List Claim) (i : ℕ) → length cs ≤ i → false ≡ output_stands g outputs o (slice_get cs i)
stands_past g outputs o cs i h = sym (ap (output_stands g outputs o) (slice_get_past cs i h))

pub stands_not : (g : Pairing) (outputs : List ℕ) (o : ℕ) (cs : List Claim) (i : ℕ) (c : Claim) → i < length cs → c ≡ get_or cs i c → (list_any (nat_eq o) outputs && (same_position c.left (Output o) && same_position c.right (Output o))) ≡ false → false ≡ output_stands g outputs o (slice_get cs i)
stands_not g outputs o cs i c h e n =
    sym (ap (output_stands g outputs o) (slice_get_read cs (length cs) i c refl h e) ∙ stands_by g outputs o c ∙ ap (λ z. z && asks_of g c (single (domain g.left c.left)) (single (domain g.right c.right))) n)

pub stands_asked : (g : Pairing) (outputs : List ℕ) (o : ℕ) (cs : List Claim) (i : ℕ) (c : Claim) (b : Bool) → i < length cs → c ≡ get_or cs i c → (list_any (nat_eq o) outputs && (same_position c.left (Output o) && same_position c.right (Output o))) ≡ true
    → b ≡ asks_of g c (single (domain g.left c.left)) (single (domain g.right c.right)) → b ≡ output_stands g outputs o (slice_get cs i)
stands_asked g outputs o cs i c b h e y is =
    is ∙ sym (ap (output_stands g outputs o) (slice_get_read cs (length cs) i c refl h e) ∙ stands_by g outputs o c ∙ ap (λ z. z && asks_of g c (single (domain g.left c.left)) (single (domain g.right c.right))) y)

pub claim_moduli : (cs : List Claim) (i : ℕ) (c : Claim) → RowsHaveModuli cs → i < length cs → c ≡ get_or cs i c → HaveModuli c.rows
claim_moduli [] i c h l e = absurd (omega arith)
claim_moduli (d ∷ cs) zero c h l e = subst (λ (z : Claim). HaveModuli z.rows) (sym e) h.0
claim_moduli (d ∷ cs) (suc i) c h l e = claim_moduli cs i c h.1 (omega arith) e

pub ruleset stand_steps = (stands_past, stands_not, stands_asked, claim_moduli)
