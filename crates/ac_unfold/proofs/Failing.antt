-- Rows that fail at a point: in each part of a negation, and where no point meets them.
use Rattle.std.proofs.Common.{◌≡◌, inl, inr, ℕ, zero, suc, ◌+◌, ◌-◌, ◌<◌, ◌≤◌, Bool, true, false, ℤ, pos, negsuc, neg_ℤ, ◌+ℤ◌, ◌*ℤ◌, ◌≤ℤ◌, cond, List, [], ◌∷◌, ◌++◌, length, map, take, drop, refl, sym, ap, ◌∙◌, subst, arith, append-nil, unsigned_abs, ◌⊎◌}
use Rattle.std.proofs.lemmas.Int.{ints}
use Rattle.std.specs.List.{range_with_len}
use Rattle.std.specs.Int.{◌∣◌}
use Rattle.std.proofs.lemmas.Nat.Gcd.{le_of_dvd}
use Rattle.ac_base.specs.Multiple.{IsMultiple}
use Rattle.ac_base.proofs.Multiples.{multiple_add}
use Rattle.ac_forms.specs.Affine.{Affine, shifted, value_at}
use Rattle.ac_forms.specs.Negation.{above, below, piece, HasExtension}
use Rattle.ac_forms.specs.Rows.{Holds, Meets, IsRowOver}
use Rattle.ac_forms.specs.declared.conj.Conj.{Conj}
use Rattle.ac_forms.specs.declared.row.Row.{Row}
use Rattle.ac_forms.specs.declared.row.Row.TheVariants.{Eq, Div, Ge}
use Rattle.ac_forms.proofs.Negations.{complement}
use Rattle.ac_forms.proofs.Values.{value_at-shifted}
use Rattle.ac_cert.specs.Rules.{class_row}
use Rattle.ac_forms.specs.ListMembers.{IsAmong}
use Rattle.ac_claims_paths.specs.declared.path.Seat.{Seat}
use Rattle.ac_claims_paths.proofs.Moving.{meets-parts}
use Rattle.ac_widen.specs.declared.derivation.Entry.{Entry}
use Rattle.ac_claims_plans.specs.BranchSides.{has_few, one_row, outside_of, rest_side, side_of}
use Rattle.ac_claims_plans.specs.declared.branching.Part.{Part}
use Rattle.ac_widen_programs.proofs.Picks.{front_and_rest, holds_front}
use Rattle.ac_unfold.specs.UnfoldPaths.{BrokenPathsOf}
use Rattle.ac_unfold.specs.UnfoldQuestions.{IsBesideRow}
use Rattle.ac_unfold.specs.BrokenPathResults.{Adds, IsPathAt, IsPathBeside, IsPathBreaking}
use Rattle.ac_unfold.proofs.Adding.{adds_by, adds_then}

-- ---- the parts of a negation

flat : (c : Conj) (p : List ℤ) → length p ≡ c.columns → Meets c.rows p → HasExtension c p
flat c p l m = ([], ap length (append-nil p) ∙ l, subst (Meets c.rows) (sym (append-nil p)) m)

pub class_fails : (m : ℤ) (f : Affine) (r : ℕ) (p : List ℤ) → 1 ≤ r → r < unsigned_abs m → Holds (class_row m f (pos r)) p → ¬ (Holds (Div m f) p)
class_fails m f r p a b h k =
    let v = value_at f p in
    let e : value_at (shifted f (neg_ℤ (pos r))) p ≡ v +ℤ neg_ℤ (pos r) = value_at-shifted f (neg_ℤ (pos r)) p in
    let there : IsMultiple m (v +ℤ neg_ℤ (pos r)) = subst (IsMultiple m) e h in
    let z : pos 1 *ℤ v +ℤ negsuc 0 *ℤ (v +ℤ neg_ℤ (pos r)) ≡ pos r = less v (pos r) in
    let d : unsigned_abs m ∣ r = subst (λ (x : ℤ). unsigned_abs m ∣ unsigned_abs x) z (multiple_add m (pos 1) v (negsuc 0) (v +ℤ neg_ℤ (pos r)) k there) in
    let l : unsigned_abs m ≤ r = le_of_dvd (omega (arith, a)) d in
    absurd (omega (arith, l, b))
  where
    less : (v r : ℤ) → pos 1 *ℤ v +ℤ negsuc 0 *ℤ (v +ℤ neg_ℤ r) ≡ r
    less v r = omega (arith, ints)

-- a part of a class
record IsClassPart (m : ℤ) (f : Affine) (part : Part) : Type 0 where
  class : ℕ
  least : 1 ≤ class
  most : class < unsigned_abs m
  is : part ≡ one_row (class_row m f (pos class)) 0 0 1

class_part : (m : ℤ) (f : Affine) (part : Part) (first count : ℕ) → 1 ≤ first → first + count ≤ unsigned_abs m → IsAmong part (map (λ r. one_row (class_row m f (pos r)) 0 0 1) (range_with_len first count)) → IsClassPart m f part
class_part m f part first zero a b i = absurd i
class_part m f part first (suc count) a b (inl i) = record { class = first; least = a; most = omega (arith, b); is = i }
class_part m f part first (suc count) a b (inr i) = class_part m f part (first + 1) count (omega (arith, a)) (omega (arith, b)) i

-- a row fails in a part of its negation that has so many further columns
pub record FailsIn (n : ℕ) (r : Row) (part : Part) (p : List ℤ) : Type 0 where
  pub fails : ¬ (Holds r p)
  pub exact : (f : Affine) → r ≡ Eq f → length p ≡ n

one_fails : (n : ℕ) (r s : Row) (p : List ℤ) (place columns rows : ℕ) (part : Part) → part ≡ one_row s place columns rows → length p ≡ n + part.question_columns → Meets part.rows p → ((length p ≡ n) → Holds s p → ¬ (Holds r p)) → FailsIn n r part p
one_fails n r s p place columns rows part e l m by =
    let k : length p ≡ n + 0 = l ∙ ap (λ (x : Part). n + x.question_columns) e in
    let long : length p ≡ n = omega (arith, k) in
    let holds : Meets (s ∷ []) p = subst (λ (x : Part). Meets x.rows p) e m in
    record { fails = by long holds.0; exact = λ f _. long }

div_fails : (n : ℕ) (m : ℤ) (f : Affine) (part : Part) (p : List ℤ) → IsRowOver n (Div m f) → part ≡ rest_side n m f → length p ≡ n + part.question_columns → Meets part.rows p → ¬ (Holds (Div m f) p)
div_fails n m f part p over e l meets h =
    let k : length p ≡ n + 1 = l ∙ ap (λ (x : Part). n + x.question_columns) e in
    let w : n ≤ length p = omega (arith, k) in
    let parted = front_and_rest n p w in
    let there : Meets (rest_side n m f).rows (take n p ++ drop n p) = subst (Meets (rest_side n m f).rows) (sym parted.0) (subst (λ (x : Part). Meets x.rows p) e meets) in
    let long : length (take n p ++ drop n p) ≡ n + 1 = ap length parted.0 ∙ k in
    let c = over.0 in
    let t = parted.1 in
    (complement n (Div m f) (take n p) over parted.1).1 (inl (drop n p, long, there)) (holds_front (Div m f) (take n p) (drop n p) (omega (arith, c, t)) (subst (Holds (Div m f)) (sym parted.0) h))

positive : (m : ℤ) → pos 1 ≤ℤ m → 1 ≤ unsigned_abs m
positive (pos k) h = omega (arith, ints, h)
positive (negsuc k) h = absurd (omega (arith, ints, h))

pub outside_fails : (n : ℕ) (r : Row) (part : Part) (p : List ℤ) → IsRowOver n r → IsAmong part (outside_of n r) → length p ≡ n + part.question_columns → Meets part.rows p → FailsIn n r part p
outside_fails n (Eq f) part p over (inl e) l m =
    one_fails n (Eq f) (Ge (above f)) p 1 0 2 part e l m (λ long h. (complement n (Eq f) p over long).1 (inl (flat (piece n (Ge (above f) ∷ [])) p long (h, tt))))
outside_fails n (Eq f) part p over (inr (inl e)) l m =
    one_fails n (Eq f) (Ge (below f)) p 0 0 1 part e l m (λ long h. (complement n (Eq f) p over long).1 (inr (inl (flat (piece n (Ge (below f) ∷ [])) p long (h, tt)))))
outside_fails n (Eq f) part p over (inr (inr e)) l m = absurd e
outside_fails n (Ge f) part p over (inl e) l m =
    one_fails n (Ge f) (Ge (below f)) p 0 0 1 part e l m (λ long h. (complement n (Ge f) p over long).1 (inl (flat (piece n (Ge (below f) ∷ [])) p long (h, tt))))
outside_fails n (Ge f) part p over (inr e) l m = absurd e
outside_fails n (Div m f) part p over i l meets = by (has_few m) i
  where
    by : (few : Bool) → IsAmong part (cond few (map (λ r. one_row (class_row m f (pos r)) 0 0 1) (range_with_len 1 (unsigned_abs m - 1))) (rest_side n m f ∷ [])) → FailsIn n (Div m f) part p
    by true j =
        let modulus = over.1 in
        let least : 1 ≤ unsigned_abs m = positive m modulus in
        let c = class_part m f part 1 (unsigned_abs m - 1) (omega arith) (omega (arith, least)) j in
        one_fails n (Div m f) (class_row m f (pos c.class)) p 0 0 1 part c.is l meets (λ long h. class_fails m f c.class p c.least c.most h)
    by false (inl j) = record { fails = div_fails n m f part p over j l meets; exact = λ g e. absurd cc }
    by false (inr j) = absurd j

-- ---- paths

pub breaking_beside : (Ends : List Entry → Type 0) (n : ℕ) (pair_path : List (Seat × Seat)) (c : Conj) (row : Row) (parts : List Part) (before after : BrokenPathsOf) → IsRowOver c.columns row → parts ≡ outside_of c.columns row → Adds (IsPathBeside n pair_path c parts) Ends before after
    → Adds (IsPathBreaking n pair_path c (row ∷ [])) Ends before after
breaking_beside Ends n pair_path c row parts before after over e h =
    adds_by (IsPathBeside n pair_path c parts) (IsPathBreaking n pair_path c (row ∷ [])) Ends before after (λ es x. by es x (meets-parts c.rows x.part.rows x.at.point x.at.there.meets)) h
  where
    by : (es : List Entry) → (x : IsPathBeside n pair_path c parts es) → Meets c.rows x.at.point × Meets x.part.rows x.at.point → IsPathBreaking n pair_path c (row ∷ []) es
    by es x m =
        let f = outside_fails c.columns row x.part x.at.point over (subst (IsAmong x.part) e x.among) x.at.there.long m.1 in
        let l = x.at.there.long in
        record { point = x.at.point; long = omega (arith, l); meets = m.0; row = row; among = inl refl; fails = record { over = over; fails = f.fails; exact = f.exact }; asked = side_of c x.part; asked_is = inr (record { row = row; among = inl refl; side = record { part = x.part; among = subst (IsAmong x.part) e x.among; is = refl } }); there = x.at.there; are = x.at.are }

pub breaking_absurd : (Ends : List Entry → Type 0) (n : ℕ) (pair_path : List (Seat × Seat)) (c : Conj) (row : Row) (before after : BrokenPathsOf) → IsRowOver c.columns row × ((p : List ℤ) → ¬ (Holds row p)) → Adds (IsPathAt n pair_path c) Ends before after → Adds (IsPathBreaking n pair_path c (row ∷ [])) Ends before after
breaking_absurd Ends n pair_path c row before after none h =
    adds_by (IsPathAt n pair_path c) (IsPathBreaking n pair_path c (row ∷ [])) Ends before after
    (λ es x. let l = x.there.long in record { point = x.point; long = omega (arith, l); meets = x.there.meets; row = row; among = inl refl; fails = record { over = none.0; fails = none.1 x.point; exact = λ f e. x.there.long }; asked = c; asked_is = inl refl; there = x.there; are = x.are }) h

among_more : (n : ℕ) (pair_path : List (Seat × Seat)) (c : Conj) (rows more : List Row) (es : List Entry) → ((r : Row) → IsAmong r rows → IsAmong r more) → IsPathBreaking n pair_path c rows es → IsPathBreaking n pair_path c more es
among_more n pair_path c rows more es f x = record { point = x.point; long = x.long; meets = x.meets; row = x.row; among = f x.row x.among; fails = x.fails; asked = x.asked; asked_is = asked x.asked_is; there = x.there; are = x.are }
  where
    asked : (x.asked ≡ c) ⊎ IsBesideRow c rows x.asked → (x.asked ≡ c) ⊎ IsBesideRow c more x.asked
    asked (inl e) = inl e
    asked (inr b) = inr (record { row = b.row; among = f b.row b.among; side = b.side })

in_front : (xs ys : List Row) (r : Row) → IsAmong r xs → IsAmong r (xs ++ ys)
in_front [] ys r i = absurd i
in_front (x ∷ xs) ys r (inl i) = inl i
in_front (x ∷ xs) ys r (inr i) = inr (in_front xs ys r i)

in_back : (xs ys : List Row) (r : Row) → IsAmong r ys → IsAmong r (xs ++ ys)
in_back [] ys r i = i
in_back (x ∷ xs) ys r i = inr (in_back xs ys r i)

pub breaking_more : (Ends : List Entry → Type 0) (n : ℕ) (pair_path t : List (Seat × Seat)) (c d : Conj) (rows more : List Row) (row : Row) (before now after : BrokenPathsOf) → t ≡ pair_path → d ≡ c → more ≡ rows ++ row ∷ [] → Adds (IsPathBreaking n pair_path c rows) Ends before now
    → Adds (IsPathBreaking n t d (row ∷ [])) Ends now after → Adds (IsPathBreaking n pair_path c more) Ends before after
breaking_more Ends n pair_path t c d rows more row before now after e f g h k =
    let k' : Adds (IsPathBreaking n pair_path c (row ∷ [])) Ends now after = subst (λ (x : List (Seat × Seat)). Adds (IsPathBreaking n x c (row ∷ [])) Ends now after) e (subst (λ (x : Conj). Adds (IsPathBreaking n t x (row ∷ [])) Ends now after) f k) in
    adds_then (IsPathBreaking n pair_path c more) Ends before now after
    (adds_by (IsPathBreaking n pair_path c rows) (IsPathBreaking n pair_path c more) Ends before now (λ es x. among_more n pair_path c rows more es (λ r i. subst (IsAmong r) (sym g) (in_front rows (row ∷ []) r i)) x) h)
    (adds_by (IsPathBreaking n pair_path c (row ∷ [])) (IsPathBreaking n pair_path c more) Ends now after (λ es x. among_more n pair_path c (row ∷ []) more es (λ r i. subst (IsAmong r) (sym g) (in_back rows (row ∷ []) r i)) x) k')

-- the rows behind the first ones may be any
pub breaking_all : (Ends : List Entry → Type 0) (n : ℕ) (pair_path : List (Seat × Seat)) (c : Conj) (rows all rest : List Row) (before after : BrokenPathsOf) → all ≡ rows ++ rest → Adds (IsPathBreaking n pair_path c rows) Ends before after → Adds (IsPathBreaking n pair_path c all) Ends before after
breaking_all Ends n pair_path c rows all rest before after e h = adds_by (IsPathBreaking n pair_path c rows) (IsPathBreaking n pair_path c all) Ends before after (λ es x. among_more n pair_path c rows all es (λ r i. subst (IsAmong r) (sym e) (in_front rows rest r i)) x) h

-- those on which one of the last ones fails, too
pub breaking_rest : (Ends : List Entry → Type 0) (n : ℕ) (pair_path : List (Seat × Seat)) (c : Conj) (front rest all : List Row) (before after : BrokenPathsOf) → all ≡ front ++ rest → Adds (IsPathBreaking n pair_path c rest) Ends before after → Adds (IsPathBreaking n pair_path c all) Ends before after
breaking_rest Ends n pair_path c front rest all before after e h = adds_by (IsPathBreaking n pair_path c rest) (IsPathBreaking n pair_path c all) Ends before after (λ es x. among_more n pair_path c rest all es (λ r i. subst (IsAmong r) (sym e) (in_back front rest r i)) x) h
