-- Sums and multiples of lists of distinct quotients are distinct, and what is true of each quotient stays true.
use Rattle.std.proofs.Common.{◌≡◌, ℤ, ◌+ℤ◌, ◌*ℤ◌, Bool, true, false, not, cond, List, [], ◌∷◌, refl, Option, Some, None}
use Rattle.std.specs.List.{AllByRecursion}
use Rattle.std.specs.Option.{option_map, option_and_then}
use Rattle.ac_syntax.specs.Index.{is_zero}
use Rattle.ac_syntax.specs.Quotients.{same_quot}
use Rattle.ac_syntax.specs.declared.tree.Quot.{Quot}
use Rattle.ac_parse_exprs.specs.AffineForms.{is_small, with_coef, with_quot, joined_quots, scaled_quots}
use Rattle.ac_parse_exprs.specs.Comparisons.{counted}
use Rattle.ac_parse_roundtrip.specs.ColumnNames.{AreDistinct}

-- ---- what is true of a quotient whatever its coefficient

module _ (P : Quot → Type 0) (other : (q : Quot) (c : ℤ) → P q → P (record q { coef = c })) where
  abbrev All : List Quot → Type 0
  All = AllByRecursion P

  abbrev AllOf : Option (List Quot) → Type 0
  AllOf None = Unit {0}
  AllOf (Some qs) = All qs

  front_coef : (c : ℤ) (q : Quot) (qs : List Quot) (b : Bool) → P q → All qs → AllOf (option_map (λ r. r ∷ qs) (option_map (λ z. record q { coef = z }) (cond b (Some c) None)))
  front_coef c q qs true h a = (other q c h, a)
  front_coef c q qs false h a = tt

  front : (q : Quot) (rest : Option (List Quot)) → P q → AllOf rest → AllOf (option_map (λ qs. q ∷ qs) rest)
  front q None h a = tt
  front q (Some qs) h a = (h, a)

  with_by : (k : ℤ) (q p : Quot) (ps : List Quot) (b : Bool) → P p → All ps → AllOf (with_quot k q ps)
      → AllOf (cond b (option_map (λ r. r ∷ ps) (with_coef (p.coef +ℤ (k *ℤ q.coef)) p)) (option_map (λ rest. p ∷ rest) (with_quot k q ps)))
  with_by k q p ps true h a rest = front_coef (p.coef +ℤ (k *ℤ q.coef)) p ps (is_small (p.coef +ℤ (k *ℤ q.coef))) h a
  with_by k q p ps false h a rest = front p (with_quot k q ps) h rest

  pub all_with : (k : ℤ) (q : Quot) (ps : List Quot) → P q → All ps → AllOf (with_quot k q ps)
  all_with k q [] h a = front_coef (k *ℤ q.coef) q [] (is_small (k *ℤ q.coef)) h tt
  all_with k q (p ∷ ps) h a = with_by k q p ps (same_quot q p) a.0 a.1 (all_with k q ps h a.1)

  scaled_by : (c : ℤ) (q : Quot) (rest : Option (List Quot)) (b : Bool) → P q → AllOf rest
      → AllOf (option_and_then (λ p. option_map (λ ps. p ∷ ps) rest) (option_map (λ z. record q { coef = z }) (cond b (Some c) None)))
  scaled_by c q rest true h a = front (record q { coef = c }) rest (other q c h) a
  scaled_by c q rest false h a = tt

  pub all_scaled : (k : ℤ) (qs : List Quot) → All qs → AllOf (scaled_quots k qs)
  all_scaled k [] h = tt
  all_scaled k (q ∷ qs) h = scaled_by (k *ℤ q.coef) q (scaled_quots k qs) (is_small (k *ℤ q.coef)) h.0 (all_scaled k qs h.1)

-- ---- distinct quotients

abbrev Differs : Quot → Quot → Type 0
Differs p q = same_quot q p ≡ false

abbrev DistinctOf : Option (List Quot) → Type 0
DistinctOf None = Unit {0}
DistinctOf (Some qs) = AreDistinct qs

distinct_coef : (c : ℤ) (p : Quot) (ps : List Quot) (b : Bool) → AreDistinct (p ∷ ps) → DistinctOf (option_map (λ r. r ∷ ps) (option_map (λ z. record p { coef = z }) (cond b (Some c) None)))
distinct_coef c p ps true d = (d.0, d.1)
distinct_coef c p ps false d = tt

distinct_front : (p : Quot) (rest : Option (List Quot)) → AllOf (Differs p) (λ q c h. h) rest → DistinctOf rest → DistinctOf (option_map (λ qs. p ∷ qs) rest)
distinct_front p None a d = tt
distinct_front p (Some qs) a d = (a, d)

distinct_by : (k : ℤ) (q p : Quot) (ps : List Quot) (b : Bool) → same_quot q p ≡ b → AreDistinct (p ∷ ps) → DistinctOf (with_quot k q ps)
    → DistinctOf (cond b (option_map (λ r. r ∷ ps) (with_coef (p.coef +ℤ (k *ℤ q.coef)) p)) (option_map (λ rest. p ∷ rest) (with_quot k q ps)))
distinct_by k q p ps true e d rest = distinct_coef (p.coef +ℤ (k *ℤ q.coef)) p ps (is_small (p.coef +ℤ (k *ℤ q.coef))) d
distinct_by k q p ps false e d rest = distinct_front p (with_quot k q ps) (all_with (Differs p) (λ q c h. h) k q ps e d.0) rest

distinct_with : (k : ℤ) (q : Quot) (ps : List Quot) → AreDistinct ps → DistinctOf (with_quot k q ps)
distinct_with k q [] d = distinct_coef (k *ℤ q.coef) q [] (is_small (k *ℤ q.coef)) (tt, tt)
distinct_with k q (p ∷ ps) d = distinct_by k q p ps (same_quot q p) refl d (distinct_with k q ps d.1)

distinct_scaled_by : (c : ℤ) (q : Quot) (rest : Option (List Quot)) (b : Bool) → AllOf (Differs q) (λ r z h. h) rest → DistinctOf rest
    → DistinctOf (option_and_then (λ p. option_map (λ ps. p ∷ ps) rest) (option_map (λ z. record q { coef = z }) (cond b (Some c) None)))
distinct_scaled_by c q None true a d = tt
distinct_scaled_by c q (Some qs) true a d = (a, d)
distinct_scaled_by c q rest false a d = tt

distinct_scaled : (k : ℤ) (qs : List Quot) → AreDistinct qs → DistinctOf (scaled_quots k qs)
distinct_scaled k [] d = tt
distinct_scaled k (q ∷ qs) d = distinct_scaled_by (k *ℤ q.coef) q (scaled_quots k qs) (is_small (k *ℤ q.coef)) (all_scaled (Differs q) (λ r z h. h) k qs d.0) (distinct_scaled k qs d.1)

-- ---- distinct quotients of each of which something is true

module _ (P : Quot → Type 0) (other : (q : Quot) (c : ℤ) → P q → P (record q { coef = c })) where
  pub record AreListed (qs : List Quot) : Type 0 where
    pub all : AllByRecursion P qs
    pub distinct : AreDistinct qs

  abbrev pub ListedOf : Option (List Quot) → Type 0
  ListedOf None = Unit {0}
  ListedOf (Some qs) = AreListed qs

  listed : (o : Option (List Quot)) → AllOf P other o → DistinctOf o → ListedOf o
  listed None a d = tt
  listed (Some qs) a d = record { all = a; distinct = d }

  next_listed : (o : Option (List Quot)) (next : List Quot → Option (List Quot)) → ListedOf o → ((qs : List Quot) → AreListed qs → ListedOf (next qs)) → ListedOf (option_and_then next o)
  next_listed None next h f = tt
  next_listed (Some qs) next h f = f qs h

  pub scaled_listed : (k : ℤ) (qs : List Quot) → AreListed qs → ListedOf (scaled_quots k qs)
  scaled_listed k qs h = listed (scaled_quots k qs) (all_scaled P other k qs h.all) (distinct_scaled k qs h.distinct)

  joined_by : (k : ℤ) (ps qs : List Quot) → AreListed ps → AllByRecursion P qs → ListedOf (joined_quots k ps qs)
  joined_by k ps [] h a = h
  joined_by k ps (q ∷ qs) h a =
      next_listed (with_quot k q ps) (λ more. joined_quots k more qs) (listed (with_quot k q ps) (all_with P other k q ps a.0 h.all) (distinct_with k q ps h.distinct)) (λ more l. joined_by k more qs l a.1)

  pub joined_listed : (k : ℤ) (ps qs : List Quot) → AreListed ps → AreListed qs → ListedOf (joined_quots k ps qs)
  joined_listed k ps qs h g = joined_by k ps qs h g.all

  pub then_listed : (k m : ℤ) (ps qs : List Quot) → AreListed ps → AreListed qs → ListedOf (option_and_then (λ rs. joined_quots k rs ps) (scaled_quots m qs))
  then_listed k m ps qs h g = next_listed (scaled_quots m qs) (λ rs. joined_quots k rs ps) (scaled_listed m qs g) (λ rs l. joined_listed k rs ps l h)

-- ---- those that count

left_by : (P : Quot → Type 0) (q : Quot) (qs : List Quot) (b : Bool) → P q → AllByRecursion P qs → AllByRecursion P (cond b (q ∷ qs) qs)
left_by P q qs true h a = (h, a)
left_by P q qs false h a = a

pub all_left : (P : Quot → Type 0) (qs : List Quot) → AllByRecursion P qs → AllByRecursion P (counted qs)
all_left P [] a = tt
all_left P (q ∷ qs) a = left_by P q (counted qs) (not (is_zero q.coef)) a.0 (all_left P qs a.1)

distinct_left_by : (q : Quot) (qs : List Quot) (b : Bool) → AllByRecursion (Differs q) qs → AreDistinct qs → AreDistinct (cond b (q ∷ qs) qs)
distinct_left_by q qs true a d = (a, d)
distinct_left_by q qs false a d = d

pub distinct_left : (qs : List Quot) → AreDistinct qs → AreDistinct (counted qs)
distinct_left [] d = tt
distinct_left (q ∷ qs) d = distinct_left_by q (counted qs) (not (is_zero q.coef)) (all_left (Differs q) qs d.0) (distinct_left qs d.1)
