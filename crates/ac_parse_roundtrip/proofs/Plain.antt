-- Declarations without their loop names: what they mean, and what is not among them.
use Rattle.std.proofs.Common.{◌≡◌, ℕ, Bool, true, false, cond, List, [], ◌∷◌, ◌++◌, map, nat_eq, refl, sym, ap, subst, ◌∙◌, inl, inr}
use Rattle.std.specs.Prelude.{◌⊎◌}
use Rattle.std.specs.List.{AllByRecursion, IsDistinct}
use Rattle.std.specs.Cmp.Lexicographic.{pointwise}
use Rattle.std.proofs.lemmas.Bool.Decides.{Decides-eqb}
use Rattle.std.proofs.lemmas.Slice.Eq.{slice_eq-Decides}
use Rattle.ac_parse_exprs.specs.declared.scope.Entry.{Entry}
use Rattle.ac_parse_exprs.specs.declared.scope.Meaning.{Meaning}
use Rattle.ac_parse_exprs.specs.declared.scope.Meaning.TheVariants as means
use Rattle.ac_parse_rules.specs.Declarations.{is_declared}
use Rattle.ac_parse_exprs.specs.Meanings.{declared_meaning}
use Rattle.ac_parse_exprs.proofs.Judges.{neither_is}
use Rattle.ac_parse_rules.proofs.SmallPrograms.{same_name}
use Rattle.ac_parse_roundtrip.proofs.Scopes.{IsKept}

abbrev pub is_loop : Meaning → Bool
is_loop (means.Parameter k) = false
is_loop (means.Iterator k) = false
is_loop (means.Array k dimensions) = false
is_loop means.LoopName = true
is_loop means.OwnStart = false
is_loop means.Nothing = false

-- the declarations but for loop names
abbrev pub plain : List Entry → List Entry
plain [] = []
plain (e ∷ es) = cond (is_loop e.meaning) (plain es) (e ∷ plain es)

pub plain_append : (xs ys : List Entry) → plain (xs ++ ys) ≡ plain xs ++ plain ys
plain_append [] ys = refl
plain_append (x ∷ xs) ys = by (is_loop x.meaning) (plain_append xs ys)
  where
    by : (b : Bool) → plain (xs ++ ys) ≡ plain xs ++ plain ys → cond b (plain (xs ++ ys)) (x ∷ plain (xs ++ ys)) ≡ cond b (plain xs) (x ∷ plain xs) ++ plain ys
    by true e = e
    by false e = ap (λ es. x ∷ es) e

kept_no_loop : (m : Meaning) {X : Type 0} → IsKept m → is_loop m ≡ true → X
kept_no_loop (means.Parameter k) is h = absurd cc
kept_no_loop (means.Iterator k) is h = absurd is
kept_no_loop (means.Array k dimensions) is h = absurd cc
kept_no_loop means.LoopName is h = absurd is
kept_no_loop means.OwnStart is h = absurd is
kept_no_loop means.Nothing is h = absurd cc

-- what a name means that is no loop name
pub kept_plain : (names : List Entry) (name : List ℕ) (m : Meaning) → IsKept m → declared_meaning names name ≡ m → declared_meaning (plain names) name ≡ m
kept_plain [] name m is h = h
kept_plain (e ∷ es) name m is h = by (pointwise nat_eq e.name name) refl (is_loop e.meaning) refl (kept_plain es name m is) h
  where
    by : (c : Bool) → pointwise nat_eq e.name name ≡ c → (b : Bool) → is_loop e.meaning ≡ b → (declared_meaning es name ≡ m → declared_meaning (plain es) name ≡ m)
        → cond c e.meaning (declared_meaning es name) ≡ m → declared_meaning (cond b (plain es) (e ∷ plain es)) name ≡ m
    by true same true loop again h = kept_no_loop m is (ap is_loop (sym h) ∙ loop)
    by true same false loop again h = rw same h
    by false same true loop again h = again h
    by false same false loop again h = rw same (again h)

-- what is not declared is not among them
pub new_plain : (names : List Entry) (name : List ℕ) → is_declared names name ≡ false → is_declared (plain names) name ≡ false
new_plain [] name h = refl
new_plain (e ∷ es) name h = let n = neither_is (pointwise nat_eq e.name name) (is_declared es name) h in by (is_loop e.meaning) n.0 (new_plain es name n.1)
  where
    by : (b : Bool) → pointwise nat_eq e.name name ≡ false → is_declared (plain es) name ≡ false → is_declared (cond b (plain es) (e ∷ plain es)) name ≡ false
    by true same again = again
    by false same again = rw (same, again) refl

same_names : (a b : List ℕ) → pointwise nat_eq a b ≡ true → a ≡ b
same_names a b h = (slice_eq-Decides Decides-eqb a b true (sym h)).0 refl

-- two names that differ, the other way round
differ_back : (a b : List ℕ) → pointwise nat_eq a b ≡ false → pointwise nat_eq b a ≡ false
differ_back a b h = by (pointwise nat_eq b a) refl
  where
    by : (c : Bool) → pointwise nat_eq b a ≡ c → c ≡ false
    by true e =
        let s : b ≡ a = same_names b a e in
        let t : pointwise nat_eq b b ≡ false = subst (λ x. pointwise nat_eq x b ≡ false) (sym s) h in
        sym (same_name b) ∙ t
    by false e = refl

not_there : (name : List ℕ) (es : List Entry) → AllByRecursion (λ m. pointwise nat_eq name m ≡ false) (map (λ (e : Entry). e.name) es) → is_declared es name ≡ false
not_there name [] h = refl
not_there name (e ∷ es) h = let d = differ_back name e.name h.0 in let r = not_there name es h.1 in rw (d, r) refl

-- a loop name that is declared once is not among them
pub loop_plain : (names : List Entry) (name : List ℕ) → IsDistinct (pointwise nat_eq) (map (λ (e : Entry). e.name) names) → declared_meaning names name ≡ means.LoopName
    → is_declared (plain names) name ≡ false
unfolding IsDistinct
loop_plain [] name d h = refl
loop_plain (e ∷ es) name d h = by (pointwise nat_eq e.name name) refl (is_loop e.meaning) refl (loop_plain es name d.1) h
  where
    by : (c : Bool) → pointwise nat_eq e.name name ≡ c → (b : Bool) → is_loop e.meaning ≡ b → (declared_meaning es name ≡ means.LoopName → is_declared (plain es) name ≡ false)
        → cond c e.meaning (declared_meaning es name) ≡ means.LoopName → is_declared (cond b (plain es) (e ∷ plain es)) name ≡ false
    by true same true loop again h =
        new_plain es name (subst (λ n. is_declared es n ≡ false) (same_names e.name name same) (not_there e.name es d.0))
    by true same false loop again h = absurd (let l : is_loop e.meaning ≡ true = ap is_loop h in cc)
    by false same true loop again h = again h
    by false same false loop again h = let r = again h in rw (same, r) refl

-- a name means nothing at the front of a list, or what it means in the whole
pub front_meaning : (front more : List Entry) (name : List ℕ) → (declared_meaning front name ≡ means.Nothing) ⊎ (declared_meaning (front ++ more) name ≡ declared_meaning front name)
front_meaning [] more name = inl refl
front_meaning (e ∷ es) more name = by (pointwise nat_eq e.name name) (front_meaning es more name)
  where
    by : (c : Bool) → (declared_meaning es name ≡ means.Nothing) ⊎ (declared_meaning (es ++ more) name ≡ declared_meaning es name)
        → (cond c e.meaning (declared_meaning es name) ≡ means.Nothing) ⊎ (cond c e.meaning (declared_meaning (es ++ more) name) ≡ cond c e.meaning (declared_meaning es name))
    by true again = inr refl
    by false again = again

-- a name that is not declared before means what its own declaration says
pub own_meaning : (before es : List Entry) (e : Entry) → is_declared before e.name ≡ false → declared_meaning (before ++ (e ∷ es)) e.name ≡ e.meaning
own_meaning [] es e h = by (pointwise nat_eq e.name e.name) (same_name e.name)
  where
    by : (b : Bool) → b ≡ true → cond b e.meaning (declared_meaning es e.name) ≡ e.meaning
    by true h = refl
    by false h = absurd cc
own_meaning (b ∷ bs) es e h = let n = neither_is (pointwise nat_eq b.name e.name) (is_declared bs e.name) h in let r = own_meaning bs es e n.1 in rw n.0 r
