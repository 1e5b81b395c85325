-- The table of an arranged pair respects its names.
use Rattle.std.proofs.Common.{◌≡◌, ℕ, List, [], ◌∷◌, ◌++◌, Bool, true, false, refl, sym, ap, ◌∙◌, arith}
use Rattle.std.specs.Prelude.{◌&&◌, ◌||◌, ◌==◌, nat_eq, nat_le, IsTrue}
use Rattle.std.specs.List.{list_any}
use Rattle.std.specs.Cmp.Lexicographic.{pointwise}
use Rattle.std.proofs.lemmas.Bool.Decides.{nat_tests}
use Rattle.std.proofs.lemmas.List.Folds.{list_any-append}
use Rattle.ac_syntax.specs.Outputs.{swaps_of}
use Rattle.ac_syntax.specs.declared.tree.Symbol.{Symbol}
use Rattle.ac_assoc_law.specs.OperandChains.{binary}
use Rattle.ac_assoc_law.specs.ArrangedPairs.{is_listed}
use Rattle.ac_assoc_law.specs.ArrangedTables.{is_chain, arranged_table}
use Rattle.ac_assoc_law.specs.LawsOfArrangements.{ArrangedTablesRespect}
use Rattle.ac_assoc_law.proofs.Placing.{exchange}

within : (n : ℕ) → (n == 2) ≡ true → (nat_le 2 n && nat_le n 6) ≡ true
within n h = grind (arith, nat_tests)

unlisted : (a o m l r : Bool) → (a ≡ true → r ≡ true) → o ≡ (m || l) → (a && o) ≡ true → (l && r) ≡ false → (a && m) ≡ true
unlisted true o true l r f e h g = refl
unlisted true o false true r f e h g = absurd (cc (f refl))
unlisted true o false false r f e h g = sym e ∙ h
unlisted false o m l r f e h g = h

old_name : (names commutative : List (List ℕ)) (s : Symbol) → IsTrue (swaps_of (commutative ++ names) s) → is_chain names s ≡ false → IsTrue (swaps_of commutative s)
old_name names commutative s h g =
    unlisted (s.arity == 2) (list_any (pointwise nat_eq s.name) (commutative ++ names)) (list_any (pointwise nat_eq s.name) commutative) (is_listed names s)
    (nat_le 2 s.arity && nat_le s.arity 6) (within s.arity) (list_any-append (pointwise nat_eq s.name) commutative names) h g

pub tables_respect : ArrangedTablesRespect
tables_respect names commutative t r s h x y = by (is_chain names s) refl
  where
    by : (b : Bool) → is_chain names s ≡ b → arranged_table names t s (x ∷ y ∷ []) ≡ arranged_table names t s (y ∷ x ∷ [])
    by true e = rw e (ap (t.chains (binary s.name)) (exchange x y []))
    by false e = rw e (r s (old_name names commutative s h e) x y)
