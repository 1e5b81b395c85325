-- What a scope gets for quotients: a column for each that is none of those before.
use Rattle.std.proofs.Common.{◌≡◌, ℕ, ◌+◌, ◌≤◌, List, [], ◌∷◌, ◌++◌, ◌||◌, map, Bool, true, false, refl, sym, ap, ◌∙◌, arith, append-nil, append_assoc}
use Rattle.std.specs.Prelude.{if◌then◌else◌}
use Rattle.std.specs.List.{AllByRecursion, list_any}
use Rattle.std.proofs.lemmas.List.Folds.{list_any-append}
use Rattle.ac_forms.specs.Affine.{Affine}
use Rattle.ac_syntax.specs.declared.tree.Quot.{Quot}
use Rattle.ac_poly_quotients.specs.FilledColumns.{counters, quots_of}
use Rattle.ac_poly_quotients.specs.LoweredForms.{argument_form}
use Rattle.ac_poly_quotients.specs.QuotientScopes.{column_count, with_new, is_named, with_quots, column_of}
use Rattle.ac_poly_quotients.specs.declared.types.Column.{Column}
use Rattle.ac_poly_quotients.specs.declared.types.Column.TheVariants.{Quotient}
use Rattle.ac_poly_quotients.specs.declared.types.QuotColumn.{QuotColumn}
use Rattle.ac_poly_quotients.specs.declared.types.Rounded.{Rounded}
use Rattle.ac_poly_quotients.specs.declared.types.Scope.{Scope}
use Rattle.ac_top.proofs.OrderedScopes.{one_more}

-- the quotients that get a column, in their order
abbrev pub fresh : Scope → List Quot → List Quot
fresh sc [] = []
fresh sc (q ∷ qs) = if list_any (is_named q) sc.quots then fresh sc qs else q ∷ fresh (with_new sc q) qs

abbrev pub rounded : List Affine → Quot → Rounded
rounded its q = record { form = argument_form its q; div = q.div }

abbrev pub column_of_quot : List Affine → Quot → Column
column_of_quot its q = Quotient (rounded its q)

-- in columns from k on
abbrev pub numbered : ℕ → List Quot → List QuotColumn
numbered k [] = []
numbered k (q ∷ qs) = record { quot = q; column = k } ∷ numbered (k + 1) qs

-- a scope that has got these quotients in further columns
pub record Gains (sc c : Scope) (qs : List Quot) : Type 0 where
  pub params : c.params ≡ sc.params
  pub iters : c.iters ≡ sc.iters
  pub columns : c.columns ≡ sc.columns ++ map (column_of_quot sc.iters) qs
  pub quots : c.quots ≡ sc.quots ++ numbered (column_count sc) qs

gains_new : (sc : Scope) (q : Quot) (c : Scope) (qs : List Quot) → Gains (with_new sc q) c qs → Gains sc c (q ∷ qs)
gains_new sc q c qs h = record {
  params = h.params;
  iters = h.iters;
  columns = h.columns ∙ append_assoc sc.columns (column_of_quot sc.iters q ∷ []) (map (column_of_quot sc.iters) qs);
  quots =
      h.quots ∙ append_assoc sc.quots (record { quot = q; column = column_count sc } ∷ []) (numbered (column_count (with_new sc q)) qs)
      ∙ ap (λ n. sc.quots ++ record { quot = q; column = column_count sc } ∷ numbered n qs) (one_more sc.params sc.columns (column_of_quot sc.iters q));
}

gains_if : (b : Bool) (sc : Scope) (q : Quot) (qs : List Quot) → Gains sc (with_quots sc qs) (fresh sc qs) → Gains (with_new sc q) (with_quots (with_new sc q) qs) (fresh (with_new sc q) qs)
    → Gains sc (with_quots (if b then sc else with_new sc q) qs) (if b then fresh sc qs else q ∷ fresh (with_new sc q) qs)
gains_if true sc q qs h g = h
gains_if false sc q qs h g = gains_new sc q (with_quots (with_new sc q) qs) (fresh (with_new sc q) qs) g

pub gains : (sc : Scope) (qs : List Quot) → Gains sc (with_quots sc qs) (fresh sc qs)
gains sc [] = record { params = refl; iters = refl; columns = sym (append-nil sc.columns); quots = sym (append-nil sc.quots) }
gains sc (q ∷ qs) = gains_if (list_any (is_named q) sc.quots) sc q qs (gains sc qs) (gains (with_new sc q) qs)

-- they are some of the quotients
some_if : (P : Quot → Type 0) (b : Bool) (q : Quot) (xs ys : List Quot) → P q → AllByRecursion P xs → AllByRecursion P ys → AllByRecursion P (if b then xs else q ∷ ys)
some_if P true q xs ys p h g = h
some_if P false q xs ys p h g = (p, g)

pub all_fresh : (P : Quot → Type 0) (sc : Scope) (qs : List Quot) → AllByRecursion P qs → AllByRecursion P (fresh sc qs)
all_fresh P sc [] h = tt
all_fresh P sc (q ∷ qs) h = some_if P (list_any (is_named q) sc.quots) q (fresh sc qs) (fresh (with_new sc q) qs) h.0 (all_fresh P sc qs h.1) (all_fresh P (with_new sc q) qs h.1)

-- and none was there before
neither : (a b : Bool) → (a || b) ≡ false → (a ≡ false) × (b ≡ false)
neither true b h = absurd (let k : true ≡ false = h in cc)
neither false b h = (refl, h)

abbrev pub AreNew : Scope → List Quot → Type 0
AreNew sc = AllByRecursion (λ q. list_any (is_named q) sc.quots ≡ false)

new_before : (sc : Scope) (q : Quot) (qs : List Quot) → AreNew (with_new sc q) qs → AreNew sc qs
new_before sc q [] h = tt
new_before sc q (x ∷ qs) h = ((neither _ _ (sym (list_any-append (is_named x) sc.quots (record { quot = q; column = column_count sc } ∷ [])) ∙ h.0)).0, new_before sc q qs h.1)

new_if : (b : Bool) (sc : Scope) (q : Quot) (xs ys : List Quot) → list_any (is_named q) sc.quots ≡ b → AreNew sc xs → AreNew sc ys → AreNew sc (if b then xs else q ∷ ys)
new_if true sc q xs ys e h g = h
new_if false sc q xs ys e h g = (e, g)

pub fresh_are_new : (sc : Scope) (qs : List Quot) → AreNew sc (fresh sc qs)
fresh_are_new sc [] = tt
fresh_are_new sc (q ∷ qs) =
    new_if (list_any (is_named q) sc.quots) sc q (fresh sc qs) (fresh (with_new sc q) qs) refl (fresh_are_new sc qs) (new_before sc q (fresh (with_new sc q) qs) (fresh_are_new (with_new sc q) qs))

-- ---- the column of one of them

still : (b : Bool) (k l m : ℕ) → b ≡ false → l ≡ m → (if b then k else l) ≡ m
still true k l m e h = absurd (let f : true ≡ false = e in cc)
still false k l m e h = h

pub not_before : (test : QuotColumn → Bool) (xs ys : List QuotColumn) → list_any test xs ≡ false → column_of test (xs ++ ys) ≡ column_of test ys
not_before test [] ys h = refl
not_before test (x ∷ xs) ys h = let n = neither _ _ h in still (test x) x.column (column_of test (xs ++ ys)) (column_of test ys) n.0 (not_before test xs ys n.1)

least : (b any : Bool) (k l m : ℕ) → (b || any) ≡ true → m ≤ k → (any ≡ true → m ≤ l) → m ≤ (if b then k else l)
least true any k l m h a f = a
least false any k l m h a f = f h

pub column_behind : (test : QuotColumn → Bool) (k m : ℕ) (qs : List Quot) → m ≤ k → list_any test (numbered k qs) ≡ true → m ≤ column_of test (numbered k qs)
column_behind test k m [] l h = absurd (let f : false ≡ true = h in cc)
column_behind test k m (q ∷ qs) l h =
    least (test (record { quot = q; column = k })) (list_any test (numbered (k + 1) qs)) k (column_of test (numbered (k + 1) qs)) m h l (λ g. column_behind test (k + 1) m qs (omega (arith, l)) g)

-- ---- what the columns hold

pub counted : (its : List Affine) (qs : List Quot) → counters (map (column_of_quot its) qs) ≡ 0
counted its [] = refl
counted its (q ∷ qs) = counted its qs

pub divided : (its : List Affine) (qs : List Quot) → quots_of (map (column_of_quot its) qs) ≡ map (rounded its) qs
divided its [] = refl
divided its (q ∷ qs) = ap (λ rs. rounded its q ∷ rs) (divided its qs)
