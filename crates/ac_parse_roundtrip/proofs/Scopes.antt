-- Names are carried to the canonical text where its declarations keep those of the file, in each loop.
use Rattle.std.proofs.Common.{◌≡◌, ℕ, zero, suc, Bool, true, false, cond, List, [], ◌∷◌, ◌++◌, length, nat_eq, refl, sym, ap, subst, ◌∙◌, arith, Option, Some, None}
use Rattle.std.specs.Prelude.{slice_get}
use Rattle.std.specs.Cmp.Lexicographic.{pointwise}
use Rattle.std.proofs.lemmas.Bool.Decides.{Decides-eqb}
use Rattle.std.proofs.lemmas.Slice.Eq.{slice_eq-Decides}
use Rattle.std.proofs.lemmas.List.{length-append}
use Rattle.ac_syntax.specs.Text.{array_name}
use Rattle.ac_syntax.specs.Text as text
use Rattle.ac_syntax.specs.declared.tree.Program.{Program}
use Rattle.ac_parse_exprs.specs.declared.scope.Entry.{Entry}
use Rattle.ac_parse_exprs.specs.declared.scope.Meaning.{Meaning}
use Rattle.ac_parse_exprs.specs.declared.scope.Meaning.TheVariants as means
use Rattle.ac_parse_exprs.specs.declared.scope.Scope.{Scope}
use Rattle.ac_parse_rules.specs.Declarations.{is_declared}
use Rattle.ac_parse_rules.specs.LawsOfNames.{IsNamed}
use Rattle.ac_parse_exprs.specs.Meanings.{declared_meaning, iterator_number, is_starting, meaning_behind, meaning}
use Rattle.ac_parse_rules.specs.Statements.{inside, in_test}
use Rattle.ac_parse_roundtrip.specs.NameCorrespondence.{Carries}

-- what a canonical text can declare, or a name that is not declared
abbrev pub IsKept : Meaning → Type 0
IsKept (means.Parameter k) = Unit {0}
IsKept (means.Iterator k) = ⊥
IsKept (means.Array k dimensions) = Unit {0}
IsKept means.LoopName = ⊥
IsKept means.OwnStart = ⊥
IsKept means.Nothing = Unit {0}

-- declarations of a file, kept in a canonical text of the program but for loop names
pub record Keeps (p : Program) (names text_names : List Entry) : Type 0 where
  pub kept : (name : List ℕ) (m : Meaning) → IsKept m → declared_meaning names name ≡ m → declared_meaning text_names name ≡ m
  pub no_iterator : (name : List ℕ) (k : ℕ) → declared_meaning names name ≡ means.Iterator k → ⊥
  pub owned : (name : List ℕ) → IsNamed p name (declared_meaning names name)

-- what is no name of the file, and what is a loop name of it, is no name of the text
pub record Leaves (names text_names : List Entry) : Type 0 where
  pub loop_name : (name : List ℕ) → declared_meaning names name ≡ means.LoopName → is_declared text_names name ≡ false
  pub new : (name : List ℕ) → is_declared names name ≡ false → is_declared text_names name ≡ false

-- the names that the text writes at a place are those of the program and of the loops that run there
pub record Follows (p : Program) (scope : Scope) (written : text.Scope) : Type 0 where
  pub params : written.params ≡ p.params
  pub arrays : written.arrays ≡ p.arrays
  pub many : length p.params ≡ scope.params
  pub iterators : length written.iters ≡ length scope.iterators
  pub named : (name : List ℕ) (k : ℕ) → iterator_number scope.iterators name ≡ Some k → slice_get written.iters k ≡ Some name

-- ---- into a loop

at_end : {A : Type 0} (xs : List A) (x : A) (k : ℕ) → k ≡ length xs → slice_get (xs ++ x ∷ []) k ≡ Some x
at_end [] x zero e = refl
at_end [] x (suc k) e = absurd (omega (arith, e))
at_end (y ∷ xs) x zero e = absurd (omega (arith, e))
at_end (y ∷ xs) x (suc k) e = at_end xs x k (omega (arith, e))

in_front : {A : Type 0} (xs : List A) (x y : A) (k : ℕ) → slice_get xs k ≡ Some y → slice_get (xs ++ x ∷ []) k ≡ Some y
in_front [] x y k e = absurd cc
in_front (z ∷ xs) x y zero e = e
in_front (z ∷ xs) x y (suc k) e = in_front xs x y k e

pub follows_inside : (p : Program) (scope : Scope) (written : text.Scope) (iter : List ℕ) → Follows p scope written → Follows p (inside scope iter) (text.inside written iter)
follows_inside p scope written iter f = record {
  params = f.params;
  arrays = f.arrays;
  many = f.many;
  iterators = let e = f.iterators in let l = length-append written.iters (iter ∷ []) in omega (arith, e, l);
  named = λ name k e. by name k (pointwise nat_eq iter name) refl e;
}
  where
    by : (name : List ℕ) (k : ℕ) (b : Bool) → b ≡ pointwise nat_eq iter name → cond b (Some (length scope.iterators)) (iterator_number scope.iterators name) ≡ Some k → slice_get (written.iters ++ iter ∷ []) k ≡ Some name
    by name k true same e =
        let n : iter ≡ name = (slice_eq-Decides Decides-eqb iter name true same).0 refl in
        let l : length scope.iterators ≡ k = cc in
        at_end written.iters iter k (sym l ∙ sym f.iterators) ∙ ap (λ x. Some x) n
    by name k false same e = in_front written.iters iter name k (f.named name k e)

pub follows_test : (p : Program) (scope : Scope) (written : text.Scope) (iter : List ℕ) → Follows p scope written → Follows p (in_test scope iter) (text.inside written iter)
follows_test p scope written iter f =
    let g = follows_inside p scope written iter f in
    record { params = g.params; arrays = g.arrays; many = g.many; iterators = g.iterators; named = g.named }

-- ---- what is carried

module _ (p : Program) (names text_names : List Entry) (keeps : Keeps p names text_names) (scope : Scope) (text_scope : Scope) (written : text.Scope) (follows : Follows p scope written)
    (same_params : text_scope.params ≡ scope.params) (same_fixed : text_scope.fixed ≡ scope.fixed) (same_tested : text_scope.tested ≡ scope.tested) (same_iterators : text_scope.iterators ≡ scope.iterators) (starting : text_scope.starting ≡ None) where
  -- an iterator of the text
  running_means : (name : List ℕ) (k : ℕ) → iterator_number scope.iterators name ≡ Some k → meaning text_names text_scope name ≡ means.Iterator k
  running_means name k e =
      let f : iterator_number text_scope.iterators name ≡ Some k = subst (λ is. iterator_number is name ≡ Some k) (sym same_iterators) e in
      rw f refl

  -- a declaration of the text
  declared_means : (name : List ℕ) (m : Meaning) → iterator_number scope.iterators name ≡ None → declared_meaning text_names name ≡ m → meaning text_names text_scope name ≡ m
  declared_means name m e d =
      let f : iterator_number text_scope.iterators name ≡ None = subst (λ is. iterator_number is name ≡ None) (sym same_iterators) e in
      let g : is_starting text_scope.starting name ≡ false = subst (λ o. is_starting o name ≡ false) (sym starting) refl in
      rw (f, g, d) refl

  iterator_carried : (name : List ℕ) (k : ℕ) → meaning names scope name ≡ means.Iterator k → (slice_get written.iters k ≡ Some name) × (meaning text_names text_scope name ≡ means.Iterator k)
  iterator_carried name k e = by (iterator_number scope.iterators name) refl (is_starting scope.starting name) e
    where
      by : (o : Option ℕ) → iterator_number scope.iterators name ≡ o → (own : Bool) → meaning_behind o own (declared_meaning names name) ≡ means.Iterator k
          → (slice_get written.iters k ≡ Some name) × (meaning text_names text_scope name ≡ means.Iterator k)
      by (Some j) f own e = let s : j ≡ k = cc in let g : iterator_number scope.iterators name ≡ Some k = f ∙ ap (λ x. Some x) s in (follows.named name k g, running_means name k g)
      by None f true e = absurd cc
      by None f false e = absurd (keeps.no_iterator name k e)

  declared_carried : (name : List ℕ) (m : Meaning) → IsKept m → meaning names scope name ≡ m → (declared_meaning names name ≡ m) × (meaning text_names text_scope name ≡ m)
  declared_carried name m is e = by (iterator_number scope.iterators name) refl (is_starting scope.starting name) e
    where
      no_iterator : (m : Meaning) (j : ℕ) {X : Type 0} → IsKept m → means.Iterator j ≡ m → X
      no_iterator (means.Parameter k) j is e = absurd cc
      no_iterator (means.Iterator k) j is e = absurd is
      no_iterator (means.Array k dimensions) j is e = absurd cc
      no_iterator means.LoopName j is e = absurd is
      no_iterator means.OwnStart j is e = absurd is
      no_iterator means.Nothing j is e = absurd cc

      no_start : (m : Meaning) {X : Type 0} → IsKept m → means.OwnStart ≡ m → X
      no_start (means.Parameter k) is e = absurd cc
      no_start (means.Iterator k) is e = absurd is
      no_start (means.Array k dimensions) is e = absurd cc
      no_start means.LoopName is e = absurd is
      no_start means.OwnStart is e = absurd is
      no_start means.Nothing is e = absurd cc

      by : (o : Option ℕ) → iterator_number scope.iterators name ≡ o → (own : Bool) → meaning_behind o own (declared_meaning names name) ≡ m
          → (declared_meaning names name ≡ m) × (meaning text_names text_scope name ≡ m)
      by (Some j) f own e = no_iterator m j is e
      by None f true e = no_start m is e
      by None f false e = (e, declared_means name m f (keeps.kept name m is e))

  parameter_named : (name : List ℕ) (k : ℕ) → declared_meaning names name ≡ means.Parameter k → slice_get written.params k ≡ Some name
  parameter_named name k e =
      let n : IsNamed p name (means.Parameter k) = subst (IsNamed p name) e (keeps.owned name) in
      ap (λ ps. slice_get ps k) follows.params ∙ n

  array_named : (name : List ℕ) (k dimensions : ℕ) → declared_meaning names name ≡ means.Array k dimensions → array_name (slice_get written.arrays k) ≡ name
  array_named name k dimensions e =
      let n : IsNamed p name (means.Array k dimensions) = subst (IsNamed p name) e (keeps.owned name) in
      ap (λ xs. array_name (slice_get xs k)) follows.arrays ∙ ap array_name n.1 ∙ n.2

  pub carries : Carries names scope text_names text_scope written
  carries = record {
    params = same_params;
    fixed = same_fixed;
    tested = same_tested;
    iterators = ap length same_iterators;
    param_names = ap length follows.params ∙ follows.many;
    iterator_names = follows.iterators;
    parameter = λ k name s. let r = declared_carried name (means.Parameter k) tt s.means in (parameter_named name k r.0, record { means = r.1 });
    iterator = λ k name s. let r = iterator_carried name k s.means in (r.0, record { means = r.1 });
    array = λ k dimensions name s. let r = declared_carried name (means.Array k dimensions) tt s.means in (array_named name k dimensions r.0, record { means = r.1 });
    nothing = λ name s. record { means = (declared_carried name means.Nothing tt s.means).1 };
  }
