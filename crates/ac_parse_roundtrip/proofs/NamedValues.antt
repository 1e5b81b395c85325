-- Values whose numbers are small, whose arrays are there and whose calls have symbols have words and names.
use Rattle.std.specs.Prelude.{◌≡◌, ◌<◌, ℕ, zero, suc, ℤ, List, [], ◌∷◌, length}
use Rattle.std.specs.List.{AllByRecursion}
use Rattle.std.proofs.Common.{refl, subst, arith, rules}
use Rattle.ac_syntax.specs.Small.{IsSmall, IsSmallQuot, IsSmallForm, AreSmallForms, IsSmallRel, AreSmallParts, IsSmallValue, AreSmallValues}
use Rattle.ac_syntax.specs.declared.tree.Array.{Array}
use Rattle.ac_syntax.specs.declared.tree.Comparison.{Comparison}
use Rattle.ac_syntax.specs.declared.tree.IndexExpr.{IndexExpr}
use Rattle.ac_syntax.specs.declared.tree.Quot.{Quot}
use Rattle.ac_syntax.specs.declared.tree.Rel.{Rel}
use Rattle.ac_syntax.specs.declared.tree.Rel.TheVariants.{NonNegative, Zero, Divides}
use Rattle.ac_syntax.specs.declared.tree.Place.{Place}
use Rattle.ac_syntax.specs.declared.tree.Symbol.{Symbol}
use Rattle.ac_syntax.specs.declared.tree.Value.{Value, Row_of-Value, end_of-Value, more_of-Value, items-the_row-Value, the_lemmas}
use Rattle.ac_syntax.specs.declared.tree.Value.TheVariants.{Number, Access, Call, Call'}
use Rattle.ac_parse_rules.specs.DeclaredNumbers.{ReadsOf, ReadsIn}
use Rattle.ac_parse_exprs.specs.Values.{placed}
use Rattle.ac_parse_roundtrip.specs.ProgramWords.{Fits64, IsWritableQuot, IsWritable, AreWritable, IsWritableRel, AreComparisons, IsSymbol, argument_count, HasValueWords, HaveValueWords}
use Rattle.ac_parse_roundtrip.specs.GrammarPrograms.{IsName, NamesArray, HasQuotientLiterals, HasLiterals, HaveLiterals, IsCallName, count, HasValueNames, HaveValueNames}

-- ---- forms

pub small_fits : (z : ℤ) → IsSmall z → Fits64 z
small_fits z h = omega (arith, h)

all_fit : (zs : List ℤ) → AllByRecursion IsSmall zs → AllByRecursion Fits64 zs
all_fit [] h = tt
all_fit (z ∷ zs) h = (small_fits z h.0, all_fit zs h.1)

quots_writable : (qs : List Quot) → AllByRecursion IsSmallQuot qs → AllByRecursion IsWritableQuot qs
quots_writable [] h = tt
quots_writable (q ∷ qs) h = (
  record {
    coef = small_fits q.coef h.0.coef;
    constant = small_fits q.konst h.0.constant;
    params = all_fit q.params h.0.params;
    iters = all_fit q.iters h.0.iters;
    div = small_fits q.div h.0.divisor;
  },
  quots_writable qs h.1,
)

writable : (e : IndexExpr) → IsSmallForm e → IsWritable e
writable e h = record { constant = small_fits e.konst h.constant; params = all_fit e.params h.params; iters = all_fit e.iters h.iters; quots = quots_writable e.quots h.quots }

quots_literals : (qs : List Quot) → AllByRecursion IsSmallQuot qs → AllByRecursion HasQuotientLiterals qs
quots_literals [] h = tt
quots_literals (q ∷ qs) h = (
  record { coef = h.0.coef; constant = h.0.constant; params = h.0.params; iters = h.0.iters; positive = h.0.positive; divisor = h.0.divisor },
  quots_literals qs h.1,
)

literals : (e : IndexExpr) → IsSmallForm e → HasLiterals e
literals e h = record { constant = h.constant; params = h.params; iters = h.iters; quots = quots_literals e.quots h.quots }

rel_writable : (r : Rel) → IsSmallRel r → IsWritableRel r
rel_writable NonNegative h = tt
rel_writable Zero h = tt
rel_writable (Divides m) h = small_fits m h.1

-- what can be written has literals that the grammar takes
pub form_named : (e : IndexExpr) → IsSmallForm e → IsWritable e × HasLiterals e
form_named e h = (writable e h, literals e h)

pub forms_named : (es : List IndexExpr) → AreSmallForms es → AreWritable es × AllByRecursion HasLiterals es
forms_named [] h = (tt, tt)
forms_named (e ∷ es) h = let r = forms_named es h.1 in ((writable e h.0, r.0), (literals e h.0, r.1))

pub parts_named : (cs : List Comparison) → AreSmallParts cs → AreComparisons cs × HaveLiterals cs
parts_named [] h = (tt, tt)
parts_named (c ∷ cs) h =
    let r = parts_named cs h.1 in (
      (record { form = writable c.form h.0.form; rel = rel_writable c.rel h.0.rel }, r.0),
      (record { form = literals c.form h.0.form; rel = h.0.rel }, r.1),
    )

-- ---- arrays

abbrev pub AreNamedArrays : List Array → Type 0
AreNamedArrays = AllByRecursion (λ array. IsName array.name)

pub array_named : (arrays : List Array) (k : ℕ) → AreNamedArrays arrays → k < length arrays → NamesArray arrays k
array_named [] k all there = absurd (omega (arith, there))
array_named (a ∷ arrays) zero all there = all.0
array_named (a ∷ arrays) (suc k) all there = array_named arrays k all.1 (omega (arith, there))

-- ---- values

-- a symbol of the text and of the grammar, for this many arguments
pub record IsCalled (name : List ℕ) (n : ℕ) : Type 0 where
  pub spelled : IsSymbol name n
  pub taken : IsCallName name n

counted : (m : _) (args : Row_of-Value m) → length (items-the_row-Value m args) ≡ argument_count args
unfolding argument_count
counted m end_of-Value = refl
counted m (more_of-Value {n = n} v rest) = let e = counted n rest in omega (arith, e)

counted_too : (m : _) (args : Row_of-Value m) → length (items-the_row-Value m args) ≡ count args
counted_too m end_of-Value = refl
counted_too m (more_of-Value {n = n} v rest) = let e = counted_too n rest in omega (arith, e)

module _ (arrays : List Array) (named : AreNamedArrays arrays) where
  -- where its numbers are small and its arrays are there, a value has words and names
  pub record IsNamedValue (v : Value) : Type 0 where
    pub has : IsSmallValue v → ReadsOf (length arrays) v → HasValueWords arrays v × HasValueNames arrays v

  -- a call of so many arguments, which are named
  record IsNamedCall (s : Symbol) (args : List Value) : Type 0 where
    called : IsCalled s.name (length args)
    each : AllByRecursion IsNamedValue args

  pub number_named : (e : IndexExpr) → IsNamedValue (Number e)
  unfolding HasValueWords HasValueNames IsSmallValue
  number_named e = record { has = λ small reads. form_named e small }

  pub access_named : (array : ℕ) (subs : List IndexExpr) (place : Place) → IsNamedValue (Access array subs place)
  unfolding HasValueWords HasValueNames IsSmallValue ReadsOf
  access_named array subs place = record { has = λ small reads. let r = forms_named subs small in ((reads, r.0), (array_named arrays array named reads, r.1)) }

  row_named : (m : _) (args : Row_of-Value m) → AllByRecursion IsNamedValue (items-the_row-Value m args) → AreSmallValues args → ReadsIn (length arrays) args
      → HaveValueWords arrays args × HaveValueNames arrays args
  unfolding HasValueWords HasValueNames IsSmallValue ReadsOf
  row_named m end_of-Value h small reads = (tt, tt)
  row_named m (more_of-Value {n = n} v rest) h small reads =
      let x = h.0.has small.0 reads.0 in
      let r = row_named n rest h.1 small.1 reads.1 in
      ((x.0, r.0), (x.1, r.1))

  call_row : (s : Symbol) (n : _) (args : Row_of-Value _) (place : Place) → IsNamedCall s (items-the_row-Value _ args) → IsNamedValue (Call' s n args place)
  unfolding HasValueWords HasValueNames IsSmallValue ReadsOf
  call_row s n args place h = record {
    has = λ small reads.
        let r = row_named _ args h.each small reads in
        ((subst (IsSymbol s.name) (counted _ args) h.called.spelled, r.0), (subst (IsCallName s.name) (counted_too _ args) h.called.taken, r.1));
  }

  by_row : (s : Symbol) (args : List Value) (place : Place) → IsNamedCall s args → IsNamedValue (Call s args place)
  by_row s args place h = search (rules, the_lemmas, call_row, h)

  pub call_named : (s : Symbol) (args : List Value) (place : Place) → IsCalled s.name (length args) → AllByRecursion IsNamedValue args → IsNamedValue (Call s args place)
  call_named s args place h k = by_row s args place (record { called = h; each = k })

  pub placed_named : (place : Place) (v : Value) → IsNamedValue v → IsNamedValue (placed place v)
  unfolding HasValueWords HasValueNames IsSmallValue ReadsOf
  placed_named place (Number e) h = number_named (record { konst = e.konst; params = e.params; iters = e.iters; quots = e.quots; place = place })
  placed_named place (Access array subs p) h = access_named array subs place
  placed_named place (Call' symbol n args p) h = record { has = λ small reads. h.has small reads }
