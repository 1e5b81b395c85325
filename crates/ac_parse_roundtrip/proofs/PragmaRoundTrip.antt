-- The rules read pragma lines back from the trees of a canonical text.
use Rattle.std.proofs.Common.{◌≡◌, ℕ, List, [], ◌∷◌, ◌++◌, map, refl, sym, ap, subst, ◌∙◌, true, nat_lt, arith, Option, Some, None}
use Rattle.std.specs.Prelude.{slice_get, if◌then◌else◌}
use Rattle.std.specs.List.{AllByRecursion}
use Rattle.std.proofs.lemmas.Bool.Decides.{nat_tests}
use Rattle.std.proofs.lemmas.List.{append-nil}
use Rattle.ac_syntax.specs.declared.tree.Comparison.{Comparison}
use Rattle.ac_syntax.specs.Text as text
use Rattle.ac_syntax.specs.Text.{array_name}
use Rattle.ac_parse_grammar.specs.declared.tree.Word.{Word}
use Rattle.ac_parse_grammar.specs.declared.tree.Pragma.{Pragma}
use Rattle.ac_parse_exprs.specs.declared.fault.Broken.{Broken}
use Rattle.ac_parse_exprs.specs.declared.scope.Meaning.TheVariants as means
use Rattle.ac_parse_exprs.specs.declared.scope.Entry.{Entry}
use Rattle.ac_parse_exprs.specs.declared.scope.Scope.{Scope}
use Rattle.ac_parse_exprs.specs.Meanings.{declared_meaning}
use Rattle.ac_parse_exprs.specs.Comparisons.{condition}
use Rattle.ac_parse_exprs.specs.Values.{array_number}
use Rattle.ac_parse_rules.specs.Files.{context_parts, commutative_words, output_words, has_output_line, output_broken, pragma_broken, output_numbers}
use Rattle.ac_parse_exprs.proofs.Absent.{NoneBroken}
use Rattle.ac_parse_roundtrip.specs.CanonicalTrees.{Each, IsWordOf, AreContext, AreCommutative, AreOutput}
use Rattle.ac_parse_roundtrip.specs.PlaceErasure.{parts_without_places}
use Rattle.ac_parse_roundtrip.specs.CanonicalPrograms.{FitsOutput, OutputsFit}
use Rattle.ac_parse_roundtrip.proofs.ConditionRoundTrip.{none_broken, condition_none, condition_same}
use Rattle.ac_parse_roundtrip.specs.ColumnNames.{PartsFitScope}

module _ (names : List Entry) (scope : Scope) (inputs : ℕ) (written : text.Scope) where
  abbrev broken : Pragma → Option Broken
  broken = pragma_broken names scope inputs

  -- output lines
  pub record OutputRead (outputs : Option (List ℕ)) (ps : List Pragma) : Type 0 where
    pub none : NoneBroken (map broken ps)
    pub parts : context_parts ps ≡ []
    pub words : commutative_words ps ≡ []
    pub numbers : (if has_output_line ps then Some (output_numbers names (output_words ps)) else None) ≡ outputs

  output_word : (k : ℕ) (word : Word) → FitsOutput names written.arrays inputs k → IsWordOf (array_name (slice_get written.arrays k)) word
      → (output_broken names inputs word ≡ None) × (array_number (declared_meaning names word.name) ≡ k)
  output_word k word fit w =
      let m : declared_meaning names word.name ≡ means.Array k fit.dimensions = ap (declared_meaning names) w ∙ fit.means in
      let i : nat_lt k inputs ≡ true = let h = fit.input in grind (arith, nat_tests) in
      let s : nat_lt 0 fit.dimensions ≡ true = let h = fit.some in grind (arith, nat_tests) in
      (rw (m, i, s) refl, ap array_number m)

  output_all : (ks : List ℕ) (words : List Word) → AllByRecursion (FitsOutput names written.arrays inputs) ks → Each (λ k word. IsWordOf (array_name (slice_get written.arrays k)) word) ks words
      → NoneBroken (map (output_broken names inputs) words) × (output_numbers names words ≡ ks)
  output_all [] [] f t = (tt, refl)
  output_all [] (word ∷ words) f t = absurd t
  output_all (k ∷ ks) [] f t = absurd t
  output_all (k ∷ ks) (word ∷ words) f t =
      let a = output_word k word f.0 t.0 in
      let b = output_all ks words f.1 t.1 in
      ((a.0, b.0), rw (a.1, b.1) refl)

  pub output_read : (outputs : Option (List ℕ)) (ps : List Pragma) → OutputsFit names written.arrays inputs outputs → AreOutput written outputs ps → OutputRead outputs ps
  output_read None ps f t = subst (OutputRead None) (sym t) (record { none = tt; parts = refl; words = refl; numbers = refl })
  output_read (Some ks) ps f t =
      let a = output_all ks t.0 f t.1 in
      let n : output_numbers names (t.0 ++ []) ≡ ks = ap (output_numbers names) (append-nil t.0) ∙ a.1 in
      subst (OutputRead (Some ks)) (sym t.2)
      (record { none = (none_broken (map (output_broken names inputs) t.0) a.0, tt); parts = refl; words = refl; numbers = ap (λ ns. Some ns) n })

  -- and before them lines of commutative names
  pub record CommutativeRead (commutative : List (List ℕ)) (outputs : Option (List ℕ)) (ps : List Pragma) : Type 0 where
    pub none : NoneBroken (map broken ps)
    pub parts : context_parts ps ≡ []
    pub words : map (λ (word : Word). word.name) (commutative_words ps) ≡ commutative
    pub numbers : (if has_output_line ps then Some (output_numbers names (output_words ps)) else None) ≡ outputs

  words_are : (ns : List (List ℕ)) (words : List Word) → Each IsWordOf ns words → map (λ (word : Word). word.name) words ≡ ns
  words_are [] [] t = refl
  words_are [] (word ∷ words) t = absurd t
  words_are (n ∷ ns) [] t = absurd t
  words_are (n ∷ ns) (word ∷ words) t = rw (t.0, words_are ns words t.1) refl

  pub commutative_read : (commutative : List (List ℕ)) (outputs : Option (List ℕ)) (ps qs : List Pragma) → AreCommutative commutative ps
      → OutputRead outputs qs → CommutativeRead commutative outputs (ps ++ qs)
  commutative_read [] outputs ps qs t r =
      subst (λ us. CommutativeRead [] outputs (us ++ qs)) (sym t) (record { none = r.none; parts = r.parts; words = ap (map (λ (word : Word). word.name)) r.words; numbers = r.numbers })
  commutative_read (n ∷ ns) outputs ps qs t r =
      subst (λ us. CommutativeRead (n ∷ ns) outputs (us ++ qs)) (sym t.2)
      (record {
        none = (refl, r.none);
        parts = r.parts;
        words = ap (λ ws. map (λ (word : Word). word.name) (t.0 ++ ws)) r.words ∙ ap (map (λ (word : Word). word.name)) (append-nil t.0) ∙ words_are (n ∷ ns) t.0 t.1;
        numbers = r.numbers;
      })

  -- and before them context lines
  pub record PragmasRead (cs : List Comparison) (commutative : List (List ℕ)) (outputs : Option (List ℕ)) (ps : List Pragma) : Type 0 where
    pub none : NoneBroken (map broken ps)
    pub parts : parts_without_places (condition names scope (context_parts ps)) ≡ parts_without_places cs
    pub words : map (λ (word : Word). word.name) (commutative_words ps) ≡ commutative
    pub numbers : (if has_output_line ps then Some (output_numbers names (output_words ps)) else None) ≡ outputs

  pub context_read : (cs : List Comparison) (commutative : List (List ℕ)) (outputs : Option (List ℕ)) (ps qs : List Pragma) → PartsFitScope names scope written cs → AreContext written cs ps
      → CommutativeRead commutative outputs qs → PragmasRead cs commutative outputs (ps ++ qs)
  context_read [] commutative outputs ps qs f t r =
      subst (λ us. PragmasRead [] commutative outputs (us ++ qs)) (sym t)
      (record { none = r.none; parts = ap (λ parts. parts_without_places (condition names scope parts)) r.parts; words = r.words; numbers = r.numbers })
  context_read (c ∷ cs) commutative outputs ps qs f t r =
      subst (λ us. PragmasRead (c ∷ cs) commutative outputs (us ++ qs)) (sym t.2)
      (record {
        none = (condition_none names scope written (c ∷ cs) t.0 f t.1, r.none);
        parts = ap (λ parts. parts_without_places (condition names scope (t.0 ++ parts))) r.parts ∙ ap (λ parts. parts_without_places (condition names scope parts)) (append-nil t.0) ∙ condition_same names scope written (c ∷ cs) t.0 f t.1;
        words = r.words;
        numbers = r.numbers;
      })
