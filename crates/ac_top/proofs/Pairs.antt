-- What is known of a pair of two programs that were read.
use Rattle.std.proofs.Common.{◌≡◌, ℕ, suc, List, [], ◌∷◌, ◌++◌, length, map, refl, sym, ap, ◌∙◌, subst}
use Rattle.std.proofs.lemmas.List.FromFn.{length-range_with_len}
use Rattle.ac_syntax.specs.ReadyPrograms.{ReadyProgram, FitParts}
use Rattle.ac_syntax.specs.Small.{AreSmallParts, IsSmallPair}
use Rattle.ac_syntax.specs.declared.tree.Comparison.{Comparison}
use Rattle.ac_syntax.specs.declared.tree.Slot.{Slot}
use Rattle.ac_syntax.specs.declared.tree.Slot.TheVariants as slot
use Rattle.ac_syntax.specs.declared.tree.Program.{Program}
use Rattle.ac_syntax.specs.declared.tree.Pair.{Pair}
use Rattle.ac_parse_rules.specs.DeclaredNumbers.{param_numbers, ListsItsParameters}
use Rattle.ac_parse.specs.Program.{IsProgramOf}
use Rattle.ac_parse.specs.ProgramPairs.{Parameter, integer_named, array_shaped, parameter_at, signature, IsPairOf}
use Rattle.ac_top.specs.InstanceReports.{IsReadyPair}
use Rattle.ac_top.specs.RunStages.{IsRead, IsReadPair}
use Rattle.ac_top.proofs.Extents.{same_extents}

joined_context : (left right : Program) (pair : Pair) → IsPairOf left right pair → pair.context.parts ≡ pair.left.context.parts ++ pair.right.context.parts
joined_context left right pair is = is.context ∙ ap (λ (p : Program). p.context.parts ++ right.context.parts) (sym is.left_is) ∙ ap (λ (p : Program). pair.left.context.parts ++ p.context.parts) (sym is.right_is)

-- the integers of a signature
abbrev integers : List Parameter → ℕ
integers [] = 0
integers (integer_named name ∷ rest) = suc (integers rest)
integers (array_shaped shape ∷ rest) = integers rest

integers_of : (p : Program) (slots : List Slot) → length (param_numbers slots) ≡ integers (map (parameter_at p) slots)
integers_of p [] = refl
integers_of p (slot.Param k ∷ slots) = ap suc (integers_of p slots)
integers_of p (slot.Array k ∷ slots) = integers_of p slots

as_many_parameters : (p : Program) → ListsItsParameters p → length p.params ≡ integers (signature p)
as_many_parameters p h = sym (length-range_with_len 0 (length p.params)) ∙ ap length (sym h) ∙ integers_of p p.slots

both_fit : (ps xs : ℕ) (cs ds : List Comparison) → FitParts ps xs cs → FitParts ps xs ds → FitParts ps xs (cs ++ ds)
both_fit ps xs [] ds h k = k
both_fit ps xs (c ∷ cs) ds h k = (h.0, both_fit ps xs cs ds h.1 k)

ready_pair : (left right : Program) (pair : Pair) → IsPairOf left right pair → IsRead left → IsRead right → IsReadyPair pair
ready_pair left right pair is l r =
    let same : length left.params ≡ length right.params = as_many_parameters left l.parameters ∙ ap integers is.signatures ∙ sym (as_many_parameters right r.parameters) in
    let params : length pair.left.params ≡ length pair.right.params = ap (λ (p : Program). length p.params) is.left_is ∙ same ∙ ap (λ (p : Program). length p.params) (sym is.right_is) in
    let first : ReadyProgram pair.left = rw is.left_is l.ready in
    let second : ReadyProgram pair.right = rw is.right_is r.ready in
    let behind = subst (λ n. FitParts n 0 pair.right.context.parts) (sym params) second.context in
    record {
      left = first;
      right = second;
      params = params;
      context = subst (FitParts (length pair.left.params) 0) (sym (joined_context left right pair is)) (both_fit (length pair.left.params) 0 pair.left.context.parts pair.right.context.parts first.context behind);
    }

both_small : (xs ys : List Comparison) → AreSmallParts xs → AreSmallParts ys → AreSmallParts (xs ++ ys)
both_small [] ys h k = k
both_small (x ∷ xs) ys h k = (h.0, both_small xs ys h.1 k)

small_pair : (left right : Program) (pair : Pair) → IsPairOf left right pair → IsRead left → IsRead right → IsSmallPair pair
small_pair left right pair is l r = record {
  left = rw is.left_is l.small;
  right = rw is.right_is r.small;
  context = rw is.context (both_small left.context.parts right.context.parts l.small.context r.small.context);
}

pub read_pair : (first second : List ℕ) (left right : Program) (pair : Pair) → IsProgramOf first left → IsProgramOf second right → IsPairOf left right pair → IsRead left → IsRead right → IsReadPair pair
read_pair first second left right pair h k is l r = record {
  context = joined_context left right pair is;
  ready = ready_pair left right pair is l r;
  extents = same_extents first second left right pair h k is l.ready r.ready;
  small = small_pair left right pair is l r;
}
