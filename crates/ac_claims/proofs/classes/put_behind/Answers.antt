use Rattle.std.proofs.Common.{◌≡◌, ℕ, ℤ, List, ◌∷◌, ◌++◌, ap, ◌∙◌}
use Rattle.std.specs.Prelude.{Result, Ok, Err, OnOk, ◌+ℤ◌, pos}
use Rattle.std.specs.declared.alloc.AllocError.{AllocError}
use Rattle.ac_cert.specs.Rules.{class}
use Rattle.ac_claims_paths.specs.PathSteps.{at_rows}
use Rattle.ac_claims_paths.specs.declared.path.Path.{Path}
use Rattle.ac_claims.specs.StackEntries.{AreClasses, classes_of}
use Rattle.ac_claims.specs.Machine.{Due, PlanAt}
use Rattle.ac_claims.specs.declared.entry.Classes.{Classes}
use Rattle.ac_claims.proofs.Residues.{behind_classes, first_taken}
use Rattle.ac_claims.proofs.classes.put_behind.Goals as goal

pub push_at-requires-clause-due : goal.push_at-requires-clause-due
push_at-requires-clause-due c = behind_classes c.args.path.now.conj.columns c.args.classes c.from_next.result c.args.next.now c.requires.classes c.requires.more c.requires.next c.from_next.ensures

put_result : (h : Path) (columns : ℕ) (c d : Classes) (next : ℤ) (old new : List Due) (r : Result (Unit {0}) AllocError) → AreClasses columns c → next ≡ c.next +ℤ pos 1 → d ≡ record c { next = next } → OnOk r (new ≡ classes_of h d ++ old)
    → OnOk r (PlanAt (at_rows h (class c.modulus c.form c.next h.conj)) ∷ new ≡ classes_of h c ++ old)
put_result h columns c d next old new (Ok u) a n e p = ap (λ z. PlanAt (at_rows h (class c.modulus c.form c.next h.conj)) ∷ z) p ∙ first_taken h columns c d next old a n e
put_result h columns c d next old new (Err x) a n e p = tt

pub returns-clause-value : goal.returns-clause-value
returns-clause-value c = put_result c.args.path.now c.args.path.now.conj.columns c.args.classes c.from_next.result c.args.next.now _ _ c.push_at.result c.requires.classes c.requires.next c.from_next.ensures c.push_at.ensures.dues
