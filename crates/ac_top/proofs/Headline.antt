-- What is true where a run is done, and where it tells of a difference.
use Rattle.std.proofs.Common.{◌≡◌, ℕ, List, [], ◌∷◌, Option, refl, subst}
use Rattle.ac_port.specs.Contents.{Contents}
use Rattle.ac_port.specs.Transcripts.{Read, handed_out}
use Rattle.ac_syntax.specs.declared.tree.Pair.{Pair}
use Rattle.ac_syntax.specs.declared.tree.Program.{Program}
use Rattle.ac_flow.specs.declared.types.Flow.{Flow}
use Rattle.ac_cli_args.specs.Commands.{Asked, prove, check_of, instance_of, flow_of, gen_of, legal_of, aprove_of}
use Rattle.ac_cli_args.proofs.Determined.{one_command}
use Rattle.ac_top.specs.ProgramAnswers.{Holds, SourceReports, refused, paired, FileReports, PairReports, first_unread, first_too_long, second_unread, second_too_long, sources, TextReports, text_refused, text_not_lowered, text_lowered, OneFileReports, file_unread, file_too_long, text_of_file, OrderOfTextReports, program_refused, program_not_lowered, program_lowered, LegalReports, program_unread, program_too_long, order_unread, order_too_long, both_read, HoldsAKeptOrder, HoldsABrokenOrder, CommandReports, ChainReports, texts_unpaired, chain_fault, pair_not_lowered, pair_lowered, Reports, no_form, of_command, CheckReports, proof_unread, tested, accepted, too_long, too_deep, not_valid, AreAccepted, HoldAPair, HoldsAProgram, IsTheSame, AreTheSame, DoneMeansTheSame, AreDifferent, DifferentMeansDifferent}
use Rattle.ac_top.specs.FlowReports.{FlowReports, no_valuation, context_stopped, flow_stopped, flowed, IsFlowOf}
use Rattle.ac_top.specs.OrderReports.{OrderReports, OrderTextReports, order_refused, order_read}
use Rattle.ac_top.specs.OrderReports as order
use Rattle.ac_top.specs.ProveReports.{ProveReports, HasDifference}
use Rattle.ac_top.specs.Reads.{source_read}
use Rattle.ac_top.specs.Reports.{Report, report as a_report}
use Rattle.ac_top.specs.InstanceReports.{InstanceReports, IsTheSameAt}
use Rattle.ac_top.specs.ConsoleLines.{order_too_long_line, read_fault_line, refusal_line, too_long_line}
use Rattle.ac_top.specs.declared.status.Status.TheVariants as status
use Rattle.ac_top.proofs.Orders.{kept_orders_reorder}
use Rattle.ac_top.specs.ArrangementReports.{AreSameUnderChains}
use Rattle.ac_top.proofs.Generating.{done_generated, different_generated}
use Rattle.ac_top.proofs.ArrangedAnswers.{done_arranged}
use Rattle.ac_top.proofs.Instances.{done_instance}
use Rattle.ac_top.proofs.Proving.{done_prove, different_prove}

done_check : (files : Option Contents) (reads : List Read → Type 0) (p : List ℕ) (pair : Pair) (r : Report) → CheckReports files reads p pair r → r.status ≡ status.Done → (parts : List Read) × reads parts × AreAccepted files p parts pair
done_check files reads p pair r (proof_unread parts bytes room out h) done = absurd cc
done_check files reads p pair r (tested parts stream _ are is (too_long left right models h)) done = absurd cc
done_check files reads p pair r (tested parts stream _ are is (too_deep left right models h)) done = absurd cc
done_check files reads p pair r (tested parts stream _ are is (not_valid left right number rule models h)) done = absurd cc
done_check files reads p pair r (tested parts stream _ are is (accepted left right outputs models h same)) done =
    (parts, are, record { stream = stream; is_stream = is; left = left; right = right; are_models = models; outputs = outputs; is_checked = h; same = same })

-- what is true of each pair of which such a report is made is true of the pair whose texts the reads of two files handed out
module _ (files : Option Contents) (reads : List Read → Type 0) (a b : List ℕ) (Is : List Read → Pair → Type 0) (When : Report → Type 0) (not_refused : (text : List ℕ) → When (a_report status.Refused text) → ⊥)
    (not_unread : (text : List ℕ) → When (a_report status.ReadFault text) → ⊥) where
  abbrev Behind : (first second : List ℕ) → List Read → Type 0
  Behind first second more = reads (source_read a (handed_out first) ∷ source_read b (handed_out second) ∷ more)

  of_sources : (first second : List ℕ) (OfPair : Pair → Report → Type 0) → ((pair : Pair) (r : Report) → OfPair pair r → When r → (more : List Read) × Behind first second more × Is more pair)
      → Holds files a first → Holds files b second → (r : Report) → SourceReports a b first second (Behind first second) OfPair r → When r → HoldAPair files reads a b Is
  of_sources first second OfPair good h k r (refused text none why) d = absurd (not_refused text d)
  of_sources first second OfPair good h k r (paired pair u are lowered p) d =
      let found = good pair u p d in
      record { first = first; second = second; more = found.0; are_read = found.1; holds_first = h; holds_second = k; pair = pair; are = are; is = found.2 }

  pub of_files : (OfPair : List ℕ → List ℕ → (List Read → Type 0) → Pair → Report → Type 0)
      → ((first second : List ℕ) (pair : Pair) (r : Report) → OfPair first second (Behind first second) pair r → When r → (more : List Read) × Behind first second more × Is more pair)
      → (r : Report) → PairReports files reads a b OfPair r → When r → HoldAPair files reads a b Is
  of_files OfPair good r (first_unread h) d = absurd (not_unread (read_fault_line a) d)
  of_files OfPair good r (first_too_long h big) d = absurd (not_refused (too_long_line a) d)
  of_files OfPair good r (second_unread x h k) d = absurd (not_unread (read_fault_line b) d)
  of_files OfPair good r (second_too_long x h k big) d = absurd (not_refused (too_long_line b) d)
  of_files OfPair good r (sources first second s h k m) d = of_sources first second (OfPair first second (Behind first second)) (good first second) h k s m d

abbrev IsDone : Report → Type 0
IsDone r = r.status ≡ status.Done

done_flow : (program : Program) (r : Report) → FlowReports program r → r.status ≡ status.Done → (flow : Flow) × IsFlowOf program flow
done_flow program r (no_valuation s h) d = absurd cc
done_flow program r (context_stopped stop text h k m) d = absurd cc
done_flow program r (flow_stopped stop text v h k) d = absurd cc
done_flow program r (flowed flow v is) d = (flow, is)

abbrev HasAFlow : List Read → Program → Type 0
HasAFlow more program = (flow : Flow) × IsFlowOf program flow

done_text : (files : Option Contents) (reads : List Read → Type 0) (a bytes : List ℕ) (r : Report) → reads (source_read a (handed_out bytes) ∷ []) → Holds files a bytes → TextReports a bytes r → r.status ≡ status.Done → HoldsAProgram files reads a HasAFlow
done_text files reads a bytes r is_read holds (text_refused said h) d = absurd cc
done_text files reads a bytes r is_read holds (text_not_lowered program said h k) d = absurd cc
done_text files reads a bytes r is_read holds (text_lowered program _ is low h) d = record { bytes = bytes; more = []; is_read = is_read; holds = holds; program = program; is_program = is; is = done_flow program r h d }

done_file : (files : Option Contents) (reads : List Read → Type 0) (a : List ℕ) (r : Report) → OneFileReports files reads a r → r.status ≡ status.Done → HoldsAProgram files reads a HasAFlow
done_file files reads a r (file_unread h) d = absurd cc
done_file files reads a r (file_too_long h big) d = absurd cc
done_file files reads a r (text_of_file bytes _ is_read holds h) d = done_text files reads a bytes r is_read holds h d

-- an order that is kept, and one that is broken
done_order : (files : Option Contents) (s : List ℕ) (program : Program) (spelled : List ℕ) (r : Report) → Holds files s spelled → OrderTextReports program spelled r → r.status ≡ status.Done → HoldsAKeptOrder files s (source_read s (handed_out spelled) ∷ []) program
done_order files s program spelled r holds (order_refused n h) d = absurd cc
done_order files s program spelled r holds (order_read times _ k (order.no_valuation c n)) d = absurd cc
done_order files s program spelled r holds (order_read times _ k (order.context_stopped stop text un n is)) d = absurd cc
done_order files s program spelled r holds (order_read times _ k (order.order_stopped stop text v n decided is)) d = absurd cc
done_order files s program spelled r holds (order_read times _ k (order.broken at i xs j ys v b)) d = absurd cc
done_order files s program spelled r holds (order_read times _ k (order.kept v keeps)) d =
    record { spelled = spelled; is_read = refl; holds = holds; times = times; spells = k; keeps = keeps; reorders = kept_orders_reorder times program keeps }

different_order : (files : Option Contents) (s : List ℕ) (program : Program) (spelled : List ℕ) (r : Report) → Holds files s spelled → OrderTextReports program spelled r → r.status ≡ status.Different → HoldsABrokenOrder files s (source_read s (handed_out spelled) ∷ []) program
different_order files s program spelled r holds (order_refused n h) d = absurd cc
different_order files s program spelled r holds (order_read times _ k (order.no_valuation c n)) d = absurd cc
different_order files s program spelled r holds (order_read times _ k (order.context_stopped stop text un n is)) d = absurd cc
different_order files s program spelled r holds (order_read times _ k (order.order_stopped stop text v n decided is)) d = absurd cc
different_order files s program spelled r holds (order_read times _ k (order.kept v keeps)) d = absurd cc
different_order files s program spelled r holds (order_read times _ k (order.broken at i xs j ys v b)) d =
    record { spelled = spelled; is_read = refl; holds = holds; times = times; spells = k; at = at; first = i; counters = xs; second = j; others = ys; breaks = b }

-- of two files: what is true of each program and schedule of which such a report is made
module _ (files : Option Contents) (reads : List Read → Type 0) (a s : List ℕ) (Is : List Read → Program → Type 0) (When : Report → Type 0) (not_refused : (text : List ℕ) → When (a_report status.Refused text) → ⊥)
    (not_unread : (text : List ℕ) → When (a_report status.ReadFault text) → ⊥)
    (good : (program : Program) (spelled : List ℕ) (r : Report) → Holds files s spelled → OrderTextReports program spelled r → When r → Is (source_read s (handed_out spelled) ∷ []) program) where
  of_order_texts : (bytes spelled : List ℕ) (r : Report) → reads (source_read a (handed_out bytes) ∷ source_read s (handed_out spelled) ∷ []) → Holds files a bytes → Holds files s spelled → OrderOfTextReports a bytes spelled r → When r
      → HoldsAProgram files reads a Is
  of_order_texts bytes spelled r are_read h k (program_refused said c) d = absurd (not_refused (refusal_line a bytes said) d)
  of_order_texts bytes spelled r are_read h k (program_not_lowered program said is n) d = absurd (not_refused (refusal_line a bytes said) d)
  of_order_texts bytes spelled r are_read h k (program_lowered program _ is low m) d =
      record { bytes = bytes; more = source_read s (handed_out spelled) ∷ []; is_read = are_read; holds = h; program = program; is_program = is; is = good program spelled r k m d }

  of_legal : (r : Report) → LegalReports files reads a s r → When r → HoldsAProgram files reads a Is
  of_legal r (program_unread h) d = absurd (not_unread (read_fault_line a) d)
  of_legal r (program_too_long h big) d = absurd (not_refused (too_long_line a) d)
  of_legal r (order_unread bytes h k) d = absurd (not_unread (read_fault_line s) d)
  of_legal r (order_too_long bytes h k big) d = absurd (not_refused order_too_long_line d)
  of_legal r (both_read bytes spelled _ are_read h k m) d = of_order_texts bytes spelled r are_read h k m d

done_chains : (files : Option Contents) (reads : List Read → Type 0) (a b x y : List ℕ) (names : List (List ℕ)) (r : Report) → reads (source_read a (handed_out x) ∷ source_read b (handed_out y) ∷ []) → Holds files a x → Holds files b y → ChainReports a b x y names r
    → r.status ≡ status.Done → HoldAPair files reads a b (λ more. AreSameUnderChains names)
done_chains files reads a b x y names r are_read h k (texts_unpaired text why) d = absurd cc
done_chains files reads a b x y names r are_read h k (chain_fault pair fault text are is said) d = absurd cc
done_chains files reads a b x y names r are_read h k (pair_not_lowered pair text are none why) d = absurd cc
done_chains files reads a b x y names r are_read h k (pair_lowered pair _ are none low p) d =
    record { first = x; second = y; more = []; are_read = are_read; holds_first = h; holds_second = k; pair = pair; are = are; is = done_arranged names pair r p d }

done_aprove : (files : Option Contents) (reads : List Read → Type 0) (a b : List ℕ) (names : List (List ℕ)) (r : Report) → FileReports files reads a b (λ first second more s. more [] × ChainReports a b first second names s) r → r.status ≡ status.Done
    → HoldAPair files reads a b (λ more. AreSameUnderChains names)
done_aprove files reads a b names r (first_unread h) d = absurd cc
done_aprove files reads a b names r (first_too_long h big) d = absurd cc
done_aprove files reads a b names r (second_unread x h k) d = absurd cc
done_aprove files reads a b names r (second_too_long x h k big) d = absurd cc
done_aprove files reads a b names r (sources x y _ h k m) d = done_chains files reads a b x y names r m.0 h k m.1 d

done_command : (files : Option Contents) (reads : List Read → Type 0) (asked : Asked) (r : Report) → CommandReports files reads asked r → r.status ≡ status.Done → AreTheSame files reads asked
done_command files reads (prove a b budget proof) r h d =
    of_files files reads a b (λ more. IsTheSame) IsDone (λ text e. absurd cc) (λ text e. absurd cc) (λ first second more pair s. more [] × ProveReports pair budget proof s) (λ first second pair u p e. ([], p.0, done_prove pair budget proof u p.1 e)) r h d
done_command files reads (check_of a b p) r h d =
    of_files files reads a b (AreAccepted files p) IsDone (λ text e. absurd cc) (λ text e. absurd cc) (λ first second more pair s. CheckReports files more p pair s)
    (λ first second pair u q e. done_check files (λ more. reads (source_read a (handed_out first) ∷ source_read b (handed_out second) ∷ more)) p pair u q e) r h d
done_command files reads (instance_of a b at limit) r h d =
    of_files files reads a b (λ more pair. IsTheSameAt pair at) IsDone (λ text e. absurd cc) (λ text e. absurd cc) (λ first second more pair s. more [] × InstanceReports a b first second pair at limit s)
    (λ first second pair u p e. ([], p.0, done_instance a b first second pair at limit u p.1 e)) r h d
done_command files reads (flow_of a) r h d = done_file files reads a r h d
done_command files reads (gen_of seed stages) r h d = done_generated seed stages r h.1 d
done_command files reads (legal_of a s) r h d =
    of_legal files reads a s (HoldsAKeptOrder files s) IsDone (λ text e. absurd cc) (λ text e. absurd cc) (λ program spelled u k m e. done_order files s program spelled u k m e) r h d
done_command files reads (aprove_of a b names) r h d = done_aprove files reads a b names r h d

pub done : (words : List (List ℕ)) (files : Option Contents) (reads : List Read → Type 0) (r : Report) → Reports words files reads r → DoneMeansTheSame words files reads r.status
done words files reads r (no_form none h) = λ d. absurd cc
done words files reads r (of_command asked _ is h) = λ d. (asked, is, done_command files reads asked r h d)

-- a report of a difference is one of the pair
abbrev IsDifferent : Report → Type 0
IsDifferent r = r.status ≡ status.Different

different_command : (files : Option Contents) (reads : List Read → Type 0) (asked : Asked) (r : Report) → CommandReports files reads asked r → r.status ≡ status.Different → AreDifferent files reads asked
different_command files reads (prove a b budget proof) r h d =
    of_files files reads a b (λ more. HasDifference) IsDifferent (λ text k. absurd cc) (λ text k. absurd cc) (λ first second more pair s. more [] × ProveReports pair budget proof s) (λ first second pair u p k. ([], p.0, different_prove pair budget proof u p.1 k)) r h d
different_command files reads (check_of a b p) r h d = tt
different_command files reads (instance_of a b at limit) r h d = tt
different_command files reads (flow_of a) r h d = tt
different_command files reads (gen_of seed stages) r h d = different_generated seed stages r h.1 d
different_command files reads (legal_of a s) r h d =
    of_legal files reads a s (HoldsABrokenOrder files s) IsDifferent (λ text e. absurd cc) (λ text e. absurd cc) (λ program spelled u k m e. different_order files s program spelled u k m e) r h d
different_command files reads (aprove_of a b names) r h d = tt

pub different : (words : List (List ℕ)) (files : Option Contents) (reads : List Read → Type 0) (r : Report) → Reports words files reads r → DifferentMeansDifferent words files reads r.status
different words files reads r (no_form none h) = λ d asked k. absurd cc
different words files reads r (of_command asked _ is h) = λ d other k. subst (AreDifferent files reads) (one_command words asked other is k) (different_command files reads asked r h d)
