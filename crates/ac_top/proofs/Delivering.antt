-- What becomes of a report: the file for a proof, and the text.
use Rattle.std.proofs.Common.{◌≡◌, ℕ, List, [], ◌∷◌, Option, None, Some, refl, sym, ap, subst, ◌∙◌}
use Rattle.std.specs.Prelude.{option_map}
use Rattle.std.specs.List.{AllByRecursion}
use Rattle.ac_port.specs.Contents.{Contents}
use Rattle.ac_port.specs.Transcripts.{Read, handed_out}
use Rattle.ac_syntax.specs.Outputs.{SameOutput}
use Rattle.ac_syntax.specs.declared.tree.Pair.{Pair}
use Rattle.ac_syntax.specs.declared.tree.Program.{Program}
use Rattle.ac_claims.specs.declared.types.Proof.{Proof}
use Rattle.ac_report.specs.declared.types.Verdict.{Verdict}
use Rattle.ac_report.specs.declared.types.Verdict.TheVariants.{Equal, Different, Unknown}
use Rattle.ac_walk.specs.Verdicts.{AreVerdicts, equal_outputs}
use Rattle.ac_cli_args.specs.Commands.{prove, check_of, instance_of, flow_of, gen_of, legal_of, aprove_of, IsCommand}
use Rattle.ac_top.specs.ProgramAnswers.{FileReports, PairReports, ChainReports, texts_unpaired, chain_fault, pair_not_lowered, pair_lowered, first_unread, first_too_long, second_unread, second_too_long, sources, TextReports, text_refused, text_not_lowered, text_lowered, OneFileReports, file_unread, file_too_long, text_of_file, OrderOfTextReports, program_refused, program_not_lowered, program_lowered, LegalReports, program_unread, program_too_long, order_unread, order_too_long, both_read, Reports, no_form, of_command, CheckReports, proof_unread, tested, accepted, too_long, too_deep, not_valid, HoldAPair, Puts, whole, part, nothing, Delivers, only_put, proof_first, proof_fails, proof_wants, Ends, reported, DoneMeansTheSame, DifferentMeansDifferent, AsksFor, AskForAProof, KeepsFiles, kept, proof_written, proof_spoilt}
use Rattle.ac_top.specs.FlowReports.{FlowReports, no_valuation, context_stopped, flow_stopped, flowed}
use Rattle.ac_forms.specs.Affine.{Affine}
use Rattle.ac_top.specs.OrderReports.{OrderReports, OrderTextReports, order_refused, order_read}
use Rattle.ac_top.specs.OrderReports as order
use Rattle.ac_top.specs.ProveReports.{ProveReports, empty_context, compared, IsProofOf, IsFileOf, no_name, none_equal, whole_text, ShowsEqual}
use Rattle.ac_top.specs.Reports.{Report, report as a_report, ProofFile}
use Rattle.ac_top.specs.InstanceReports.{InstanceReports, not_a_valuation, at_valuation, outside, too_large, range, ran}
use Rattle.ac_top.specs.declared.status.Status.{Status}
use Rattle.ac_top.specs.declared.status.Status.TheVariants as status
use Rattle.ac_port.specs.CallCounts.{Rose}
use Rattle.ac_top.specs.Reads.{AreReads, source_read}
use Rattle.ac_top.specs.RunStages.{file_of, written}
use Rattle.ac_top.specs.declared.report.ProofFile.{ProofFile as File}
use Rattle.ac_top.specs.declared.report.Report.{Report as Written}
use Rattle.ac_top.proofs.Generating.{generated_none}
use Rattle.ac_top.proofs.ArrangedAnswers.{arranged_none}
use Rattle.ac_top.proofs.Headline.{of_files, done, different}

-- each output that is equal is the same
equal_same : (pair : Pair) (os : List ℕ) (vs : List Verdict) → AreVerdicts pair os vs → AllByRecursion (SameOutput pair) (equal_outputs os vs)
equal_same pair [] vs h = tt
equal_same pair (o ∷ os) [] h = absurd h
equal_same pair (o ∷ os) (Equal ∷ vs) h = (h.0, equal_same pair os vs h.1)
equal_same pair (o ∷ os) (Different params e ∷ vs) h = equal_same pair os vs h.1
equal_same pair (o ∷ os) (Unknown cause ∷ vs) h = equal_same pair os vs h.1

-- the file of a report of `prove`
record Shown (pair : Pair) (name : Option (List ℕ)) (file : ProofFile) : Type 0 where
  pub shows : ShowsEqual pair file.bytes
  pub name_is : name ≡ Some file.name

in_file : (pair : Pair) (vs : List Verdict) (proof : Proof) (name : Option (List ℕ)) (f : Option ProofFile) (file : ProofFile) → AreVerdicts pair pair.outputs vs → IsProofOf pair vs proof → IsFileOf proof name f → f ≡ Some file → Shown pair name file
in_file pair vs proof name f file h is no_name e = absurd cc
in_file pair vs proof name f file h is (none_equal p none) e = absurd cc
in_file pair vs proof name f file h is (whole_text g some text) e =
    let same : g ≡ file = cc in
    record {
      shows = record {
        proof = proof;
        text = ap (λ (x : ProofFile). x.bytes) (sym same) ∙ text;
        accepted = is.accepted some;
        some = some;
        same = subst (AllByRecursion (SameOutput pair)) (sym is.names) (equal_same pair pair.outputs vs h);
      };
      name_is = ap (λ (x : ProofFile). Some x.name) same;
    }

shown : (pair : Pair) (budget : ℕ) (name : Option (List ℕ)) (file : ProofFile) (r : Report) → ProveReports pair budget name r → r.proof ≡ Some file → Shown pair name file
shown pair budget name file r (empty_context stops h) e = absurd cc
shown pair budget name file r (compared vs proof f h matched by tried is of) e = in_file pair vs proof name f file h is of e

-- no other report has a file
check_none : (files : Option Contents) (reads : List Read → Type 0) (p : List ℕ) (pair : Pair) (file : ProofFile) (r : Report) → CheckReports files reads p pair r → r.proof ≡ Some file → ⊥
check_none files reads p pair file r (proof_unread parts bytes room out h) e = absurd cc
check_none files reads p pair file r (tested parts stream _ are is (accepted left right outputs models h same)) e = absurd cc
check_none files reads p pair file r (tested parts stream _ are is (too_long left right models h)) e = absurd cc
check_none files reads p pair file r (tested parts stream _ are is (too_deep left right models h)) e = absurd cc
check_none files reads p pair file r (tested parts stream _ are is (not_valid left right number rule models h)) e = absurd cc

instance_none : (a b first second : List ℕ) (pair : Pair) (at : Option (List ℕ)) (limit : ℕ) (file : ProofFile) (r : Report) → InstanceReports a b first second pair at limit r → r.proof ≡ Some file → ⊥
instance_none a b first second pair at limit file r (not_a_valuation h) e = absurd cc
instance_none a b first second pair at limit file r (at_valuation params _ given (outside d)) e = absurd cc
instance_none a b first second pair at limit file r (at_valuation params _ given (too_large d)) e = absurd cc
instance_none a b first second pair at limit file r (at_valuation params _ given (range side place value d)) e = absurd cc
instance_none a b first second pair at limit file r (at_valuation params _ given (ran events outcomes d all same)) e = absurd cc

program_none : (program : Program) (file : ProofFile) (r : Report) → FlowReports program r → r.proof ≡ Some file → ⊥
program_none program file r (no_valuation s n) e = absurd cc
program_none program file r (context_stopped stop text un n is) e = absurd cc
program_none program file r (flow_stopped stop text v n is) e = absurd cc
program_none program file r (flowed flow v is) e = absurd cc

text_none : (a bytes : List ℕ) (file : ProofFile) (r : Report) → TextReports a bytes r → r.proof ≡ Some file → ⊥
text_none a bytes file r (text_refused said k) e = absurd cc
text_none a bytes file r (text_not_lowered program said k m) e = absurd cc
text_none a bytes file r (text_lowered program _ k m h) e = program_none program file r h e

flow_none : (files : Option Contents) (reads : List Read → Type 0) (a : List ℕ) (file : ProofFile) (r : Report) → OneFileReports files reads a r → r.proof ≡ Some file → ⊥
flow_none files reads a file r (file_unread h) e = absurd cc
flow_none files reads a file r (file_too_long h big) e = absurd cc
flow_none files reads a file r (text_of_file bytes _ is_read h k) e = text_none a bytes file r k e

schedule_none : (program : Program) (times : List (List Affine)) (file : ProofFile) (r : Report) → OrderReports program times r → r.proof ≡ Some file → ⊥
schedule_none program times file r (order.no_valuation s n) e = absurd cc
schedule_none program times file r (order.context_stopped stop text un n is) e = absurd cc
schedule_none program times file r (order.order_stopped stop text v n decided is) e = absurd cc
schedule_none program times file r (order.kept v k) e = absurd cc
schedule_none program times file r (order.broken at i xs j ys v b) e = absurd cc

order_none : (program : Program) (spelled : List ℕ) (file : ProofFile) (r : Report) → OrderTextReports program spelled r → r.proof ≡ Some file → ⊥
order_none program spelled file r (order_refused n h) e = absurd cc
order_none program spelled file r (order_read times _ s h) e = schedule_none program times file r h e

orders_none : (a bytes spelled : List ℕ) (file : ProofFile) (r : Report) → OrderOfTextReports a bytes spelled r → r.proof ≡ Some file → ⊥
orders_none a bytes spelled file r (program_refused said k) e = absurd cc
orders_none a bytes spelled file r (program_not_lowered program said k m) e = absurd cc
orders_none a bytes spelled file r (program_lowered program _ k m h) e = order_none program spelled file r h e

legal_none : (files : Option Contents) (reads : List Read → Type 0) (a s : List ℕ) (file : ProofFile) (r : Report) → LegalReports files reads a s r → r.proof ≡ Some file → ⊥
legal_none files reads a s file r (program_unread h) e = absurd cc
legal_none files reads a s file r (program_too_long h big) e = absurd cc
legal_none files reads a s file r (order_unread bytes h k) e = absurd cc
legal_none files reads a s file r (order_too_long bytes h k big) e = absurd cc
legal_none files reads a s file r (both_read bytes spelled _ are h k m) e = orders_none a bytes spelled file r m e

chains_none : (a b first second : List ℕ) (names : List (List ℕ)) (file : ProofFile) (r : Report) → ChainReports a b first second names r → r.proof ≡ Some file → ⊥
chains_none a b first second names file r (texts_unpaired text why) e = absurd cc
chains_none a b first second names file r (chain_fault pair fault text are is said) e = absurd cc
chains_none a b first second names file r (pair_not_lowered pair text are none why) e = absurd cc
chains_none a b first second names file r (pair_lowered pair _ are none low h) e = arranged_none names pair file r h e

aprove_none : (files : Option Contents) (reads : List Read → Type 0) (a b : List ℕ) (names : List (List ℕ)) (file : ProofFile) (r : Report) → FileReports files reads a b (λ first second more s. more [] × ChainReports a b first second names s) r → r.proof ≡ Some file → ⊥
aprove_none files reads a b names file r (first_unread h) e = absurd cc
aprove_none files reads a b names file r (first_too_long h big) e = absurd cc
aprove_none files reads a b names file r (second_unread x h k) e = absurd cc
aprove_none files reads a b names file r (second_too_long x h k big) e = absurd cc
aprove_none files reads a b names file r (sources x y _ h k m) e = chains_none a b x y names file r m.1 e

module _ (words : List (List ℕ)) (files : Option Contents) (reads : List Read → Type 0) (file : ProofFile) where
  abbrev HasIt : Report → Type 0
  HasIt r = r.proof ≡ Some file

  -- the reads behind those of the texts of a pair
  abbrev Later : (a b first second : List ℕ) → List Read → Type 0
  Later a b first second more = reads (source_read a (handed_out first) ∷ source_read b (handed_out second) ∷ more)

  -- of the reports of two files, one with a file is that of `prove`
  of_pair : (a b : List ℕ) (Is : List Read → Pair → Type 0) (OfPair : List ℕ → List ℕ → (List Read → Type 0) → Pair → Report → Type 0)
      → ((first second : List ℕ) (pair : Pair) (r : Report) → OfPair first second (Later a b first second) pair r → HasIt r → (more : List Read) × Later a b first second more × Is more pair)
      → (r : Report) → PairReports files reads a b OfPair r → HasIt r → HoldAPair files reads a b Is
  of_pair a b Is OfPair good r h e = of_files files reads a b Is HasIt (λ text k. absurd cc) (λ text k. absurd cc) OfPair good r h e

  asks_prove : (a b : List ℕ) (budget : ℕ) (name : Option (List ℕ)) → IsCommand words (prove a b budget name) → HoldAPair files reads a b (λ more pair. Shown pair name file) → AsksFor words files reads file
  asks_prove a b budget name is h = record {
    a = a;
    b = b;
    budget = budget;
    is = subst (λ (n : Option (List ℕ)). IsCommand words (prove a b budget n)) h.is.name_is is;
    shows = record { first = h.first; second = h.second; more = h.more; are_read = h.are_read; holds_first = h.holds_first; holds_second = h.holds_second; pair = h.pair; are = h.are; is = h.is.shows };
  }

  -- a report with a file is that of a command that asks for it
  pub asks : (r : Report) → Reports words files reads r → HasIt r → AsksFor words files reads file
  asks r (no_form none h) e = absurd cc
  asks r (of_command (prove a b budget name) s is h) e =
      asks_prove a b budget name is
      (of_pair a b (λ more pair. Shown pair name file) (λ first second more pair q. more [] × ProveReports pair budget name q) (λ first second pair u p k. ([], p.0, shown pair budget name file u p.1 k)) s h e)
  asks r (of_command (check_of a b p) s is h) e =
      absurd ((of_pair a b (λ more pair. ⊥) (λ first second more pair q. CheckReports files more p pair q) (λ first second pair u q k. absurd (check_none files (Later a b first second) p pair file u q k)) s h e).is)
  asks r (of_command (instance_of a b at limit) s is h) e =
      absurd ((of_pair a b (λ more pair. ⊥) (λ first second more pair q. more [] × InstanceReports a b first second pair at limit q) (λ first second pair u q k. absurd (instance_none a b first second pair at limit file u q.1 k)) s h e).is)
  asks r (of_command (flow_of a) s is h) e = absurd (flow_none files reads a file s h e)
  asks r (of_command (gen_of seed stages) s is h) e = absurd (generated_none seed stages file s h.1 e)
  asks r (of_command (legal_of a t) s is h) e = absurd (legal_none files reads a t file s h e)
  asks r (of_command (aprove_of a b names) s is h) e = absurd (aprove_none files reads a b names file s h e)

-- what a run leaves
module _ (words : List (List ℕ)) (reads : List Read → Type 0) (spoilt failed : Type 0) (files after : Option Contents) (before now : Option (List ℕ)) (r : Report) where
  pub keeps : (s : Status) → Reports words files reads r → Delivers r spoilt failed files after before now s → KeepsFiles words spoilt files after reads
  keeps s h (only_put _ none e p) = kept e
  keeps s h (proof_first file _ is e p) = proof_written file (asks words files reads file r h is) e
  keeps s h (proof_fails file _ is bad same p) = proof_spoilt file (asks words files reads file r h is) bad same
  keeps s h (proof_wants file is e k) = kept e

  put_as : (P : Status → Type 0) (t : Report) (s : Status) → P t.status → P status.WriteFault → P status.Memory → Puts t failed before now s → P s
  put_as P t s h k m (whole e) = h
  put_as P t s h k m (part count bad e) = k
  put_as P t s h k m (nothing e) = m

  -- the status is that of the report, or of a write that failed, or of want of memory
  pub delivered : (P : Status → Type 0) (s : Status) → P r.status → P status.WriteFault → P status.Memory → Delivers r spoilt failed files after before now s → P s
  delivered P s h k m (only_put _ none e p) = put_as P r s h k m p
  delivered P s h k m (proof_first file _ is e p) = put_as P r s h k m p
  delivered P s h k m (proof_fails file _ is bad same p) = put_as P (a_report status.WriteFault _) s k k m p
  delivered P s h k m (proof_wants file is e none) = m

asks_for_a_proof : (words : List (List ℕ)) (files : Option Contents) (reads : List Read → Type 0) (file : ProofFile) → AsksFor words files reads file → AskForAProof words
asks_for_a_proof words files reads file h = (h.a, h.b, h.budget, file.name, h.is)

-- a run: what is reported, by the files before and behind the reads, and what then becomes of the report
module _ {Files : Type 0} (contents : Files → Option Contents) (transcript : Files → List Read) (write_faults : Files → ℕ) (old mid new : Files)
    (words : List (List ℕ)) (report : Written) (failed : Type 0) (before now : Option (List ℕ)) (s : Status) (same : contents mid ≡ contents old) (same_writes : write_faults mid ≡ write_faults old)
    (h : Reports words (contents old) (AreReads (transcript old) (transcript mid)) (written report)) (d : Delivers (written report) (Rose (write_faults mid) (write_faults new)) failed (contents mid) (contents new) before now s)
    (untouched : report.proof ≡ None → new ≡ mid) (same_reads : transcript new ≡ transcript mid) where
  abbrev reads : List Read → Type 0
  reads = AreReads (transcript old) (transcript new)

  delivers_here : Delivers (written report) (Rose (write_faults old) (write_faults new)) failed (contents old) (contents new) before now s
  delivers_here =
      subst (λ (w : ℕ). Delivers (written report) (Rose w (write_faults new)) failed (contents old) (contents new) before now s) same_writes
      (subst (λ (f : Option Contents). Delivers (written report) (Rose (write_faults mid) (write_faults new)) failed f (contents new) before now s) same d)

  -- a write is no read
  reports_here : Reports words (contents old) reads (written report)
  reports_here = subst (λ (t : List Read). Reports words (contents old) (AreReads (transcript old) t) (written report)) (sym same_reads) h

  pub ends : Ends words (contents old) (contents new) (AreReads (transcript old) (transcript new)) (Rose (write_faults old) (write_faults new)) failed before now s
  ends = reported (written report) s reports_here delivers_here

  pub leaves : KeepsFiles words (Rose (write_faults old) (write_faults new)) (contents old) (contents new) (AreReads (transcript old) (transcript new))
  leaves = keeps words reads (Rose (write_faults old) (write_faults new)) failed (contents old) (contents new) before now (written report) s reports_here delivers_here

  of_status : (P : Status → Type 0) → P report.status → P status.WriteFault → P status.Memory → P s
  of_status P k m n = delivered words reads (Rose (write_faults old) (write_faults new)) failed (contents old) (contents new) before now (written report) P s k m n delivers_here

  pub tells_the_same : DoneMeansTheSame words (contents old) (AreReads (transcript old) (transcript new)) s
  tells_the_same = of_status (DoneMeansTheSame words (contents old) reads) (done words (contents old) reads (written report) reports_here) (λ e. absurd cc) (λ e. absurd cc)

  pub tells_different : DifferentMeansDifferent words (contents old) (AreReads (transcript old) (transcript new)) s
  tells_different = of_status (DifferentMeansDifferent words (contents old) reads) (different words (contents old) reads (written report) reports_here) (λ e. absurd cc) (λ e. absurd cc)

  by_none : (o : Option File) → report.proof ≡ o → ¬ (AskForAProof words) → write_faults new ≡ write_faults old
  by_none None e unasked = ap write_faults (untouched e) ∙ same_writes
  by_none (Some f) e unasked = absurd (unasked (asks_for_a_proof words (contents old) reads (file_of f) (asks words (contents old) reads (file_of f) (written report) reports_here (ap (option_map file_of) e))))

  pub no_writes : ¬ (AskForAProof words) → write_faults new ≡ write_faults old
  no_writes = by_none report.proof refl
