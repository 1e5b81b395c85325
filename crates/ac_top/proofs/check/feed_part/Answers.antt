use Rattle.std.proofs.Common.{◌≡◌, List, [], ◌∷◌, ℕ, length, IfSome, IsSomeAnd, ap, subst, sym, ◌∙◌, arith}
use Rattle.std.specs.FinMap.{get}
use Rattle.ac_port.specs.Contents.{part_of}
use Rattle.ac_port.specs.Transcripts.{handed_out, part_read}
use Rattle.ac_top.specs.Reads.{AreReads}
use Rattle.ac_top.specs.RunStages.{IsPiece}
use Rattle.ac_top.proofs.check.feed_part.Goals as goal

pub returns-clause-part : goal.returns-clause-part
returns-clause-part g c =
    let files = g.F.Files.contents c.args.files.now in
    let reads = AreReads (g.F.Files.transcript c.args.files.now) (g.F.Files.transcript c.read_part.new.files) in
    let part = subst (IsPiece files reads c.args.name.now c.args.from c.args.room) c.in-Some.is c.in_ok-piece.ensures.part in
    let bytes : c.as_slice.result.now ≡ c.in-Some.piece.items = c.as_slice.ensures.value in
    let counted : length c.as_slice.result.now ≡ c.len.result = ap length bytes ∙ sym c.in-Some.piece.ok.0 ∙ sym c.len.ensures in
    record {
      piece = c.as_slice.result.now;
      is_read = subst (λ (l : List ℕ). reads (part_read c.args.name.now c.args.from c.args.room (handed_out l) ∷ [])) (sym bytes) part.0;
      fed = c.in_ok-feed.ensures.fed;
      counted = counted;
      within = let within = part.1 in let same : length c.as_slice.result.now ≡ length c.in-Some.piece.items = ap length bytes in omega (arith, counted, same, within);
      told = subst (λ (l : List ℕ). IfSome files (λ contents. IsSomeAnd (get contents c.args.name.now) (λ held. l ≡ part_of held c.args.from c.args.room))) (sym bytes) part.2;
    }
