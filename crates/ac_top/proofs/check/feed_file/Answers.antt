use Rattle.std.proofs.Common.{ℕ, ◌+◌, ◌++◌, [], ◌∷◌, Option, refl, sym, ap, subst, ◌∙◌, arith}
use Rattle.ac_port.specs.Contents.{Contents}
use Rattle.ac_port.specs.Transcripts.{handed_out, read_failed, part_read}
use Rattle.ac_top.specs.Reads.{AreReads, no_part}
use Rattle.ac_top.specs.RunStages.{IsFed, IsPartRead}
use Rattle.ac_top.proofs.Reading.{front_begins, front_on, longer, part_out, stream_ends, stream_is_long, no_reads, reads_on, limit-is}
use Rattle.ac_top.proofs.check.feed_file.Goals as goal

pub loop-at-init : goal.loop-at-init
loop-at-init g c = record {
  short = omega arith;
  fed = ([], refl, front_begins (g.F.Files.contents c.args.files.now) c.args.name.now, (λ h outputs took. took), ([], no_reads (g.F.Files.transcript c.args.files.now), no_part));
  same = refl;
  writes = refl;
  ready = c.requires;
}

pub returns-in-Some-eq0-clause-fed : goal.returns-in-Some-eq0-clause-fed
returns-in-Some-eq0-clause-fed g c = λ h outputs begun.
    let is = c.loop-at.invariant in
    let files = g.F.Files.contents c.args.files.now in
    let start = g.F.Files.transcript c.args.files.now in
    let mid = g.F.Files.transcript c.loop-at.files in
    let now = g.F.Files.transcript c.feed_part.new.files in
    let name = c.args.name.now in
    let at = c.loop-at.at in
    let room = c.min-room.result in
    let old = c.loop-at.checker in
    let new = c.feed_part.new.checker in
    let came = subst (IsPartRead (g.F.Files.contents c.loop-at.files) (AreReads mid now) name at room old new) c.in-Some-eq0.is c.in_ok-feed_part.ensures.part in
    let fed : IsFed files (AreReads mid now) name at room old new c.in-Some-eq0.field-0 = subst (λ (f : Option Contents). IsFed f (AreReads mid now) name at room old new c.in-Some-eq0.field-0) is.same came in
    let none : IsFed files (AreReads mid now) name at room old new 0 = subst (IsFed files (AreReads mid now) name at room old new) c.in-Some-eq0.field-0-test fed in
    let text = is.fed.0 in
    let parts = is.fed.4.0 in (
      parts ++ part_read name at room (handed_out none.piece) ∷ [],
      text ++ none.piece,
      reads_on start mid now parts (part_read name at room (handed_out none.piece) ∷ []) is.fed.4.1 none.is_read,
      stream_ends files (AreReads mid now) name at room old new text parts is.fed.1 (let test = c.loop-at-test.true in let wide = c.min-room.ensures in omega (arith, test, wide)) is.short is.fed.2 is.fed.4.2 none,
      none.fed h outputs text (is.fed.3 h outputs begun),
    )

pub loop-at-preserved : goal.loop-at-preserved
loop-at-preserved g c =
    let is = c.loop-at.invariant in
    let files = g.F.Files.contents c.args.files.now in
    let start = g.F.Files.transcript c.args.files.now in
    let mid = g.F.Files.transcript c.loop-at.files in
    let now = g.F.Files.transcript c.feed_part.new.files in
    let name = c.args.name.now in
    let at = c.loop-at.at in
    let room = c.min-room.result in
    let old = c.loop-at.checker in
    let new = c.feed_part.new.checker in
    let came = subst (IsPartRead (g.F.Files.contents c.loop-at.files) (AreReads mid now) name at room old new) c.in-Some.is c.in_ok-feed_part.ensures.part in
    let fed : IsFed files (AreReads mid now) name at room old new c.in-Some.count = subst (λ (f : Option Contents). IsFed f (AreReads mid now) name at room old new c.in-Some.count) is.same came in
    let text = is.fed.0 in
    let parts = is.fed.4.0 in
    record {
      short = let limit = limit-is in let test = c.loop-at-test.true in let wide = c.min-room.ensures in let within = fed.within in omega (arith, limit, test, wide, within);
      fed = (
        text ++ fed.piece,
        ap (λ n. n + c.in-Some.count) is.fed.1 ∙ sym (longer files (AreReads mid now) name at room old new text c.in-Some.count fed),
        front_on files (AreReads mid now) name at room old new text c.in-Some.count is.fed.1 is.fed.2 fed,
        (λ h outputs begun. fed.fed h outputs text (is.fed.3 h outputs begun)),
        (
          parts ++ part_read name at room (handed_out fed.piece) ∷ [],
          reads_on start mid now parts (part_read name at room (handed_out fed.piece) ∷ []) is.fed.4.1 fed.is_read,
          part_out name parts text at room fed.piece is.fed.1 is.fed.4.2,
        ),
      );
      same = c.in_ok-feed_part.ensures.same ∙ is.same;
      writes = c.in_ok-feed_part.ensures.same_writes ∙ is.writes;
      ready = c.in_ok-feed_part.ensures.ready;
    }

pub returns-clause-fed : goal.returns-clause-fed
returns-clause-fed g c = λ h outputs begun.
    let is = c.loop-at.invariant in (
      is.fed.4.0,
      is.fed.0,
      is.fed.4.1,
      stream_is_long (g.F.Files.contents c.args.files.now) c.args.name.now is.fed.0 is.fed.4.0
          (let limit = limit-is in let test = c.loop-at-test.false in let short = is.short in let counted = is.fed.1 in omega (arith, limit, test, short, counted)) is.fed.2 is.fed.4.2,
      is.fed.3 h outputs begun,
    )

pub returns-in-None-clause-fed : goal.returns-in-None-clause-fed
returns-in-None-clause-fed g c = λ h outputs begun.
    let is = c.loop-at.invariant in
    let start = g.F.Files.transcript c.args.files.now in
    let mid = g.F.Files.transcript c.loop-at.files in
    let now = g.F.Files.transcript c.feed_part.new.files in
    let name = c.args.name.now in
    let text = is.fed.0 in
    let parts = is.fed.4.0 in
    let failed = subst (IsPartRead (g.F.Files.contents c.loop-at.files) (AreReads mid now) name c.loop-at.at c.min-room.result c.loop-at.checker c.feed_part.new.checker) c.in-None.is c.in_ok-feed_part.ensures.part in
    let here = reads_on start mid now parts (part_read name c.loop-at.at c.min-room.result read_failed ∷ []) is.fed.4.1 failed in (
      parts,
      text,
      c.min-room.result,
      is.fed.4.2,
      subst (λ (n : ℕ). AreReads start now (parts ++ part_read name n c.min-room.result read_failed ∷ [])) is.fed.1 here,
    )
