use Rattle.std.proofs.Common.{rules, arith}
use Rattle.reading.proofs.KnownLemmas.{slot_low, kept_more}
use Rattle.reading.proofs.known_starts.KnownStarts.keep.Goals as goal

pub returns-in-Some-clause-known : goal.returns-in-Some-clause-known
returns-in-Some-clause-known c = λ start owners is known.
    let low = slot_low c.args.self.now.step c.in-Some.slot c.args.row 256 c.in-Some.ensures.kept c.requires.room in
    record {
      each = kept_more c.args.self.now.starts start c.args.self.now.step c.in-Some.slot c.args.row c.args.first owners (search rules)
          (omega arith) c.in-Some.ensures.kept is known.each;
    }
