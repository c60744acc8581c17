-- Search finds these too. They are written so that a check that refuses an edit of this function ends sooner.
use Rattle.std.proofs.Common.{rules}
use Rattle.root_writer.proofs.writer.Writer.put_stream.Goals as goal

pub returns-in-Guids : goal.returns-in-Guids
returns-in-Guids c = search rules

pub returns-in-Blobs : goal.returns-in-Blobs
returns-in-Blobs c = search rules
