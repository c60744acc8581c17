use Rattle.root_writer.proofs.Prelude.{drop, flat_map}
use Rattle.root_writer.specs.Root.{content, root_bytes}
use Rattle.root_writer.proofs.RowLemmas.{IsPutting}
use Rattle.root_writer.proofs.writer.Writer.put_root.Given as goal

-- together with the streams that are left this is the whole root
abbrev pub invariant-loop-kind : goal.invariant-loop-kind
invariant-loop-kind l = IsPutting l.fn.self l.self (flat_map (content l.parts) (drop l.kind-index l.kinds)) (root_bytes l.parts)
