use Rattle.type_heads.proofs.Prelude.{[], map, Metadata, IsModel, Wrote, row_of, AreListed, IsTypeOf, shadow, Utf8}
use Rattle.type_heads.proofs.HeadLemmas.{WroteFrom}
use Rattle.type_heads.proofs.heads.write_types.Given as goal

-- the rows that are left complete the rows
abbrev pub invariant-loop-found : goal.invariant-loop-found
invariant-loop-found g l = record {
  utf8 : shadow (Utf8 l.before);
  left : (model : Metadata) (later : _) → IsModel l.source.view.now model
      → WroteFrom g.W.Write.write_str_gives (IsTypeOf g.L.Limit.scopes model l.link) l.rows l.found-index l.before l.out later
      → Wrote g.W.Write.write_str_gives l.initial.out (AreListed (IsTypeOf g.L.Limit.scopes model l.link) [] (map row_of l.rows)) later;
}
