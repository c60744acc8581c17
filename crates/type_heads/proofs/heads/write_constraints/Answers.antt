use Rattle.type_heads.proofs.Prelude.{[], length, sym, codes, writes_nothing, IsTypeOf}
use Rattle.navigation.specs.declared.links.Link.TheVariants as link_of
use Rattle.type_heads.proofs.HeadLemmas.{constraints_written, enclosed_none, is_none, is_some, listed_none}
use Rattle.type_heads.proofs.heads.write_constraints.Goals as goal

pub returns-then-is_empty : goal.returns-then-is_empty
returns-then-is_empty g c = λ model is.
    let none = is_none (length c.args.rows.now) c.is_empty.result c.is_empty.ensures c.if-is_empty.true in (
      [],
      ([], listed_none (IsTypeOf g.L.Limit.scopes model link_of.Constraints) [] c.args.rows.now none, sym (enclosed_none (codes "(") (codes ") ") [] c.args.rows.now none)),
      writes_nothing g.W.Write.write_str_gives c.args.out.now,
    )

pub returns : goal.returns
returns g c = λ model is.
    constraints_written g.W.Write.write_str_gives g.L.Limit.scopes model c.args.rows.now c.args.out.now _ _ _ (is_some (length c.args.rows.now) c.is_empty.result c.is_empty.ensures c.if-is_empty.false)
    c.in_ok-write_text.ensures (c.in_ok-write_types.ensures model is) c.in_ok-write_text-2.ensures
