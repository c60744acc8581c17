use Rattle.full_names.proofs.Prelude.{TypeRef, IsScope, IsOwnText}
use Rattle.full_names.proofs.TextLemmas.{chain_left_out, chain_alone, chain_nested}
use Rattle.full_names.proofs.names.+write_type_ref_within.Goals as goal

pub returns-then-depth-eq0 : goal.returns-then-depth-eq0
returns-then-depth-eq0 g t c = λ model shown.
    chain_left_out g.W.Write.write_str_gives (IsScope model) (IsOwnText model TypeRef) c.args.out.now c.write_left_out.result c.write_left_out.new.out
    c.args.row c.args.depth c.if-depth-eq0.true c.write_left_out.ensures

pub returns : goal.returns
returns g t c = λ model shown.
    chain_nested g.W.Write.write_str_gives (IsScope model) (IsOwnText model TypeRef) c.args.out.now c.write_own-2.result c.write_type_ref_within.new.out
    c.write_slash.new.out c.write_own-2.new.out c.args.row c.in-Some.outer c.args.depth c.if-depth-eq0.false (c.in-Some.ensures.sound model shown)
    (c.in_ok-write_type_ref_within.ensures model shown) c.in_ok-write_slash.ensures (c.write_own-2.ensures model shown)

pub returns-in_default : goal.returns-in_default
returns-in_default g t c = λ model shown.
    chain_alone g.W.Write.write_str_gives (IsScope model) (IsOwnText model TypeRef) c.args.out.now c.write_own.result c.write_own.new.out
    c.args.row c.args.depth c.if-depth-eq0.false (c.in_default.ensures.none model shown) (c.write_own.ensures model shown)
