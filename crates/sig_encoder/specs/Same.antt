-- Equality of two signatures (ECMA-335 II.23.2) as a test: it compares the trees that they are stored as.
-- Different signatures have different trees, so the test is equality.
use Rattle.std.specs.Prelude.{◌&&◌, Bool, true, false, nat_eq}
use base.Stored.{Gv, gnil, gnum, gcons}
use Rattle.sig_grammar.specs.Syntax.{Body}
use Rattle.sig_grammar.specs.Code.{body_code}

abbrev pub is_same_tree : Gv → Gv → Bool
is_same_tree gnil gnil = true
is_same_tree (gnum m) (gnum n) = nat_eq m n
is_same_tree (gcons a b) (gcons c d) = is_same_tree a c && is_same_tree b d
is_same_tree _ _ = false

-- equality as a `Bool`
abbrev pub is_same_body : Body → Body → Bool
is_same_body first second = is_same_tree (body_code.code first) (body_code.code second)
