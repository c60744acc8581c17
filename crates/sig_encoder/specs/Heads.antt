-- Methods that are equal, except for their results and parameters (ECMA-335 II.23.2.1 to II.23.2.3).
use Rattle.std.specs.Prelude.{◌≡◌}
use Rattle.sig_grammar.specs.declared.types.MethodSig.{MethodSig, out-MethodSig}

-- equal calling convention, HASTHIS, EXPLICITTHIS, number of generic parameters, and index of SENTINEL
pub record HaveOneHead (first second : MethodSig) : Type 0 where
  pub kind : (out-MethodSig first).kind ≡ (out-MethodSig second).kind
  pub this : (out-MethodSig first).this ≡ (out-MethodSig second).this
  pub explicit : (out-MethodSig first).explicit ≡ (out-MethodSig second).explicit
  pub generic : (out-MethodSig first).generic ≡ (out-MethodSig second).generic
  pub sentinel : (out-MethodSig first).sentinel ≡ (out-MethodSig second).sentinel
