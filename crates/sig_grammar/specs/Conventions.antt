-- The calling conventions of methods (ECMA-335 II.23.2.1 to II.23.2.3), by the low four bits of the first byte.
use Rattle.std.specs.Prelude.{ℕ, ◌==◌, if◌then◌else◌}
use Rattle.sig_grammar.specs.declared.calling_convention.CallingConvention.{CallingConvention}
use Rattle.sig_grammar.specs.declared.calling_convention.CallingConvention.TheVariants as convention

unfoldable pub convention_of : ℕ → CallingConvention
convention_of code =
    if code == 1 then convention.C else
    if code == 2 then convention.StdCall else
    if code == 3 then convention.ThisCall else
    if code == 4 then convention.FastCall else
    if code == 5 then convention.VarArg else
    if code == 9 then convention.Unmanaged else
    convention.Default
