use Rattle.sig_text.proofs.Prelude.{rules, arith, ◌≡◌, w64, ints}
use Rattle.std.proofs.Math.IntN.{pos, ◌+ℤ◌, ◌-ℤ◌}
use mir.Val.{to_z, of_z, SFits}
use Rattle.sig_text.proofs.Chains.{and_then, silent}
use Rattle.sig_text.proofs.shape.dimension.Goals as goal

pub returns-in-None-None : goal.returns-in-None-None
returns-in-None-None g c = rw (c.in-None-None.is-0, c.in-None-None.is-1) silent

pub returns-in-None-Some : goal.returns-in-None-Some
returns-in-None-Some g c = rw (c.in-None-Some.is-0, c.in-None-Some.is-1) c.put_number.ensures

pub returns-in-Some-None : goal.returns-in-Some-None
returns-in-Some-None g c =
    let v : to_z w64 (of_z w64 c.from.result) ≡ c.in-Some-None.low = omega (arith, ints) in
    rw (c.in-Some-None.is-0, c.in-Some-None.is-1) (and_then (rw v at c.put_signed.ensures) c.put_text.ensures)

pub returns-in-Some-Some : goal.returns-in-Some-Some
returns-in-Some-Some g c =
    let v : to_z w64 (of_z w64 c.from-in-Some-Some.result) ≡ c.in-Some-Some.low = omega (arith, ints) in
    let f : SFits w64 c.upper_bound.result = search rules in
    let u : to_z w64 (of_z w64 c.upper_bound.result) ≡ (c.in-Some-Some.low +ℤ pos c.in-Some-Some.size) -ℤ pos 1 = omega (arith, ints) in
    rw (c.in-Some-Some.is-0, c.in-Some-Some.is-1) (and_then (rw v at c.put_signed-in-Some-Some.ensures) (and_then c.put_text-in-Some-Some.ensures (rw u at c.put_signed-in-Some-Some-2.ensures)))
