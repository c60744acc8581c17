use Rattle.pe.proofs.Prelude.{◌≡◌, ◌+◌, ◌-◌, ap, arith, length, refl, Image}
use Rattle.pe.proofs.OffsetLemmas.{offset_found}
use Rattle.pe.proofs.image.Pe.range.Goals as goal

pub overflow_sub-start : goal.overflow_sub-start
overflow_sub-start c = (offset_found c.self.inside c.args.self.now c.args.rva c.args.n c.in_ok-section.section c.self.invariant c.self.view_is c.in_ok-section.ensures).before

pub returns-then-end-self-clause-complete : goal.returns-then-end-self-clause-complete
returns-then-end-self-clause-complete c = λ offset is.
    let found = offset_found c.self.inside c.args.self.now c.args.rva c.args.n c.in_ok-section.section c.self.invariant c.self.view_is c.in_ok-section.ensures in
    let same : offset ≡ c.in_ok-section.section.pointer_to_raw_data + c.args.rva - c.in_ok-section.section.virtual_address = cc (found.offset, is.first) in
    let long = ap (λ (i : Image). length i.bytes) c.self.view_is in
    let within = is.within in
    let before = found.before in
    omega arith

pub returns-clause-sound : goal.returns-clause-sound
returns-clause-sound c =
    let found = offset_found c.self.inside c.args.self.now c.args.rva c.args.n c.in_ok-section.section c.self.invariant c.self.view_is c.in_ok-section.ensures in
    let long = ap (λ (i : Image). length i.bytes) c.self.view_is in
    let before = found.before in
    let same : c.in_ok-section.section.pointer_to_raw_data + (c.args.rva - c.in_ok-section.section.virtual_address)
    ≡ c.in_ok-section.section.pointer_to_raw_data + c.args.rva - c.in_ok-section.section.virtual_address = omega arith in
    (record { first = rw same found.offset; within = omega arith }, refl)

pub returns-clause-complete : goal.returns-clause-complete
returns-clause-complete c = λ offset is.
    let found = offset_found c.self.inside c.args.self.now c.args.rva c.args.n c.in_ok-section.section c.self.invariant c.self.view_is c.in_ok-section.ensures in
    let same : offset ≡ c.in_ok-section.section.pointer_to_raw_data + c.args.rva - c.in_ok-section.section.virtual_address = cc (found.offset, is.first) in
    let before = found.before in
    (omega arith, omega arith)
