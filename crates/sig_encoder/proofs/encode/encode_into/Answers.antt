use Rattle.sig_encoder.proofs.Prelude.{◌∙◌, ◌-◌, ◌≤◌, length, ap, arith, body_of, short, Written}
use Rattle.sig_encoder.proofs.Padded.{body_padded}
use Rattle.sig_encoder.proofs.encode.encode_into.Goals as goal

pub returns : goal.returns
returns c =
    let body = body_of c.args.body.now in
    let room = c.requires.room in
    let whole = c.capacity.ensures in
    let used = c.len.ensures in
    let fits : length (short body) ≤ c.capacity.result - c.len.result = omega arith in
    ap (λ (w : Written). w.0) c.writer.view_is
    ∙ body_padded (record { parts = c.items_are_parts.ensures.parts; allowed = c.items_are_parts.ensures.allowed }) c.visit_body.result body (c.args.bytes.items, c.capacity.result - c.len.result) c.visit_body.new.sink c.requires.encodable fits c.visit_body.ensures
