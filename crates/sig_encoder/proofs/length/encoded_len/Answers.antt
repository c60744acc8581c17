use Rattle.sig_encoder.proofs.Prelude.{arith, refl, body_of}
use Rattle.sig_encoder.proofs.Measured.{refused, measured}
use Rattle.sig_encoder.proofs.length.encoded_len.Goals as goal

pub returns-in_err-visit_body-clause-encodable : goal.returns-in_err-visit_body-clause-encodable
returns-in_err-visit_body-clause-encodable c =
    rw c.from_residual.ensures ((λ e. cc), (λ is. absurd (refused (record { parts = c.items_are_parts.ensures.parts; allowed = c.items_are_parts.ensures.allowed }) (body_of c.args.body.now) _ c.in_err-visit_body.ensures is)))

pub overflow_sub-result : goal.overflow_sub-result
overflow_sub-result c = let whole = (measured (record { parts = c.items_are_parts.ensures.parts; allowed = c.items_are_parts.ensures.allowed }) (body_of c.args.body.now) _ c.in_ok-visit_body.ensures).1 in omega arith

pub returns-clause-encodable : goal.returns-clause-encodable
returns-clause-encodable c = ((λ e. (measured (record { parts = c.items_are_parts.ensures.parts; allowed = c.items_are_parts.ensures.allowed }) (body_of c.args.body.now) _ c.in_ok-visit_body.ensures).0), (λ is. refl))

pub returns-clause-length : goal.returns-clause-length
returns-clause-length c = let whole = (measured (record { parts = c.items_are_parts.ensures.parts; allowed = c.items_are_parts.ensures.allowed }) (body_of c.args.body.now) _ c.in_ok-visit_body.ensures).1 in omega arith
