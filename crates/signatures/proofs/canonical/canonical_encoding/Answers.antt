use Rattle.signatures.proofs.Prelude.{◌∙◌, ◌<◌, ◌≤◌, ◌^◌, length, List, ℕ, ap, subst, sym, AllByRecursion, encoded_item, HasItemEncoding}
use Rattle.std.specs.Prelude.{flat_map}
use Rattle.signatures.proofs.canonical.canonical_encoding.Goals as goal

pub encode_items-requires : goal.encode_items-requires
encode_items-requires c =
    let found = c.in-Some.ensures.sound in
    let encodable = c.encoded_is_encodable.ensures c.args.kind found.0 c.args.bytes.now found.1 in
    subst (AllByRecursion HasItemEncoding) (sym found.2) (c.items_are_encoded.ensures.encodable found.0 encodable)

pub returns-clause-shortest : goal.returns-clause-shortest
returns-clause-shortest c = λ signature encodes.
    let encodable = c.encoded_is_encodable.ensures c.args.kind signature c.args.bytes.now encodes in
    c.in_ok-encode_items.ensures ∙ ap (flat_map encoded_item) (c.in-Some.ensures.complete signature encodes) ∙ c.items_are_encoded.ensures.encoded signature encodable

pub returns-clause-limit : goal.returns-clause-limit
returns-clause-limit c =
    let found = c.in-Some.ensures.sound in
    let encodable = c.encoded_is_encodable.ensures c.args.kind found.0 c.args.bytes.now found.1 in
    let same = c.in_ok-encode_items.ensures ∙ ap (flat_map encoded_item) found.2 ∙ c.items_are_encoded.ensures.encoded found.0 encodable in
    subst (λ (b : List ℕ). length b < 2 ^ 29) (sym same) encodable.limit

pub returns-clause-no_longer : goal.returns-clause-no_longer
returns-clause-no_longer c =
    let found = c.in-Some.ensures.sound in
    let encodable = c.encoded_is_encodable.ensures c.args.kind found.0 c.args.bytes.now found.1 in
    let same = c.in_ok-encode_items.ensures ∙ ap (flat_map encoded_item) found.2 ∙ c.items_are_encoded.ensures.encoded found.0 encodable in
    subst (λ (b : List ℕ). length b ≤ length c.args.bytes.now) (sym same) (c.canonical_is_shortest.ensures c.args.kind found.0 c.args.bytes.now found.1)
