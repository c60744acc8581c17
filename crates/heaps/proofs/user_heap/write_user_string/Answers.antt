use Rattle.heaps.proofs.Prelude.{◌≡◌, ◌++◌, ◌∷◌, [], List, ℕ, length, flat_map, ap, ◌∙◌, append_assoc, short_unsigned, begun, unit_bytes, last_byte, user_length, user_entry}
use Rattle.heaps.proofs.BytesLemmas.{take_shorter, on_err}
use Rattle.heaps.proofs.user_heap.write_user_string.Goals as goal

pub returns-in_err-put_units-clause-err : goal.returns-in_err-put_units-clause-err
returns-in_err-put_units-clause-err c =
    let count = short_unsigned (user_length c.args.units.now) in
    let middle : c.put_unsigned.new.bytes.items ≡ begun c.args.bytes.now.items ++ count = c.in_ok-put_unsigned.ensures.ok ∙ ap (λ (l : List ℕ). l ++ count) c.in_ok-begin.ensures.ok in
    on_err c.from_residual-in_err-put_units.result _
    (take_shorter c.args.bytes.now.items count c.put_units.new.bytes.items _ _ c.args.bytes.now.ok.0 (c.put_unsigned.new.bytes.ok.0 ∙ ap length middle) (c.in_err-put_units.ensures.err ∙ middle))

-- the parts of an entry
parts : (heap begin count units all : List ℕ) (last : ℕ) → heap ≡ all ++ units → all ≡ begin ++ count → heap ++ last ∷ [] ≡ begin ++ (count ++ (units ++ last ∷ []))
parts heap begin count units all last is starts = rw (is, starts) (simp append_assoc)

pub returns-clause-ok : goal.returns-clause-ok
unfolding user_entry
returns-clause-ok c =
    let count = short_unsigned (user_length c.args.units.now) in
    let middle : c.put_unsigned.new.bytes.items ≡ begun c.args.bytes.now.items ++ count = c.in_ok-put_unsigned.ensures.ok ∙ ap (λ (l : List ℕ). l ++ count) c.in_ok-begin.ensures.ok in
    c.in_ok-push.ensures.items ∙ ap (λ n. c.put_units.new.bytes.items ++ n ∷ []) c.last_byte_of.ensures
    ∙ parts c.put_units.new.bytes.items (begun c.args.bytes.now.items) count (flat_map unit_bytes c.args.units.now) c.put_unsigned.new.bytes.items (last_byte c.args.units.now) c.in_ok-put_units.ensures.ok middle
