use Rattle.cli_roots.proofs.Prelude.{◌∙◌, ap, length, sym, arith, inl, inr, Decides-eqb, compare_text, nil_from_length, OutOfMemory}
use Rattle.cli_sending.proofs.SentLemmas.{prefix_of_nothing}
use Rattle.cli_roots.proofs.compare.compare_views.Goals as goal

pub returns-in_default : goal.returns-in_default
returns-in_default g c = record { shown = inr (OutOfMemory, c.from.ensures.0, tt, λ model another is also. prefix_of_nothing _ _) }

pub print_found-requires : goal.print_found-requires
print_found-requires g c = rw c.deref.ensures.value c.in-Ok.ensures.there

pub returns-in-Err : goal.returns-in-Err
unfolding compare_text
returns-in-Err g c = record {
  shown = inr (
    c.in-Err.failure,
    c.from-in-Err.ensures.0,
    c.in-Err.ensures.failed,
    λ model another is also. rw (← c.in-Ok.ensures.sound model another is also, ← c.deref.ensures.value) (c.in-Err.ensures.printed model another is also),
  );
}

pub returns-in-Ok-print_found : goal.returns-in-Ok-print_found
unfolding compare_text
returns-in-Ok-print_found g c = record {
  shown = λ model another is also.
      let ignored = c.args.options.now.ignored in
      let found = c.in-Ok.ensures.sound model another is also in
      let valid = c.models_of_roots_are_valid.ensures c.args.left.now model is in
      let also_valid = c.models_of_roots_are_valid.ensures c.args.right.now another also in
      let law = c.models_without_other_differences_are_equal_but.ensures ignored model another valid also_valid 20 (omega arith) in
      let zero = (Decides-eqb c.in-Ok.found.len 0).0 (sym c.is_empty.ensures ∙ c.if-is_empty.true) in
      let equal = law.0 (sym found ∙ nil_from_length c.in-Ok.found.items (sym c.in-Ok.found.ok.0 ∙ zero)) in (
        (equal, λ nothing. (c.models_equal_but_for_no_columns_are_equal.ensures.equal ignored model another valid also_valid nothing).0 equal),
        rw (← found, ← c.deref.ensures.value) (c.in-Ok-print_found.ensures.printed model another is also),
      );
}

pub returns : goal.returns
unfolding compare_text
returns g c = record {
  shown = inl (
    c.from-in-Ok-2.ensures.0,
    λ model another is also.
        let found = c.in-Ok.ensures.sound model another is also in
        let valid = c.models_of_roots_are_valid.ensures in
        let law = c.models_without_other_differences_are_equal_but.ensures c.args.options.now.ignored model another (valid _ model is) (valid _ another also) 20 (omega arith) in (
          (λ same.
              let none = ap length (found ∙ law.1 same) in
              let test = sym c.if-is_empty.false ∙ c.is_empty.ensures ∙ (Decides-eqb c.in-Ok.found.len 0).1 (c.in-Ok.found.ok.0 ∙ none) in cc),
          rw (← found, ← c.deref.ensures.value) (c.in-Ok-2.ensures.printed model another is also),
        ),
  );
}
