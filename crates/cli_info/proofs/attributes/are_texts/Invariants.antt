use Rattle.cli_info.proofs.Prelude.{◌≡◌, list_all, are_texts, is_text}
use Rattle.blob_values.specs.Steps.{value_items}
use Rattle.cli_info.proofs.attributes.are_texts.Given as goal

abbrev pub invariant-loop-item : goal.invariant-loop-item
invariant-loop-item l = list_all is_text l.item-iterator ≡ are_texts (value_items l.params l.blob)
