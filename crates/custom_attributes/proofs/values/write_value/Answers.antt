use Rattle.custom_attributes.proofs.TextPrelude.{◌∙◌, ap, items_text, value_text}
use Rattle.custom_attributes.proofs.ItemLemmas.{value_read}
use Rattle.custom_attributes.proofs.WriterLemmas.{writes_same}
use Rattle.custom_attributes.proofs.values.write_value.Goals as goal

pub returns : goal.returns
returns g c = λ v same.
    writes_same g.W.Write.write_str_gives c.args.out.now c.write_items.new.out (items_text 0 c.args.items) (value_text v) c.write_items.result (ap (items_text 0) same ∙ value_read v) c.write_items.ensures
