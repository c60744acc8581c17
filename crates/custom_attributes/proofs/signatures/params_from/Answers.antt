use Rattle.custom_attributes.proofs.Prelude.{◌∙◌, List, [], false, length, ap, sym, arith, Item, if_few, params_from, preceded}
use Rattle.custom_attributes.proofs.ParamLemmas.{all_put, from_none, vector_left}
use Rattle.custom_attributes.proofs.signatures.params_from.Goals as goal

pub loop-item-init : goal.loop-item-init
loop-item-init g c =
    let none = ap length c.none-params.ensures in
    record {
      few = omega (arith, none);
      types = λ model is.
          ap (λ got. if_few (preceded got (params_from model false c.into_iter-item-iterator.result))) c.none-params.ensures
          ∙ from_none (params_from model false c.into_iter-item-iterator.result)
          ∙ ap (λ (items : List Item). if_few (params_from model false items)) c.into_iter-item-iterator.ensures.into_iter_gives;
    }

pub loop-item-preserved : goal.loop-item-preserved
loop-item-preserved g c = record {
  few = c.put_item.ensures.few;
  types = λ model is.
      sym (c.in_ok-vector.ensures.types model is c.next.new.self)
      ∙ ap (λ (items : List Item). if_few (preceded c.loop-item.params (params_from model c.loop-item.vector items))) (sym c.in-Some.ensures.steps)
      ∙ c.loop-item.invariant.types model is;
}

pub returns-then-vector : goal.returns-then-vector
returns-then-vector g c = λ model is.
    let got = c.loop-item.params in
    let none : List Item = [] in
    sym (sym (c.loop-item.invariant.types model is) ∙ ap (λ (items : List Item). if_few (preceded got (params_from model c.loop-item.vector items))) c.in-None.ensures.steps.0
    ∙ ap (λ v. if_few (preceded got (params_from model v none))) c.if-vector.true ∙ vector_left model got)

pub returns-else-vector : goal.returns-else-vector
returns-else-vector g c = λ model is.
    let got = c.loop-item.params in
    let none : List Item = [] in
    sym (sym (c.loop-item.invariant.types model is) ∙ ap (λ (items : List Item). if_few (preceded got (params_from model c.loop-item.vector items))) c.in-None.ensures.steps.0
    ∙ ap (λ v. if_few (preceded got (params_from model v none))) c.if-vector.false ∙ all_put model got c.loop-item.invariant.few)
