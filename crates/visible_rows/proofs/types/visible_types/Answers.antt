use Rattle.visible_rows.proofs.Prelude.{◌≡◌, ◌∙◌, ◌+◌, ◌<◌, ◌++◌, ◌∷◌, [], List, Bool, false, ap, arith, length, map, refl, range_with_len, get_or_read, length_push, TypeDef, Metadata, row_count, is_visible_type, is_visible_within}
use Rattle.visible_rows.proofs.ResultLemmas.{results_more}
use Rattle.visible_rows.proofs.types.visible_types.Goals as goal

-- no type is in row 0
in_row_0 : (model : Metadata) → false ≡ is_visible_type model 0
unfolding is_visible_within
in_row_0 model = refl

pub loop-earlier-init : goal.loop-earlier-init
loop-earlier-init c =
    let first = c.in_ok-push.ensures.items ∙ ap (λ (types : List Bool). types ++ false ∷ []) c.in_ok-visible.ensures.items in
    record {
      long = ap length first;
      are = λ model is. first ∙ ap (λ (visible : Bool). visible ∷ []) (in_row_0 model);
    }

pub loop-earlier-preserved : goal.loop-earlier-preserved
loop-earlier-preserved c =
    let earlier = c.loop-earlier.earlier in
    let types = c.loop-earlier.visible.items in
    let pushed = c.in_ok-push-2.ensures.items in
    record {
      long = ap length pushed ∙ length_push types c.is_visible_type-is_visible.result ∙ ap (λ n. n + 1) c.loop-earlier.invariant.long;
      are = λ model is.
          let within : earlier < length c.in_ok-outers.outers.items = omega (arith, c.in_ok-outers.ensures.len, c.count-count.ensures.rows, c.loop-earlier-test.true) in
          let outer = get_or_read c.in_ok-outers.outers.items earlier c.index-outer.result.now within c.index-outer.ensures 0 ∙ c.in_ok-outers.ensures.outers model is earlier within in
          let before = c.loop-earlier.invariant.are model is in
          let result = c.is_visible_type-is_visible.ensures model is outer (c.deref.ensures.value ∙ before) in
          results_more (is_visible_type model) 0 (earlier + 1) (earlier + 1) types _ c.is_visible_type-is_visible.result before pushed (omega arith) result;
    }

pub returns : goal.returns
returns c =
    let all : c.loop-earlier.earlier ≡ row_count c.args.view.now TypeDef = omega (arith, c.loop-earlier.auto.earlier-end, c.loop-earlier-test.false, c.count-count.ensures.rows) in
    record {
      long = c.loop-earlier.invariant.long ∙ ap (λ n. n + 1) all;
      are = λ model is. c.loop-earlier.invariant.are model is ∙ ap (λ n. map (is_visible_type model) (range_with_len 0 (n + 1))) all;
    }
