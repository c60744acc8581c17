use Rattle.heaps.proofs.Prelude.{◌≡◌, ◌≤◌, ◌<◌, ◌^◌, All, length, sym, subst, ◌∙◌, ap, refl, true≢false, pooled, guid_heap, pooled_guid}
use Rattle.heaps.proofs.GuidLemmas.{fits_itself, pooled_sixteen, pooled_fits, inserted_is}
use Rattle.heaps.proofs.guid_pool.GuidPool.add.Goals as goal

pub returns-in_default-clause-full : goal.returns-in_default-clause-full
returns-in_default-clause-full c = (
  λ full. cc,
  λ long.
      let same : 2 ^ 30 < length (guid_heap c.args.self.now) = subst (λ guid. 2 ^ 30 < length (guid_heap (pooled_guid c.args.self.now guid))) c.in_default.is long in
      absurd (fits_itself c.self.inside.guids.keys c.self.invariant.sixteen c.self.invariant.fits (subst (λ guids. 2 ^ 30 < length (guid_heap guids)) (sym c.self.view_is) same)),
)

pub returns-then-is_full-clause-known : goal.returns-then-is_full-clause-known
returns-then-is_full-clause-known c = λ known.
    let same : pooled c.self.inside.guids.keys c.in-Some.guid ≡ c.self.inside.guids.keys =
    ap (λ guids. pooled guids c.in-Some.guid) c.self.view_is ∙ sym (ap (pooled_guid c.args.self.now) c.in-Some.is) ∙ known ∙ sym c.self.view_is in
    absurd (fits_itself c.self.inside.guids.keys c.self.invariant.sixteen c.self.invariant.fits
    (subst (λ guids. 2 ^ 30 < length (guid_heap guids)) same (c.if-is_full.ensures.full.0 refl)))

pub invariant_of-self-2 : goal.invariant_of-self-2
invariant_of-self-2 c =
    let guids = c.self.inside.guids.keys in
    let is = c.in_ok-index.ensures.keys ∙ inserted_is guids c.in-Some.guid c.self.invariant.sixteen c.self.invariant.fits c.is_full.ensures.long in
    record {
      sixteen = subst (All (λ guid. length guid ≡ 16)) (sym is) (pooled_sixteen guids c.in-Some.guid c.self.invariant.sixteen c.self.invariant.fits c.is_full.ensures.long);
      fits = subst (λ keys. length keys ≤ 2 ^ 26) (sym is) (pooled_fits guids c.in-Some.guid c.self.invariant.sixteen c.self.invariant.fits c.is_full.ensures.long
          (λ long. true≢false (sym (c.if-is_full.ensures.full.1 long))));
    }
