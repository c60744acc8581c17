use Rattle.comparison.proofs.Prelude.{both_ways, ◌∙◌, sym}
use Rattle.comparison.proofs.OutlineLemmas.{outline_counts, outline_user, outline_version, parts_differ, parts_same}
use Rattle.comparison.proofs.all.outline_difference.Goals as goal

pub returns-then-ne-clause-first : goal.returns-then-ne-clause-first
returns-then-ne-clause-first c = λ first second is also.
    outline_version first second (λ same. parts_differ c.version.result.now c.version-2.result.now c.ne.result c.ne.ensures c.if-ne.true
    (c.version.ensures first is ∙ same ∙ sym (c.version-2.ensures second also)))

pub returns-then-not-same_padded-clause-first : goal.returns-then-not-same_padded-clause-first
returns-then-not-same_padded-clause-first c = λ first second is also.
    let versions = sym (c.version.ensures first is) ∙ parts_same c.version.result.now c.version-2.result.now c.ne.result c.ne.ensures c.if-ne.false ∙ c.version-2.ensures second also in
    outline_user first second versions
    (λ same. both_ways _ c.if-not-same_padded.true (c.same_padded.ensures.1 (c.user.ensures.model first is ∙ same ∙ sym (c.user-2.ensures.model second also))))

pub returns-clause-first : goal.returns-clause-first
returns-clause-first c = λ first second is also.
    let versions = sym (c.version.ensures first is) ∙ parts_same c.version.result.now c.version-2.result.now c.ne.result c.ne.ensures c.if-ne.false ∙ c.version-2.ensures second also in
    let users = sym (c.user.ensures.model first is) ∙ c.same_padded.ensures.0 c.if-not-same_padded.false ∙ c.user-2.ensures.model second also in
    rw (outline_counts first second versions users) (c.count_difference.ensures.first first second is also)

pub returns-clause-none : goal.returns-clause-none
returns-clause-none c = λ first second is also.
    let versions = sym (c.version.ensures first is) ∙ parts_same c.version.result.now c.version-2.result.now c.ne.result c.ne.ensures c.if-ne.false ∙ c.version-2.ensures second also in
    let users = sym (c.user.ensures.model first is) ∙ c.same_padded.ensures.0 c.if-not-same_padded.false ∙ c.user-2.ensures.model second also in
    rw (outline_counts first second versions users) (c.count_difference.ensures.none first second is also)
