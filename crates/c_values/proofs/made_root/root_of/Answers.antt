use Rattle.c_values.proofs.Prelude.{ap, ◌∙◌, IfErr-weaker, IfOk-weaker, canonical}
use Rattle.c_values.proofs.ReasonLemmas.{valid_accepted}
use Rattle.c_values.proofs.made_root.root_of.Goals as goal

pub returns-clause-complete : goal.returns-clause-complete
returns-clause-complete c = λ model is.
    let one = c.given_metadata_is_one.ensures c.args.version.now c.args.user.now c.args.rows.now in
    IfOk-weaker c.make_root.result _ _ (λ root it. it.3 ∙ ap canonical (one it.0 model it.1 is)) c.make_root.ensures.sound

pub returns-clause-accepted : goal.returns-clause-accepted
returns-clause-accepted c = λ model is valid.
    let one = c.given_metadata_is_one.ensures c.args.version.now c.args.user.now c.args.rows.now in
    let never = c.refused_metadata_is_not_valid.ensures c.args.version.now c.args.user.now c.args.rows.now in
    IfErr-weaker c.make_root.result _ _
    (λ reason it. valid_accepted c.args.version.now c.args.user.now c.args.rows.now model (λ refusal. never refusal model) (λ other there. one other model there is) reason it is valid)
    c.make_root.ensures.refused
