use Rattle.visible_rows.proofs.DescribedLemmas.{no_subject}
use Rattle.visible_rows.proofs.declaring.subject_of.Goals as goal

pub returns-in_default-clause-value : goal.returns-in_default-clause-value
returns-in_default-clause-value c = λ model is.
    let not = c.in_default in
    no_subject model c.args.of.table c.args.of.row not.not-InterfaceImpl not.not-GenericParam not.not-GenericParamConstraint not.not-MethodImpl not.not-ImplMap not.not-DeclSecurity not.not-CustomAttribute
