use Rattle.root.proofs.Prelude.{reports_first, rules_of_root}
use Rattle.root.proofs.RootLemmas.{root_meets, reports_all, reports_found, reports_only}
use Rattle.root.proofs.root.read_root.Goals as goal

pub returns-clause-sound : goal.returns-clause-sound
returns-clause-sound c = reports_found c.args.bytes.now c.check_root.result c.check_root.ensures.reports c.check_root.ensures.root

pub returns-clause-complete : goal.returns-clause-complete
returns-clause-complete c = λ version headers small is.
    reports_only c.args.bytes.now version headers c.check_root.result c.check_root.ensures.reports c.check_root.ensures.root (root_meets c.args.bytes.now version headers small is)

pub returns-clause-all : goal.returns-clause-all
returns-clause-all c = reports_all c.args.bytes.now c.check_root.result c.check_root.ensures.reports c.check_root.ensures.root

pub returns-clause-first_error : goal.returns-clause-first_error
returns-clause-first_error c = reports_first (rules_of_root c.args.bytes.now) c.check_root.result c.check_root.ensures.reports
