use Rattle.clim_c.proofs.opened.clim_open_within.Goals as goal

pub returns-in-Err-Fault-clause-complete : goal.returns-in-Err-Fault-clause-complete
returns-in-Err-Fault-clause-complete c = λ header model is fits. absurd (c.in-Err-Fault.ensures.complete header model is fits)

pub returns-in-Err-BudgetSpent-clause-complete : goal.returns-in-Err-BudgetSpent-clause-complete
returns-in-Err-BudgetSpent-clause-complete c = λ header model is fits. absurd (c.in-Err-BudgetSpent.ensures.complete header model is fits)
