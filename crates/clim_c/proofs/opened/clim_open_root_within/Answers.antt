use Rattle.clim_c.proofs.opened.clim_open_root_within.Goals as goal

pub returns-in-Err-Fault-clause-complete : goal.returns-in-Err-Fault-clause-complete
returns-in-Err-Fault-clause-complete c = λ model is fits. let opened = c.in-Err-Fault.ensures.complete model is fits in absurd cc

pub returns-in-Err-BudgetSpent-clause-complete : goal.returns-in-Err-BudgetSpent-clause-complete
returns-in-Err-BudgetSpent-clause-complete c = λ model is fits. let opened = c.in-Err-BudgetSpent.ensures.complete model is fits in absurd cc
