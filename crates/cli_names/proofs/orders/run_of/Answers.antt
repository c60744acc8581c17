use Rattle.cli_names.proofs.Prelude.{arith, le-leb, count_in, member_of, owner_of, row_count}
use Rattle.std.proofs.Math.Logic.{∥∥₁_elim}
use Rattle.std.specs.Coded.{le_prop}
use Rattle.cli_names.proofs.RunLemmas.{run_ends, run_to, start_from}
use Rattle.cli_names.proofs.orders.run_of.Goals as goal

pub returns-clause-first : goal.returns-clause-first
unfolding row_count
returns-clause-first c = ∥∥₁_elim c.view-view.ensures.model le_prop (λ some.
    let count = c.models_are_read.ensures.count c.args.cells.now some.0 some.1 (owner_of c.args.list) in
    rw (c.run.ensures.run some.0 some.1).start at
    (start_from some.0 c.args.list ((c.models_of_roots_are_valid.ensures c.args.cells.now some.0 some.1).linked.owned c.args.list)
    c.args.row c.requires.first (omega (arith, count, c.requires.last))))

pub returns-clause-last : goal.returns-clause-last
unfolding row_count
returns-clause-last c = ∥∥₁_elim c.view-view.ensures.model le_prop (λ some.
    let count = c.models_are_read.ensures.count c.args.cells.now some.0 some.1 (owner_of c.args.list) in
    let members = c.models_are_read.ensures.count c.args.cells.now some.0 some.1 (member_of c.args.list) in
    let past = run_to some.0 c.args.list c.args.row _ _ c.requires.first (omega (arith, count, c.requires.last)) (c.run.ensures.run some.0 some.1) (c.models_of_roots_are_valid.ensures c.args.cells.now some.0 some.1) in
    omega (arith, past, members))

pub returns-clause-begin : goal.returns-clause-begin
unfolding row_count
returns-clause-begin c = λ model is.
    let count = c.models_are_read.ensures.count c.args.cells.now model is (owner_of c.args.list) in
    rw (le-leb c.args.row (count_in model (owner_of c.args.list)) (omega (arith, count, c.requires.last)), (c.run.ensures.run model is).start)

pub returns-clause-past : goal.returns-clause-past
unfolding row_count
returns-clause-past c = λ model is.
    let count = c.models_are_read.ensures.count c.args.cells.now model is (owner_of c.args.list) in
    run_ends model c.args.list c.args.row _ _ c.requires.first (omega (arith, count, c.requires.last)) (c.run.ensures.run model is)
