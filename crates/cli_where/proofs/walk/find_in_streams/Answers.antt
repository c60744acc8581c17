use Rattle.cli_where.proofs.Prelude.{◌≡◌, arith, subst, Finds, Heap, AreInStream, adds_find, broken_layer, finds_then, whole_layer}
use Rattle.schema.specs.Header.{sizes_of}
use Rattle.schema.specs.Rules.{rules_of_stream}
use Rattle.cli_where.proofs.walk.find_in_streams.Goals as goal

pub returns-in_default : goal.returns-in_default
returns-in_default c =
    subst (λ (heap : Heap). Finds (AreInStream c.args.reach c.args.start c.args.root.now heap) c.args.found.now c.args.found.now) c.heap_in-tables.ensures.heap
    (broken_layer (rules_of_stream c.heap_in-tables.result.bytes.now) c.in_default.field-0 c.args.found.now c.in_default.ensures.first_error)

pub find_table_stream-requires-clause-room : goal.find_table_stream-requires-clause-room
find_table_stream-requires-clause-room c =
    let is = c.in-Ok.ensures.sound in
    (c.streams_are_read.ensures.rules_hold c.heap_in-tables.result.bytes.now c.in-Ok.layout is.0 is.1).0

pub find_cell-requires-clause-small : goal.find_cell-requires-clause-small
find_cell-requires-clause-small c =
    let is = c.in-Ok.ensures.sound in
    let within = c.tables_end_within.ensures c.heap_in-tables.result.bytes.now c.in-Ok.layout is.0 is.1 in
    omega (arith, within, c.heap_in-tables.ensures.low.size)

pub returns : goal.returns
returns c =
    let is = c.in-Ok.ensures.sound in
    let stream = c.heap_in-tables.result.bytes.now in
    let sizes : c.in-Ok.layout ≡ sizes_of stream = c.streams_are_read.ensures.said stream c.in-Ok.layout is.0 is.1 in
    let heaps = rw (c.new.ensures, sizes) at c.find_in_heaps.ensures in
    subst (λ (heap : Heap). Finds (AreInStream c.args.reach c.args.start c.args.root.now heap) c.args.found.now c.find_in_heaps.new.found) c.heap_in-tables.ensures.heap
    (whole_layer (rules_of_stream stream) (c.streams_are_read.ensures.rules_hold stream c.in-Ok.layout is.0 is.1)
    (finds_then (finds_then (adds_find c.find_table_stream.ensures) (rw sizes at c.find_cell.ensures)) heaps))
