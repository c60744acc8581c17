use Rattle.std.proofs.lemmas.Result.{err_from_is_err_and, IfOk-weaker}
use Rattle.opening.proofs.Files.{heads_break, heads_root, before_cells_report, source_is}
use Rattle.opening.proofs.image.read_source_of_image.Goals as goal

pub returns-in_err-heads-clause-reports : goal.returns-in_err-heads-clause-reports
returns-in_err-heads-clause-reports c =
    let p = err_from_is_err_and c.from_residual.result c.from_residual.ensures.1 in
    rw (p.1, p.2) (heads_break c.args.file.now c.in_err-heads.field-0.0 c.in_err-heads.ensures.reports)

pub returns-clause-reports : goal.returns-clause-reports
returns-clause-reports c =
    before_cells_report c.args.file.now c.in_ok-heads.heads.header c.root_of-root.result.now c.in_ok-heads.ensures.header c.root_of-root.ensures c.read_source.result
    c.in_ok-heads.ensures.reports c.read_source.ensures.reports

pub returns-clause-source : goal.returns-clause-source
returns-clause-source c =
    IfOk-weaker c.read_source.result _ _
    (λ source. source_is c.args.file.now c.in_ok-heads.heads.header c.root_of-root.result.now c.in_ok-heads.ensures.header c.root_of-root.ensures source)
    c.read_source.ensures.source

pub read_source-requires-clause-held : goal.read_source-requires-clause-held
read_source-requires-clause-held c =
    heads_root c.args.file.now c.in_ok-heads.heads.header c.root_of-root.result.now c.in_ok-heads.ensures.header c.root_of-root.ensures c.in_ok-heads.ensures.reports
