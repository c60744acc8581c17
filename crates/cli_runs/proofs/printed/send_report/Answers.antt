use Rattle.cli_runs.proofs.Prelude.{◌∙◌, ap, rules, style}
use Rattle.cli_runs.proofs.Reporting.{all_reported, handed}
use Rattle.cli_runs.proofs.printed.send_report.Goals as goal

pub returns-in_default : goal.returns-in_default
returns-in_default g c =
    rw c.and.ensures (all_reported c.args.job.now.request.now g.W.Write.contents c.args.out.now c.finish-writer.result.0.now _ c.args.job.now.name.now c.args.job.now.bytes.now
    c.named-printer.result c.print_report-ended.new.out (c.named-printer.ensures.style ∙ ap (style c.args.job.now.request.now.form) c.lead_of-lead.ensures) c.named-printer.ensures.asked
    (λ keeps. search (rules, keeps)) c.finish-writer.result.1 c.finish-writer.ensures.sent c.finish-writer.ensures.complete c.finish-writer.ensures.failed
    c.print_report-ended.result c.in_default.not-Refused (handed c.args.job.now _ _ _ _ c.print_report-ended.ensures))
