use Rattle.embedding.proofs.Prelude.{ap, ◌∙◌, length, changed, with_bytes, certificate_changes, copied, strong_name_changes, with_checksum, metadata_changes, slot_changes, root_bytes, target_in}
use Rattle.embedding.proofs.Written.{changed_in_parts}
use Rattle.embedding.proofs.plan.EmbedPlan.put_changes.Goals as goal

pub returns : goal.returns
returns c =
    let plan = c.args.self.now in
    let target = target_in plan in
    c.put_checksum.ensures
    ∙ ap (with_checksum plan.file) (c.put_root.ensures
    ∙ ap (with_bytes target.start (root_bytes plan.root plan.header plan.slot)) (c.put_certificate.ensures
    ∙ ap (changed (certificate_changes plan.file)) (c.put_strong_name.ensures
    ∙ ap (changed (strong_name_changes plan.header plan.strong_name)) (c.put_metadata.ensures
    ∙ ap (changed (metadata_changes plan.header (length plan.root) target)) (c.put_slot.ensures
    ∙ ap (changed (slot_changes plan.file (length plan.root) plan.slot target)) c.requires.copied)))
    ∙ changed_in_parts plan (copied plan.file target)))
