use Rattle.std.proofs.Common.{◌∙◌, ◌+◌, ℕ, ap, sym, subst, inl, inr, arith}
use Rattle.packed.proofs.RuleLemmas.{all_append, fails_back}
use Rattle.packed.specs.Rule.{fault}
use Rattle.packed.specs.declared.code.FaultCode.TheVariants.{MetadataAddress}
use Rattle.cli_header.specs.declared.header.DataDirectory.{DataDirectory}
use Rattle.cli_header.specs.Rules.{HasFileOffset, rules_of_directory, rules_of_fields}
use Rattle.cli_header.proofs.CliLemmas.{split_off, enough_read, metadata_read, header_is}
use Rattle.cli_header.proofs.header.check_cli.Goals as goal

pub returns-in_default-clause-reports : goal.returns-in_default-clause-reports
returns-in_default-clause-reports c =
    let image = c.args.pe.now in
    let bytes = split_off image c.in_ok-place.place c.bytes.result.now c.split_at.result.1.now c.split_at-2.result.0.now c.in_ok-place.ensures.place c.bytes.ensures c.split_at.ensures.back c.split_at-2.ensures.front in
    let enough = enough_read image c.split_at-2.result.0.now c.u32_at-cb.result bytes c.u32_at-cb.ensures.value (omega arith) in
    let is = metadata_read image c.split_at-2.result.0.now c.read-metadata.result bytes c.read-metadata.ensures in
    let SourceAt : DataDirectory → Type 0 = λ d. HasFileOffset image d.rva d.size in
    fails_back (rules_of_directory image) (rules_of_fields image) c.new-in_default.result c.in_ok-place.ensures.reports
    (inr (enough, inl ((λ has. let at = subst SourceAt (sym is) has in c.in_default.ensures.complete at.0 at.1), c.new-in_default.ensures ∙ ap (λ (p : ℕ). fault MetadataAddress (p + 8)) c.in_ok-place.ensures.place)))

pub returns-clause-reports : goal.returns-clause-reports
returns-clause-reports c =
    let image = c.args.pe.now in
    let bytes = split_off image c.in_ok-place.place c.bytes.result.now c.split_at.result.1.now c.split_at-2.result.0.now c.in_ok-place.ensures.place c.bytes.ensures c.split_at.ensures.back c.split_at-2.ensures.front in
    let enough = enough_read image c.split_at-2.result.0.now c.u32_at-cb.result bytes c.u32_at-cb.ensures.value (omega arith) in
    let is = metadata_read image c.split_at-2.result.0.now c.read-metadata.result bytes c.read-metadata.ensures in
    let SourceAt : DataDirectory → Type 0 = λ d. HasFileOffset image d.rva d.size in
    all_append (rules_of_directory image) (rules_of_fields image) c.in_ok-place.ensures.reports (enough, (subst SourceAt is (c.in-Some.root.start, c.in-Some.ensures.sound.0), tt))

pub returns-clause-header : goal.returns-clause-header
returns-clause-header c =
    let image = c.args.pe.now in
    let bytes = split_off image c.in_ok-place.place c.bytes.result.now c.split_at.result.1.now c.split_at-2.result.0.now c.in_ok-place.ensures.place c.bytes.ensures c.split_at.ensures.back c.split_at-2.ensures.front in
    header_is image c.split_at-2.result.0.now _ (record {
      bytes_are = bytes;
      place = c.in_ok-place.ensures.place;
      cb = c.u32_at-cb.ensures.value;
      major = c.u16_at.ensures.value;
      minor = c.u16_at-2.ensures.value;
      metadata_is = c.read-metadata.ensures;
      flags = c.u32_at.ensures.value;
      entry_point = c.u32_at-2.ensures.value;
      resources = c.read.ensures;
      strong_name = c.read-2.ensures;
      code_manager = c.read-3.ensures;
      vtable = c.read-4.ensures;
      export_jumps = c.read-5.ensures;
      native = c.read-6.ensures;
      root = c.in-Some.ensures.sound.0;
      root_end = c.in-Some.ensures.sound.1;
    })
