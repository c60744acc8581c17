use Rattle.cli_regions.proofs.Prelude.{◌+◌, ◌*◌, ◌≤◌, drop, map, fields_from, seen_field, Completes}
use Rattle.cli_regions.proofs.fields.find_fields.Given as goal

abbrev pub invariant-loop-field : goal.invariant-loop-field
invariant-loop-field l = record {
  left : Completes l.initial.found l.found (fields_from l.word l.next (map seen_field (drop l.field-index l.fields))) (fields_from l.word l.start (map seen_field l.fields));
  low : l.next ≤ l.start + 0x100000000 * l.field-index;
}
