use Rattle.custom_attributes.proofs.Prelude.{◌≡◌, ◌+◌, ◌-◌, Metadata, instance_type}
use Rattle.custom_attributes.proofs.enums.instance_type.Given as goal

-- all fields so far are static
abbrev pub invariant-loop-done : goal.invariant-loop-done
invariant-loop-done g l = (model : Metadata) → g.S.ReadMetadata.shows l.source model → instance_type model (l.count - l.done) (l.first + l.done) ≡ instance_type model l.count l.first
