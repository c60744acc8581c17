use Rattle.navigation.proofs.Prelude.{◌+◌, ◌-◌, ◌<◌, ◌≤◌, Metadata, count_in, owner_of}
use Rattle.navigation.proofs.OwnerLemmas.{start_of}
use Rattle.navigation.proofs.owners.owner.Given as goal

abbrev pub invariant-loop-past : goal.invariant-loop-past
invariant-loop-past g l = record {
  first : 1 ≤ l.low;
  ordered : l.low < l.past;
  within : l.past ≤ g.S.ReadMetadata.row_count l.source (owner_of l.list) + 1;
  from : (model : Metadata) → g.S.ReadMetadata.shows l.source model → start_of model l.list l.low ≤ l.member;
  to : (model : Metadata) → g.S.ReadMetadata.shows l.source model → l.past ≤ count_in model (owner_of l.list) → l.member < start_of model l.list l.past;
}

abbrev pub decreases-loop-past : goal.decreases-loop-past
decreases-loop-past g l = l.past - l.low
