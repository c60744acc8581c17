-- The owner of a member (ECMA-335 II.22.12, II.22.26, II.22.35 and II.22.37).
use Rattle.std.specs.Prelude.{ℕ, ◌<◌, ◌≤◌}
use Rattle.metadata.specs.Metadata.{Metadata}
use Rattle.metadata.specs.Lookups.{HasRow, IsRun}
use Rattle.metadata.specs.declared.member_lists.MemberList.{MemberList}
use Rattle.metadata.specs.MemberLists.{owner_of, cell_of, member_of}

-- a row owns a member: the member is in the run of the row
pub record Owns (model : Metadata) (list : MemberList) (row member : ℕ) : Type 0 where
  pub there : HasRow model (owner_of list) row
  pub first : ℕ
  pub past : ℕ
  pub run : IsRun model (owner_of list) (cell_of list) (member_of list) row first past
  pub from : first ≤ member
  pub to : member < past
