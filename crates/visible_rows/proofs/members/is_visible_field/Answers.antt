use Rattle.visible_rows.proofs.Prelude.{◌∙◌, ap, cell_in, Field, access_in, is_open_member, owner_in}
use Rattle.metadata.specs.declared.member_lists.MemberList.TheVariants as list
use Rattle.visible_rows.proofs.OwnerLemmas.{owner_is}
use Rattle.visible_rows.proofs.ResultLemmas.{member_is}
use Rattle.visible_rows.proofs.members.is_visible_field.Goals as goal

pub returns-then-is_open_member : goal.returns-then-is_open_member
returns-then-is_open_member c = λ model is.
    let owner = owner_is model list.Fields ((c.holds_one.ensures.valid model is).linked.owned list.Fields) c.args.row c.type_of_field.result (c.type_of_field.ensures.sound model is) in
    member_is c.args.source.now.view.now c.args.types.now c.requires.types model is c.type_of_field.result (owner_in model list.Fields c.args.row) (access_in (cell_in model Field c.args.row 0))
    c.is_open_member.result c.type_of_field.ensures.last owner (c.is_open_member.ensures ∙ ap is_open_member (c.access.ensures model is)) c.if-is_open_member.true
