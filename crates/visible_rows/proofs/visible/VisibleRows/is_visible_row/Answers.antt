use Rattle.visible_rows.proofs.Prelude.{◌∙◌, ◌≤◌, ℕ, List, ap, subst, sym, TableId, Event, Property, IsModel, row_count, is_visible_method, is_visible_row}
use Rattle.metadata.specs.declared.member_lists.MemberList.TheVariants as list
use Rattle.visible_rows.proofs.OwnerLemmas.{owner_is}
use Rattle.visible_rows.proofs.ResultLemmas.{read_accessed, read_type}
use Rattle.visible_rows.proofs.visible.VisibleRows.is_visible_row.Goals as goal

pub returns-in-TypeDef : goal.returns-in-TypeDef
returns-in-TypeDef c = λ model is.
    let last = subst (λ (t : TableId). c.args.of.row ≤ row_count c.args.self.now.view.now t) c.in-TypeDef.is c.requires.last in
    read_type c.args.self.now.view.now c.args.self.now.types.items c.args.self.now.types_known model is c.args.of.row c.index.result.now last c.index.ensures
    ∙ sym (ap (λ (t : TableId). is_visible_row model t c.args.of.row) c.in-TypeDef.is)

pub returns-in-Param : goal.returns-in-Param
returns-in-Param c = λ model is.
    let there = subst (λ (root : List ℕ). IsModel root model) (sym c.requires.same) is in
    let valid = c.models_of_roots_are_valid.ensures c.args.self.now.view.now model is in
    let method = owner_is model list.Params (valid.linked.owned list.Params) c.args.of.row c.method_of_param.result (c.method_of_param.ensures.sound model there) in
    c.is_visible_method-in-Param.ensures model there ∙ ap (is_visible_method model) (sym method)
    ∙ sym (ap (λ (t : TableId). is_visible_row model t c.args.of.row) c.in-Param.is)

pub returns-in-Event : goal.returns-in-Event
returns-in-Event c = λ model is.
    let row = c.args.of.row in
    let last = subst (λ (t : TableId). row ≤ row_count c.args.self.now.view.now t) c.in-Event.is c.requires.last in
    read_accessed c.args.self.now.view.now Event c.args.self.now.events.items c.args.self.now.events_known model is row c.index-in-Event.result.now c.requires.first last c.index-in-Event.ensures
    ∙ sym (ap (λ (t : TableId). is_visible_row model t row) c.in-Event.is)

pub returns-in-Property : goal.returns-in-Property
returns-in-Property c = λ model is.
    let rows = c.args.self.now in
    let last = subst (λ (t : TableId). c.args.of.row ≤ row_count rows.view.now t) c.in-Property.is c.requires.last in
    read_accessed rows.view.now Property rows.properties.items rows.properties_known model is c.args.of.row c.index-in-Property.result.now c.requires.first last c.index-in-Property.ensures
    ∙ sym (ap (λ (t : TableId). is_visible_row model t c.args.of.row) c.in-Property.is)
