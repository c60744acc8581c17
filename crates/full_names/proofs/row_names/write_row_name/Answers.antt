use Rattle.full_names.proofs.Prelude.{refl, arith, Field, MethodDef, Event, Property, MemberRef, IsNameIn, IsRowNameBy, IsMemberName}
use Rattle.full_names.proofs.PieceLemmas.{on_wrote}
use Rattle.full_names.proofs.RowNameLemmas.{plain_name, row_named}
use Rattle.full_names.proofs.row_names.write_row_name.Goals as goal

pub returns-in-Field : goal.returns-in-Field
returns-in-Field g c = λ model shown.
    let rows = c.holds_one.ensures.rows model shown c.args.token.table in
    let class = c.type_token-class.result in
    let own = c.text-name in
    on_wrote g.W.Write.write_str_gives (IsMemberName g.L.Limit.scopes model class own.result.now) (IsRowNameBy g.L.Limit.scopes model c.args.token) _ _ c.write_member_name.result (c.write_member_name.ensures model shown)
    (λ text is. row_named g.L.Limit.scopes model Field c.args.token c.in-Field.is (omega (arith, c.if-token-eq0.false)) (omega (arith, c.if-token-count.false, c.count.ensures.rows, rows)) text
    (class, (c.type_of_field.result, c.type_of_field.ensures.sound model shown, c.type_token-class.ensures), (own.result.now, own.ensures model shown, is)))

pub returns-in-MethodDef : goal.returns-in-MethodDef
returns-in-MethodDef g c = λ model shown.
    let rows = c.holds_one.ensures.rows model shown c.args.token.table in
    let class = c.type_token-class-in-MethodDef.result in
    let own = c.text-name-in-MethodDef in
    on_wrote g.W.Write.write_str_gives (IsMemberName g.L.Limit.scopes model class own.result.now) (IsRowNameBy g.L.Limit.scopes model c.args.token) _ _ c.write_member_name-in-MethodDef.result (c.write_member_name-in-MethodDef.ensures model shown)
    (λ text is. row_named g.L.Limit.scopes model MethodDef c.args.token c.in-MethodDef.is (omega (arith, c.if-token-eq0.false)) (omega (arith, c.if-token-count.false, c.count.ensures.rows, rows)) text
    (class, (c.type_of_method.result, c.type_of_method.ensures.sound model shown, c.type_token-class-in-MethodDef.ensures), (own.result.now, own.ensures model shown, is)))

pub returns-in-Event : goal.returns-in-Event
returns-in-Event g c = λ model shown.
    let rows = c.holds_one.ensures.rows model shown c.args.token.table in
    let class = c.type_token-class-in-Event.result in
    let own = c.text-name-in-Event in
    on_wrote g.W.Write.write_str_gives (IsMemberName g.L.Limit.scopes model class own.result.now) (IsRowNameBy g.L.Limit.scopes model c.args.token) _ _ c.write_member_name-in-Event.result (c.write_member_name-in-Event.ensures model shown)
    (λ text is. row_named g.L.Limit.scopes model Event c.args.token c.in-Event.is (omega (arith, c.if-token-eq0.false)) (omega (arith, c.if-token-count.false, c.count.ensures.rows, rows)) text
    (class, (let of = c.type_of_event.ensures.sound model shown in (c.type_of_event.result, of.0, of.1, of.2, c.type_token-class-in-Event.ensures)), (own.result.now, own.ensures model shown, is)))

pub returns-in-Property : goal.returns-in-Property
returns-in-Property g c = λ model shown.
    let rows = c.holds_one.ensures.rows model shown c.args.token.table in
    let class = c.type_token-class-in-Property.result in
    let own = c.text-name-in-Property in
    on_wrote g.W.Write.write_str_gives (IsMemberName g.L.Limit.scopes model class own.result.now) (IsRowNameBy g.L.Limit.scopes model c.args.token) _ _ c.write_member_name-in-Property.result (c.write_member_name-in-Property.ensures model shown)
    (λ text is. row_named g.L.Limit.scopes model Property c.args.token c.in-Property.is (omega (arith, c.if-token-eq0.false)) (omega (arith, c.if-token-count.false, c.count.ensures.rows, rows)) text
    (class, (let of = c.type_of_property.ensures.sound model shown in (c.type_of_property.result, of.0, of.1, of.2, c.type_token-class-in-Property.ensures)), (own.result.now, own.ensures model shown, is)))

pub returns-in-MemberRef : goal.returns-in-MemberRef
returns-in-MemberRef g c = λ model shown.
    let rows = c.holds_one.ensures.rows model shown c.args.token.table in
    on_wrote g.W.Write.write_str_gives (IsNameIn g.L.Limit.scopes model MemberRef c.args.token.row) (IsRowNameBy g.L.Limit.scopes model c.args.token) _ _ c.write_member_ref.result (c.write_member_ref.ensures model shown)
    (row_named g.L.Limit.scopes model MemberRef c.args.token c.in-MemberRef.is (omega (arith, c.if-token-eq0.false)) (omega (arith, c.if-token-count.false, c.count.ensures.rows, rows)))

pub returns-in_ok-write_plain-in_default : goal.returns-in_ok-write_plain-in_default
returns-in_ok-write_plain-in_default g c = λ model shown.
    let rows = c.holds_one.ensures.rows model shown c.args.token.table in
    let wrote = c.in_ok-write_plain-in_default.ensures model shown in
    let not = c.in_default in (
      wrote.0,
      row_named g.L.Limit.scopes model c.args.token.table c.args.token refl (omega (arith, c.if-token-eq0.false)) (omega (arith, c.if-token-count.false, c.count.ensures.rows, rows)) wrote.0
          (plain_name g.L.Limit.scopes model c.args.token.table c.args.token.row wrote.0 not.not-TypeDef not.not-TypeRef not.not-TypeSpec not.not-Field not.not-MethodDef not.not-Event not.not-Property not.not-MemberRef wrote.1),
      wrote.2,
    )
