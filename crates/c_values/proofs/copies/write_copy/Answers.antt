use Rattle.c_values.proofs.Prelude.{◌≡◌, ◌<◌, length, arith, nat_tests, IfErr-weaker, IfOk-weaker, FirstBroken, rules_of_file, IsCanonicalRootOf}
use Rattle.c_values.proofs.CopyLemmas.{asked_given, asked_own, fault_weaker, given_not_put, own_asked, own_not_put}
use Rattle.c_values.proofs.copies.write_copy.Goals as goal

pub returns-then-is_empty-clause-sound : goal.returns-then-is_empty-clause-sound
returns-then-is_empty-clause-sound c =
    let none : length c.args.root.now ≡ 0 = grind (arith, nat_tests, c.is_empty.ensures, c.if-is_empty.true) in
    let own = asked_own c.args.file.now c.args.root.now c.bytes.result.now none (rw c.bytes.ensures c.in_ok-own.ensures.sound) in
    IfOk-weaker c.write_with.result _ _ (λ len it. (c.bytes.result.now, own, it)) c.write_with.ensures.sound

pub returns-then-is_empty-clause-first_error : goal.returns-then-is_empty-clause-first_error
returns-then-is_empty-clause-first_error c =
    let none : length c.args.root.now ≡ 0 = grind (arith, nat_tests, c.is_empty.ensures, c.if-is_empty.true) in
    let own = asked_own c.args.file.now c.args.root.now c.bytes.result.now none (rw c.bytes.ensures c.in_ok-own.ensures.sound) in
    IfErr-weaker c.write_with.result _ _ (λ reason it. fault_weaker (FirstBroken (rules_of_file c.args.file.now)) _ _ (λ fault broken. (c.bytes.result.now, own, broken)) reason it)
    c.write_with.ensures.first_error

pub returns-then-is_empty-clause-refused : goal.returns-then-is_empty-clause-refused
returns-then-is_empty-clause-refused c =
    let none : length c.args.root.now ≡ 0 = grind (arith, nat_tests, c.is_empty.ensures, c.if-is_empty.true) in
    let own : IsCanonicalRootOf c.args.file.now c.bytes.result.now = rw c.bytes.ensures c.in_ok-own.ensures.sound in
    IfErr-weaker c.write_with.result _ _ (λ reason it. own_asked c.args.file.now c.args.root.now none reason (own_not_put c.args.file.now c.bytes.result.now own reason it))
    c.write_with.ensures.refused

pub returns-clause-sound : goal.returns-clause-sound
returns-clause-sound c =
    let some : 0 < length c.args.root.now = grind (arith, nat_tests, c.is_empty.ensures, c.if-is_empty.false) in
    IfOk-weaker c.write_with-2.result _ _ (λ len it. (c.args.root.now, asked_given c.args.file.now c.args.root.now some, it)) c.write_with-2.ensures.sound

pub returns-clause-first_error : goal.returns-clause-first_error
returns-clause-first_error c =
    let some : 0 < length c.args.root.now = grind (arith, nat_tests, c.is_empty.ensures, c.if-is_empty.false) in
    IfErr-weaker c.write_with-2.result _ _
    (λ reason it. fault_weaker (FirstBroken (rules_of_file c.args.file.now)) _ _ (λ fault broken. (c.args.root.now, asked_given c.args.file.now c.args.root.now some, broken)) reason it)
    c.write_with-2.ensures.first_error

pub returns-clause-refused : goal.returns-clause-refused
returns-clause-refused c =
    let some : 0 < length c.args.root.now = grind (arith, nat_tests, c.is_empty.ensures, c.if-is_empty.false) in
    IfErr-weaker c.write_with-2.result _ _ (given_not_put c.args.file.now c.args.root.now some) c.write_with-2.ensures.refused
