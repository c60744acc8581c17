use Rattle.cli_where.proofs.Prelude.{◌≡◌, List, ℕ, refl, rules, subst, zero_padded, AreEntries, AreUsersAt, finds_joined, heap_of}
use Rattle.cli_where.proofs.EntryLemmas.{padded_already}
use Rattle.cli_where.proofs.user_strings.find_user_strings.Goals as goal

pub returns-then-heap-eq0 : goal.returns-then-heap-eq0
returns-then-heap-eq0 c =
    let all = c.find_in_padded.ensures in
    let are = subst (λ (bytes : List ℕ). AreEntries bytes 1 all.0) (padded_already c.args.heap.now.bytes.now c.if-heap-eq0.true) all.1 in
    finds_joined {AreFound = AreUsersAt (heap_of c.args.heap.now)} (all.0, are, refl) all.2.joins

pub returns-in-Ok : goal.returns-in-Ok
returns-in-Ok c =
    let padded : c.deref.result.now ≡ zero_padded c.args.heap.now.bytes.now = search rules in
    let all = rw padded at c.find_in_padded-in-Ok.ensures in
    finds_joined {AreFound = AreUsersAt (heap_of c.args.heap.now)} (all.0, all.1, refl) all.2.joins

pub returns-in-Err : goal.returns-in-Err
returns-in-Err c = rw c.fail.ensures (record { offset = refl; found = λ found some. cc })
