use Rattle.navigation.proofs.Prelude.{◌≡◌, length, AreNestedKeys}
use Rattle.navigation.proofs.starts.nested_keys.Given as goal

abbrev pub invariant-loop-earlier : goal.invariant-loop-earlier
invariant-loop-earlier l = record {
  long : length l.keys.items ≡ l.earlier;
  are : AreNestedKeys l.view l.keys.items;
}
