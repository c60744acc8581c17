use Rattle.navigation.proofs.Prelude.{◌≡◌, length, AreStarts}
use Rattle.navigation.proofs.starts.starts_of.Given as goal

abbrev pub invariant-loop-earlier : goal.invariant-loop-earlier
invariant-loop-earlier l = record {
  same : l.cells ≡ l.view;
  long : length l.starts.items ≡ l.earlier;
  are : AreStarts l.view l.list l.starts.items;
}
