use Rattle.std.proofs.Common.{◌≡◌}
use Rattle.opening.proofs.view.ViewClone.clone.Goals as goal

pub invariant_of-result : goal.invariant_of-result
invariant_of-result c =
    let same : c.in_ok-clone.field-0 ≡ c.self.inside.source = c.in_ok-clone.ensures.cases in
    record {
      model = c.self.invariant.model;
      source = rw same c.self.invariant.source;
      version = c.self.invariant.version;
      user = c.self.invariant.user;
      order = rw same c.self.invariant.order;
      known = rw same c.self.invariant.known;
    }
