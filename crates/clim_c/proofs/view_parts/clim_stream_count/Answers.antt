use Rattle.clim_c.proofs.Prelude.{length, refl, ◌∙◌, ap, YieldsList-from_first, count_from_yields_List, view}
use Rattle.clim_c.proofs.view_parts.clim_stream_count.Goals as goal

pub returns-in-Some-clause-open : goal.returns-in-Some-clause-open
returns-in-Some-clause-open c = λ opened version headers is.
    count_from_yields_List c.in-Some.headers c.count.result c.count.ensures.ran (YieldsList-from_first view (λ tail. tail) c.in-Some.headers refl)
    ∙ ap length (c.in-Some.ensures.sound.1 version headers is)
