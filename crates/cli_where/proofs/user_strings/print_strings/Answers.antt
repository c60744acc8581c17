use Rattle.cli_where.proofs.Prelude.{◌≡◌, ◌∙◌, List, ℕ, rules, subst, flat_map, zero_padded, Prints, entry_lines, AreEntries, Entry}
use Rattle.cli_where.proofs.user_strings.print_strings.Goals as goal

pub returns : goal.returns
returns g c =
    let Has : List ℕ → Type 0 = λ heap. (entries : List Entry) × AreEntries heap 1 entries × Prints c.args.out.now c.print_entries.new.out (flat_map entry_lines entries) in
    let padded : c.deref.result.now ≡ zero_padded c.user.result.now = search rules in
    (c.in_ok-view.ensures.sound, (λ model is. subst Has (padded ∙ c.user.ensures.model model (c.in_ok-view.ensures.models model is)) c.print_entries.ensures))
