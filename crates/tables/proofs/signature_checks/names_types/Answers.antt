use Rattle.tables.proofs.Prelude.{◌≡◌, ◌↔◌, ℕ, Bool, true, false, IsTrue, List, Option, Some, None, slice_index, is_some, not, refl, sym, ◌∙◌, ap, TableId, Token, table_number, Metadata, count_in, Names}
use Rattle.std.specs.List.{AllByRecursion}
use Rattle.sig_grammar.specs.Encodes.{first_bad, tokens}
use Rattle.metadata.proofs.TokenLemmas.{all_there, none_bad}
use Rattle.tables.proofs.signature_checks.names_types.Goals as goal

no_some : (found : Option Token) → is_some found ≡ false → found ≡ None
no_some None e = refl
no_some (Some token) e = absurd cc

not_false : (none : Bool) → not none ≡ false → none ≡ true
not_false true e = refl
not_false false e = absurd cc

names_where : (model : Metadata) (counts : List ℕ) → ((table : TableId) → slice_index counts (table_number table) ≡ count_in model table)
    → (tokens : List Token) (found : Option Token) (none : Bool) → found ≡ first_bad counts tokens → is_some found ≡ not none
    → IsTrue none ↔ AllByRecursion (Names model) tokens
names_where model counts counted tokens found none is_first reports = (
  λ yes. all_there (count_in model) counts counted tokens (sym is_first ∙ no_some found (reports ∙ ap not yes)),
  λ all. not_false none (sym reports ∙ ap is_some (is_first ∙ none_bad (count_in model) counts counted tokens all)),
)

pub returns-in-Sig : goal.returns-in-Sig
returns-in-Sig c =
    rw c.in-Sig.is (names_where c.args.counted.now c.counts.result.now c.counts.ensures (tokens c.in-Sig.signature) c.first_bad.result c.is_none.result c.first_bad.ensures c.is_none.ensures)
