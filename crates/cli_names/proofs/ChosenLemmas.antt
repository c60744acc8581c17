-- The test of a declaring type.
use Rattle.cli_names.proofs.Prelude.{◌≡◌, Bool, true, false, Option, None, Some, ap, refl, subst, Decides, Decides-like, Decides-and, Decides-eqb, TableId, Token, Metadata, IsDescribing, option_eq}
use denote.Enum.Bare.{same_true, true_same}
use Rattle.table_schema.specs.contracts.table.TableId as table
use Rattle.table_schema.specs.contracts.table.TableIdPartialEq.TheImpl as tables
use Rattle.table_schema.specs.contracts.token.TokenPartialEq.TheImpl as tokens
use Rattle.visible_rows.specs.Declaring.{IsDeclaring}

table_decides : (a b : TableId) → Decides (tables.eq-value.it a b) (a ≡ b)
table_decides a b = (λ h. same_true table.the_type tt a b h, λ e. true_same table.the_type a b e)

token_decides : (a b : Token) → Decides (tokens.eq-value.it a b) (a ≡ b)
token_decides a b =
    Decides-like _ (λ p i. record { table = p.0 i; row = p.1 i }) (λ e. (ap (λ (t : Token). t.table) e, ap (λ (t : Token). t.row) e))
    (Decides-and _ _ (table_decides a.table b.table) (Decides-eqb a.row b.row))

pub some_decides : (found : Option Token) (class : Token) → Decides (option_eq tokens.eq-value.it found (Some class)) (found ≡ Some class)
some_decides None class = (λ h. absurd cc, λ k. absurd cc)
some_decides (Some of) class = Decides-like _ (λ h. ap Some h) (λ k. cc k) (token_decides of class)

pub describes : (model : Metadata) (class of : Token) (found : Option Token) (test : Bool) → Decides test (found ≡ Some class) → IsDeclaring model of found → IsDescribing model class test of
describes model class of found true decides is = subst (λ (d : Option Token). IsDeclaring model of d) (decides.0 refl) is
describes model class of found false decides is = (found, is, λ same. let yes = decides.1 same in absurd cc)
