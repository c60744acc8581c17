use Rattle.cli_names.proofs.Prelude.{Bool, true, false, refl, ◌↔◌, IsTrue, Decides-at, Token, Metadata, Wanted, BelongsTo, IsWantedRef, IsChosen, Bor}
use Rattle.cli_names.specs.declared.chosen.Choice.TheVariants as choice
use Rattle.cli_names.proofs.ChosenLemmas.{describes, some_decides}
use Rattle.cli_names.proofs.chosen.is_chosen.Goals as goal

belonging : (model : Metadata) (wanted : Bor Wanted) (of : Token) (test : Bool) → IsTrue test ↔ BelongsTo model (IsWantedRef model wanted.now) of → IsChosen model (choice.Belonging wanted) test of
belonging model wanted of true belongs = belongs.0 refl
belonging model wanted of false belongs = λ is. let yes = belongs.1 is in absurd cc

pub returns-in-Describing : goal.returns-in-Describing
returns-in-Describing c = λ model is.
    let found = c.declaring_type.result in
    rw c.in-Describing.is (describes model c.in-Describing.class c.args.token found c.eq.result (Decides-at _ _ c.eq.ensures (some_decides found c.in-Describing.class)) (c.declaring_type.ensures model is))

pub returns-in-Belonging : goal.returns-in-Belonging
returns-in-Belonging c = λ model is. rw c.in-Belonging.is (belonging model c.in-Belonging.wanted c.args.token c.belongs.result (c.belongs.ensures model is))
