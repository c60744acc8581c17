-- Some values of the definitions.
use Rattle.metadata.proofs.Prelude.{◌≡◌, [], ◌∷◌, refl, Module, TypeDef, Field, Constant, Source, number_of, start_of, cell_columns}

-- the second column of Constant is padding
cells_of_constant : cell_columns Constant ≡ 0 ∷ 2 ∷ 3 ∷ []
unfolding cell_columns
cells_of_constant = refl

cells_of_module : cell_columns Module ≡ 0 ∷ 1 ∷ 2 ∷ 3 ∷ 4 ∷ []
unfolding cell_columns
cells_of_module = refl

-- four types and three fields, with the field lists 1, null, 3 and null
four_types : Source
four_types = record {
  sizes = record { counts = 0 ∷ 0 ∷ 4 ∷ 3 ∷ []; heap_sizes = 0; sorted = 0; body = 0 };
  numbers = [] ∷ [] ∷ ((0 ∷ 0 ∷ 0 ∷ 0 ∷ 1 ∷ []) ∷ (0 ∷ 0 ∷ 0 ∷ 0 ∷ 0 ∷ []) ∷ (0 ∷ 0 ∷ 0 ∷ 0 ∷ 3 ∷ []) ∷ (0 ∷ 0 ∷ 0 ∷ 0 ∷ 0 ∷ []) ∷ []) ∷ [];
  texts = [];
  blobs = [];
  guids = [];
}

first_start : start_of four_types TypeDef 1 4 Field ≡ 1
unfolding four_types start_of number_of
first_start = refl

-- a null takes the next start
null_start : start_of four_types TypeDef 2 4 Field ≡ 3
unfolding four_types start_of number_of
null_start = refl

-- and the last null takes the end
last_start : start_of four_types TypeDef 4 4 Field ≡ 4
unfolding four_types start_of number_of
last_start = refl
