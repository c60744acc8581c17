-- The types of other modules that an argument means, and what belongs to them.
use Rattle.cli_names.proofs.Prelude.{◌≡◌, ◌∙◌, ◌↔◌, ◌==◌, Bool, true, false, cond, IsTrue, ℕ, List, [], ◌∷◌, ◌++◌, Option, None, Some, length, refl, ap, sym, subst, TypeRef, TableId, Token, Ref, HasRow, Metadata, BelongsTo, IsWantedRef, generic_at, generic_of, type_of_ref, Wanted, row_in}
use Rattle.std.specs.Prelude.{option_map}
use Rattle.packed.specs.Packed.{IsPacked}
use Rattle.packed.specs.Prefix.{unsigned_at}
use Rattle.table_schema.specs.declared.column.SigKind.TheVariants as column
use Rattle.table_schema.specs.declared.coded.Coded.TheVariants.{TypeDefOrRef}
use Rattle.table_schema.specs.CodedIndexes.{IsCoded}
use Rattle.table_schema.specs.Tokens.{token_at}
use Rattle.sig_grammar.specs.declared.element.Element.{Element}
use Rattle.sig_grammar.specs.declared.element.Element.TheVariants.{Boolean}
use Rattle.sig_grammar.specs.declared.types.Modifier.{Modifier}
use Rattle.sig_grammar.specs.ElementTypes.{CMOD_OPT, CMOD_REQD, element_code}
use Rattle.sig_grammar.specs.Encodes.{Encodes}
use Rattle.sig_grammar.specs.Grammar.{content_parts, core_parts, count_types, modifiers_parts, named_code, ret_parts, types_parts}
use Rattle.sig_grammar.specs.Parts.{EncodesParts, IsIndex, Part, byte, index, number}
use Rattle.sig_grammar.specs.Reading.{index_at, number_at, token_of}
use Rattle.sig_grammar.specs.Syntax.{Body, Core, instance, plain, simple, slot, some_ret, type_spec, void_ret}

-- ---- the generic type in the bytes of a signature

-- what is read of the first bytes
read_head : (c : ℕ) (tail : List ℕ) → (c == 0x15) ≡ false → generic_at (c ∷ tail) ≡ None
read_head c [] differs = refl
read_head c (d ∷ tail) differs = ap (λ (t : Bool). cond t (option_map (λ read. read.0) (index_at tail)) None) differs

-- bytes that begin with another byte are those of no instance
other_head : (c : ℕ) (tail parts : List Part) (bytes : List ℕ) → EncodesParts parts bytes → parts ≡ byte c ∷ tail → (c == 0x15) ≡ false → generic_at bytes ≡ None
other_head c tail parts bytes encodes is differs =
    let head : EncodesParts (byte c ∷ tail) bytes = subst (λ (ps : List Part). EncodesParts ps bytes) is encodes in
    let whole : bytes ≡ c ∷ head.1 = head.2 ∙ ap (λ (h : List ℕ). h ++ head.1) head.3 in
    ap generic_at whole ∙ read_head c head.1 differs

element_differs : (element : Element) → (element_code element == 0x15) ≡ false
element_differs Boolean = refl
element_differs _ = refl

modifier_differs : (required : Bool) → (cond required CMOD_REQD CMOD_OPT == 0x15) ≡ false
modifier_differs true = refl
modifier_differs false = refl

modified_read : (m : Modifier) (ms : List Modifier) (parts : List Part) (bytes : List ℕ) → EncodesParts (modifiers_parts (m ∷ ms) ++ parts) bytes → generic_at bytes ≡ None
modified_read m ms parts bytes encodes =
    other_head _ _ (modifiers_parts (m ∷ ms) ++ parts) bytes encodes refl (modifier_differs m.required)

module _ (numbers : (n : ℕ) (prefix tail : List ℕ) → IsPacked n prefix → unsigned_at (prefix ++ tail) ≡ Some (n, length prefix))
    (indexes : (number : ℕ) (token : Token) → IsCoded TypeDefOrRef number token.table token.row → token_of number ≡ Some token) where
  index_read : (token : Token) (head tail : List ℕ) → IsIndex token head → option_map (λ (read : Token × List ℕ). read.0) (index_at (head ++ tail)) ≡ Some token
  unfolding index_at number_at
  index_read token head tail is = rw (numbers is.number head tail is.packed, indexes is.number token is.coded) refl

  instance_read : (is_value : Bool) (of : Token) (parts : List Part) (bytes : List ℕ) → EncodesParts (byte 0x15 ∷ byte (named_code is_value) ∷ index of ∷ parts) bytes
      → generic_at bytes ≡ Some of
  instance_read is_value of parts bytes encodes =
      let second = encodes.4 in
      let third = second.4 in
      let whole : bytes ≡ 0x15 ∷ named_code is_value ∷ (third.0 ++ third.1) =
      encodes.2 ∙ ap (λ (h : List ℕ). h ++ encodes.1) encodes.3
      ∙ ap (λ (t : List ℕ). 0x15 ∷ t) (second.2 ∙ ap (λ (h : List ℕ). h ++ second.1) second.3 ∙ ap (λ (t : List ℕ). named_code is_value ∷ t) third.2) in
      ap generic_at whole ∙ index_read of third.0 third.1 third.3

  core_read : (core : Core) (bytes : List ℕ) → EncodesParts (core_parts core) bytes → generic_at bytes ≡ generic_of (type_spec (some_ret (slot [] (plain core))))
  core_read (simple element) bytes encodes = other_head _ _ (core_parts (simple element)) bytes encodes refl (element_differs element)
  core_read (instance is_value of args) bytes encodes = instance_read is_value of (number (count_types args) ∷ types_parts args) bytes encodes
  core_read core bytes encodes = other_head _ _ (core_parts core) bytes encodes refl refl

  pub generic_read : (signature : Body) (bytes : List ℕ) → Encodes column.TypeSpec signature bytes → generic_at bytes ≡ generic_of signature
  generic_read (type_spec (some_ret (slot [] (plain core)))) bytes encodes = core_read core bytes encodes.parts
  generic_read (type_spec (some_ret (slot (m ∷ ms) content))) bytes encodes = modified_read m ms (content_parts content) bytes encodes.parts
  generic_read (type_spec (void_ret (m ∷ ms))) bytes encodes = modified_read m ms (byte 0x01 ∷ []) bytes encodes.parts
  generic_read (type_spec of) bytes encodes = other_head _ _ (ret_parts of) bytes encodes.parts refl refl
  generic_read _ bytes encodes = absurd encodes.column

-- ---- what belongs to a TypeRef that is wanted

pub belongs_by : (model : Metadata) (wanted : Wanted) (of found : Token) → type_of_ref model of.table of.row ≡ Some found → found.table ≡ TypeRef → (test : Bool)
    → IsTrue test ↔ (HasRow model TypeRef found.row × IsWantedRef model wanted found.row) → IsTrue test ↔ BelongsTo model (IsWantedRef model wanted) of
belongs_by model wanted of found is types test decides =
    let whole : Some found ≡ Some (token_at TypeRef found.row) = ap (λ (t : TableId). Some (token_at t found.row)) types in (
      (λ yes. let at = decides.0 yes in (found.row, is ∙ whole, at.0, at.1)),
      (λ belongs.
          let same : belongs.0 ≡ found.row = ap (λ (of : Option Token). row_in (Ref of)) (sym belongs.1 ∙ is ∙ whole) in
          decides.1 (subst (λ (r : ℕ). HasRow model TypeRef r) same belongs.2, subst (λ (r : ℕ). IsWantedRef model wanted r) same belongs.3)),
    )
