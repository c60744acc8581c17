-- Which bytes declare a method, a property or a field, or refer to one (ECMA-335 II.15.3, II.17 and II.22.25), and its text.
use Rattle.std.specs.Prelude.{ℕ, ◌⊎◌, Bool, false, None, List, [], ◌∷◌, ◌++◌, codes}
use Rattle.table_schema.specs.declared.column.SigKind.TheVariants.{MemberRef, MethodDef, Property}
use Rattle.sig_grammar.specs.Syntax.{Body, Slot, some_ret, Method, field, method, method_body, property}
use Rattle.sig_grammar.specs.Views.{slots_from}
use Rattle.sig_grammar.specs.Encodes.{Encodes}
use Rattle.sig_text.specs.SignatureText.{Piece, word, method_name, slot_text, declared_text}

-- A property has the form of a method (II.23.2.5). PROPERTY, 8, stands for its calling convention, for which ILAsm has no word.
abbrev pub as_method : Bool → Slot → List Slot → Method
as_method this of params = method 8 this false None (some_ret of) (slots_from params) None

-- the text of what a signature declares or refers to: a method, a property, or the type and the name of a field
abbrev pub member_text : Body → List Piece
member_text (field s) = slot_text s ++ (word (codes " ") ∷ method_name ∷ [])
member_text (method_body m) = declared_text m
member_text (property this of params) = declared_text (as_method this of params)
member_text _ = []

-- the bytes encode it: a method, a property, or what a MemberRef refers to
abbrev pub Declares : Body → List ℕ → Type 0
Declares signature bytes = Encodes MethodDef signature bytes ⊎ (Encodes Property signature bytes ⊎ Encodes MemberRef signature bytes)
