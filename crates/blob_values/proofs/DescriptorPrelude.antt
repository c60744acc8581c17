-- What several proofs of this crate name of std, of the crates below, and of its own definitions.
pub use Rattle.std.proofs.Common.{◌≡◌, ℕ, true, Option, Some, None, List, [], ◌∷◌, refl, ◌∙◌, sym, ap, subst, zero, suc, ◌<◌, ◌≤◌, ◌^◌, length-append, Bool, false, cond, IfSome, ◌++◌, length, take, drop, get_or, append_assoc, append-nil, arith, rules}
pub use Rattle.std.proofs.lemmas.Bool.{cond_both, eqb-true}
pub use Rattle.std.proofs.lemmas.Option.{option_and_then_some}
pub use Rattle.std.specs.Prelude.{◌==◌, if◌then◌else◌, option_map, option_and_then, ⊤, nat_lt, IsSomeAnd}
pub use Rattle.blob_values.specs.Codes.{native_code, is_interface, pick, ARRAY, FIXED_STRING, SAFE_ARRAY, FIXED_ARRAY, CUSTOM, MAX}
unfoldable pub use Rattle.blob_values.specs.Codes.{native_of}
pub use Rattle.blob_values.specs.DescriptorParts.{byte, number, text, AreParts, IsDescriptor, element_code, size_parts, parts_of, IsKnown, Part, IsPart}
pub use Rattle.blob_values.specs.DescriptorReading.{flags_of, count_of, element_of, named_of, native_then, at_end, fixed_elements_of, custom_by, text_in}
unfoldable pub use Rattle.blob_values.specs.DescriptorReading.{size_of, array_of, fixed_string_of, fixed_array_of, safe_of, custom_of, coded_of, descriptor_of, number_at, text_at}
pub use Rattle.blob_values.specs.DescriptorValues.{Descriptor, native, array, interface_of, fixed_string, fixed_array, safe_array, safe_array_of, safe_array_named, custom}
pub use Rattle.blob_values.specs.declared.descriptor.ArraySize.{ArraySize}
pub use Rattle.blob_values.specs.declared.descriptor.ArraySize.TheVariants.{Unknown, Param, ParamAndCount, WithFlags}
pub use Rattle.blob_values.specs.declared.native.Native.{Native}
pub use Rattle.blob_values.specs.declared.native.Native.TheVariants.{Boolean, I1, U1, I2, U2, I4, U4, I8, U8, R4, R8, LpStr, LpwStr, Int, Uint, Func, Currency, BStr, LptStr, IUnknown, IDispatch, Struct, Interface, ByValStr, AnsiBStr, TBStr, VariantBool, AsAny, LpStruct, Error, IInspectable, HString, LpUtf8Str}
