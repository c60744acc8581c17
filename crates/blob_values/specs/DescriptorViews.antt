-- What the contracts see of the descriptors of src/.
use Rattle.blob_values.specs.declared.descriptor.Custom.{Custom as CustomRef}
use Rattle.blob_values.specs.declared.descriptor.Descriptor.{Descriptor as DescriptorRef}
use Rattle.blob_values.specs.declared.descriptor.Descriptor.TheVariants as seen
use Rattle.blob_values.specs.DescriptorValues.{Custom, Descriptor, native, array, interface_of, fixed_string, fixed_array, safe_array, safe_array_of, safe_array_named, custom}

abbrev pub custom_view : CustomRef → Custom
custom_view c = record { guid = c.guid.now; unmanaged = c.unmanaged.now; marshaler = c.marshaler.now; cookie = c.cookie.now }

abbrev pub view : DescriptorRef → Descriptor
view (seen.Native of) = native of
view (seen.Array of size) = array of size
view (seen.InterfaceOf of n) = interface_of of n
view (seen.FixedString n) = fixed_string n
view (seen.FixedArray n of) = fixed_array n of
view seen.SafeArray = safe_array
view (seen.SafeArrayOf n) = safe_array_of n
view (seen.SafeArrayNamed n name) = safe_array_named n name.now
view (seen.Custom c) = custom (custom_view c)
