-- The CLI header that a C caller receives (II.25.3.3).
use Rattle.cli_header.specs.declared.header.CliHeader.{CliHeader}
use Rattle.cli_header.specs.declared.header.DataDirectory.{DataDirectory}
use Rattle.c_values.specs.declared.header.ClimDirectory.{ClimDirectory}
use Rattle.c_values.specs.declared.header.ClimHeader.{ClimHeader}

abbrev pub directory_of : ClimDirectory → DataDirectory
directory_of reported = record { rva = reported.rva; size = reported.size }

-- the CLI header with these fields
abbrev pub header_of : ClimHeader → CliHeader
header_of reported = record {
  place = reported.offset;
  cb = reported.cb;
  major_runtime_version = reported.major_runtime_version;
  minor_runtime_version = reported.minor_runtime_version;
  metadata = directory_of reported.metadata;
  flags = reported.flags;
  entry_point_token = reported.entry_point_token;
  resources = directory_of reported.resources;
  strong_name_signature = directory_of reported.strong_name_signature;
  code_manager_table = directory_of reported.code_manager_table;
  vtable_fixups = directory_of reported.vtable_fixups;
  export_address_table_jumps = directory_of reported.export_address_table_jumps;
  managed_native_header = directory_of reported.managed_native_header;
  root = record { start = reported.root_start; «end» = reported.root_end };
}
