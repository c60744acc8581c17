-- What contracts see of a stream header.
use Rattle.root.specs.declared.header.StreamHeader.{StreamHeader}
use Rattle.root.specs.Streams.{Header}

-- a header as a value: the bytes of its name, without their address
abbrev pub view : StreamHeader → Header
view header = record { place = header.place; offset = header.offset; size = header.size; name = header.name.now }
