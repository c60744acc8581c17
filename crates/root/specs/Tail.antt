-- The stream headers that an iterator has left, and its invariant.
use Rattle.std.specs.Prelude.{◌≡◌, ◌≤◌, List, length, drop}
use Rattle.packed.specs.Limit.{byte_limit}
use Rattle.root.specs.declared.headers.Headers.TheInside.{Inside}
use Rattle.root.specs.Fields.{header_offset, headers_before}
use Rattle.root.specs.Shown.{AllShow}
use Rattle.root.specs.Streams.{Header}

-- the headers from the next one on
abbrev pub tail_of : Inside → List Header
tail_of headers = drop headers.next (headers_before headers.bytes.now headers.count)

-- the iterator's offset is that of the next header
pub record IsOnTheWay (headers : Inside) : Type 0 where
  pub small : length headers.bytes.now ≤ byte_limit
  pub place : headers.place ≡ header_offset headers.bytes.now headers.next
  pub within : headers.next ≤ headers.count
  pub shows : AllShow headers.bytes.now headers.count
