-- The bytes of a whole root, stream by stream.
use Rattle.root_writer.proofs.Prelude.{◌≡◌, ℕ, ◌+◌, ◌<◌, ◌≤◌, List, [], ◌++◌, length, get_or, drop, refl, sym, ap, length-append, arith, drop_all, drop_more, flat_map, Kind, Tables, Strings, UserStrings, Guids, Blobs, zero_padded, Metadata, stream, Written, Puts, size_of, heading}
use Rattle.root_writer.specs.Root.{content, kinds_of, root_bytes, ArePartsOf}
use Rattle.root_writer.specs.declared.root_parts.RootParts.{RootParts}
use Rattle.root_writer.proofs.RowLemmas.{IsPutting, put_next}

-- a root is its headers followed by its streams
pub root_split : (parts : RootParts) (kinds : List Kind) → kinds ≡ kinds_of parts
    → root_bytes parts ≡ heading parts.version.now (size_of parts.sizes) kinds ++ flat_map (content parts) kinds
unfolding root_bytes
root_split parts kinds same = ap (λ listed. heading parts.version.now (size_of parts.sizes) listed ++ flat_map (content parts) listed) (sym same)

pub heading_fits : (parts : RootParts) (kinds : List Kind) (room : ℕ) → kinds ≡ kinds_of parts → length (root_bytes parts) ≤ room
    → length (heading parts.version.now (size_of parts.sizes) kinds) ≤ room
heading_fits parts kinds room same fits =
    omega (arith, ap length (root_split parts kinds same), length-append (heading parts.version.now (size_of parts.sizes) kinds) (flat_map (content parts) kinds), fits)

-- after the headers all streams are left
pub streams_left : (parts : RootParts) (kinds : List Kind) (start now : Written) → kinds ≡ kinds_of parts → length (root_bytes parts) ≤ start.room
    → Puts start now (heading parts.version.now (size_of parts.sizes) kinds) → IsPutting start now (flat_map (content parts) kinds) (root_bytes parts)
streams_left parts kinds start now same fits puts =
    put_next start start now (heading parts.version.now (size_of parts.sizes) kinds) (flat_map (content parts) kinds) (root_bytes parts) (root_bytes parts)
    (root_split parts kinds same) puts (record { whole = refl; left_room = fits; all_room = omega arith })

pub next_stream : (parts : RootParts) (kinds : List Kind) (i : ℕ) → i < length kinds
    → flat_map (content parts) (drop i kinds) ≡ content parts (get_or kinds i Tables) ++ flat_map (content parts) (drop (i + 1) kinds)
next_stream parts kinds i below = ap (flat_map (content parts)) (drop_more kinds i Tables below)

pub no_stream : (parts : RootParts) (kinds : List Kind) (i : ℕ) → length kinds ≤ i → flat_map (content parts) (drop i kinds) ≡ []
no_stream parts kinds i past = ap (flat_map (content parts)) (drop_all i kinds past)

-- each stream is the model's
pub content_is : (model : Metadata) (parts : RootParts) → ArePartsOf model parts → (kind : Kind) → content parts kind ≡ stream model kind
content_is model parts are Tables = are.tables
content_is model parts are Strings = ap zero_padded are.strings
content_is model parts are UserStrings = are.user_strings
content_is model parts are Guids = ap zero_padded are.guids
content_is model parts are Blobs = ap zero_padded are.blobs
