use Rattle.cli_regions.proofs.Prelude.{◌≡◌, ℕ, ◌+◌, ◌-◌, ◌*◌, ◌/◌, ◌∷◌, [], ap, arith, codes, length, view, other_stream_regions, stream_header_regions, region, adds_none, and_then, said_as}
use Rattle.cli_regions.proofs.headers.find_stream_part.Goals as goal

name_long : (size : ℕ) → size ≡ 8 + size - 8
name_long size = omega arith

pub returns-in-Header : goal.returns-in-Header
unfolding stream_header_regions
returns-in-Header c =
    let header = view c.args.header.now in
    rw c.in-Header.is (and_then c.find_header.ensures
    (said_as c.look.ensures (ap (λ size. region (c.args.start + header.place + 8) size (codes "stream header Name") ∷ []) (name_long ((length header.name + 4) / 4 * 4)))))

pub returns-then-is_standard : goal.returns-then-is_standard
unfolding other_stream_regions
returns-then-is_standard c = rw (c.in-Bytes.is, ← c.is_standard.ensures, c.if-is_standard.true) (adds_none c.args.found.now)
