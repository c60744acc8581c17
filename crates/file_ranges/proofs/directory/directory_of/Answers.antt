use Rattle.file_ranges.proofs.Prelude.{◌≡◌, ◌∙◌, [], ◌∷◌, length, take, ap, arith, sym, literal, part}
use Rattle.file_ranges.proofs.directory.directory_of.Goals as goal

pub returns-in_default : goal.returns-in_default
returns-in_default c = λ start bytes is. c.in_default.ensures.complete is.image is.is_image

pub returns-in_err-range : goal.returns-in_err-range
returns-in_err-range c =
    rw c.from_residual.ensures (λ start bytes is. c.in_err-range.ensures.complete start (rw (c.in-Ok.ensures.complete is.image is.is_image) is.named))

pub returns : goal.returns
returns c =
    let file = c.args.file.now in
    let size = c.args.header.now.resources.size in
    let start = c.in_ok-range.range.start in
    let bytes = c.split_at-2.result.0.now in
    let sound = c.in-Ok.ensures.sound in
    let named = c.in_ok-range.ensures.sound.0 in
    let whole = ap length sound.bytes_are in
    let within = named.within in
    let prefix = c.split_at-2.ensures.front_len in
    let back = c.split_at.ensures.back_len in
    let long : length bytes ≡ size = omega arith in
    let parts : bytes ≡ part file start (length bytes) = c.split_at-2.ensures.front ∙ (λ i. take (sym long i) (c.split_at.ensures.back i)) in
    record {
      image = c.in-Ok.pe;
      is_image = sound;
      named = named;
      long = long;
      bytes_are = c.fields_are_parts.ensures.stand file start (literal bytes ∷ []) (omega arith) (sym parts, tt);
    }
