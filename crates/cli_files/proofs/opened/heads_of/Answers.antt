use Rattle.std.proofs.Common.{◌≡◌, ◌∙◌, Some, ap, sym}
use Rattle.pe.specs.Headers.{image_of}
use Rattle.cli_header.specs.Said.{header_of}
use Rattle.metadata.specs.Streams.{root_in}
use Rattle.cli_files.proofs.HeadLemmas.{heads_hold}
use Rattle.cli_files.proofs.opened.heads_of.Goals as goal

pub returns-in_ok-read_root-in-BareRoot-clause-one : goal.returns-in_ok-read_root-in-BareRoot-clause-one
returns-in_ok-read_root-in-BareRoot-clause-one c =
    let it = c.in_ok-read_root-in-BareRoot in
    rw c.in-BareRoot.is (λ header more are. let same = it.ensures.complete more.version more.headers it.ensures.sound.0 are.1 in (sym are.0, same.0, same.1))

pub returns-in_ok-heads-in-File-clause-sound : goal.returns-in_ok-heads-in-File-clause-sound
returns-in_ok-heads-in-File-clause-sound c =
    let it = c.in_ok-heads-in-File in
    let file = c.args.bytes.now in
    let image = image_of file in
    let hold = heads_hold file it.ensures.reports in
    let root = c.roots_are_read.ensures.sound (root_in file (header_of image)) hold.2 in
    rw c.in-File.is
    (image, header_of image, c.images_are_read.ensures.sound file hold.0, c.headers_are_read.ensures.sound image hold.1, ap Some it.ensures.header, rw (it.ensures.root, it.ensures.header) root.1)

pub returns-in_ok-heads-in-File-clause-one : goal.returns-in_ok-heads-in-File-clause-one
returns-in_ok-heads-in-File-clause-one c =
    let it = c.in_ok-heads-in-File in
    rw c.in-File.is (λ other more are.
    let same : are.1 ≡ it.heads.header =
    c.headers_are_read.ensures.said are.0 are.1 are.3 ∙ ap header_of (c.images_are_read.ensures.said c.args.bytes.now are.0 are.2) ∙ sym it.ensures.header in
    let read = it.ensures.root ∙ c.roots_are_read.ensures.said (root_in c.args.bytes.now it.heads.header) more.version more.headers it.ensures.small.1 (rw same at are.5) in
    (ap Some (sym same) ∙ sym are.4, ap (λ r. r.version) read, ap (λ r. r.headers) read))
