use Rattle.embedding.proofs.Prelude.{err_from_is_err_and, ◌≡◌, length, ap, sym, ◌∙◌, arith, image_of, Image, header_of, root_in}
use Rattle.embedding.proofs.Opens.{image_fails, header_fails, same_root, opens_with}
use Rattle.embedding.proofs.plan.open_file.Goals as goal

pub returns-in_err-image-clause-fault : goal.returns-in_err-image-clause-fault
returns-in_err-image-clause-fault c =
    let p = err_from_is_err_and c.from_residual-in_err-image.result c.from_residual-in_err-image.ensures.1 in
    rw (p.1, p.2) (image_fails c.args.file.now c.in_err-image.field-0.0 c.in_err-image.ensures.first_error)

pub returns-in_err-header-clause-fault : goal.returns-in_err-header-clause-fault
returns-in_err-header-clause-fault c =
    let p = err_from_is_err_and c.from_residual-in_err-header.result c.from_residual-in_err-header.ensures.1 in
    let all = c.in_ok-image.ensures.all in
    rw (p.1, p.2) (header_fails c.args.file.now c.in_err-header.field-0.0 all.0 (rw all.1 at c.in_err-header.ensures.first_error))

pub returns-clause-opened : goal.returns-clause-opened
returns-clause-opened c =
    let file = c.args.file.now in
    let all = c.in_ok-image.ensures.all in
    let header = c.in_ok-header.header in
    let sound = c.in_ok-header.ensures.sound in
    let bytes : c.in_ok-image.image.bytes ≡ file = ap (λ (image : Image). image.bytes) all.1 in
    let header_is : header ≡ header_of (image_of file) = c.in_ok-header.ensures.all.1 ∙ ap header_of all.1 in
    record {
      image = all.1;
      headers = c.read.ensures;
      header = record {
        image = all.0;
        cli_header = rw all.1 at c.in_ok-header.ensures.all.0;
        header_is = header_is;
        model = opens_with file c.in_ok-view.field-0-0 header (c.images_are_read.ensures.said file) c.headers_are_read.ensures.said header_is c.in_ok-view.ensures.sound;
        header_within = omega (arith, sound.place.within, ap length bytes);
        root = omega (arith, sound.root.within, ap length bytes);
      };
      view =
          c.in_ok-view.ensures.view
          ∙ same_root file c.in_ok-view.field-0-0 (c.images_are_read.ensures.said file) (λ image. c.headers_are_read.ensures.said image c.in_ok-view.field-0-0) c.in_ok-view.ensures.sound
          ∙ sym (ap (root_in file) header_is);
    }

pub returns-clause-model : goal.returns-clause-model
returns-clause-model c = λ header model is. rw (c.in_ok-view.ensures.view, c.in_ok-view.ensures.complete header model is) is.root
