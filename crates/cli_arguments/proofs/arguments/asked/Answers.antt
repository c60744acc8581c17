use Rattle.std.proofs.Common.{◌∙◌, List, map, option_map, subst, codes}
use Rattle.cli_arguments.proofs.Prelude.{first_value-rows, one_text-rows, ExplainsUnsignedError, HasUnsignedDigitsIfOk, ParsesUnsigned, AreParts}
use Rattle.std.specs.declared.num.ParseIntError.{ParseIntError}
use Rattle.clap.specs.Words.{Row, Text, found_of, one_of, rows_of}
use Rattle.cli_arguments.proofs.Readings.{count_is}
use Rattle.cli_arguments.proofs.arguments.asked.Goals as goal

pub returns : goal.returns
returns c = λ words named.
    let found = found_of c.args.given.now in
    let rows : List Row = rows_of found in
    record {
      rows = rows;
      subcommand = named;
      bare = c.flag.ensures;
      file = c.get_str.ensures ∙ first_value-rows found (codes "FILE");
      second = c.get_str-2.ensures ∙ first_value-rows found (codes "second");
      tokens = c.in_ok-list.ensures;
      ignored = c.in_ok-list-2.ensures;
      budget = count_is ParseIntError
          (λ t r. ParsesUnsigned 64 10 t r × ExplainsUnsignedError 10 t r × HasUnsignedDigitsIfOk t r) (λ t r gives. gives.0) (one_of (codes "budget") rows) c.get_one.result
          (λ none. c.get_one.ensures.none (one_text-rows found (codes "budget") ∙ none))
          (λ t is. c.get_one.ensures.value t (one_text-rows found (codes "budget") ∙ is));
      parts = subst (λ (words : List Text). AreParts c.args.subcommand rows words (map (λ word. word.now) c.take_part-part.new.words.items) (option_map (λ word. word.now) c.take_part-part.result))
          c.in_ok-files.ensures c.take_part-part.ensures;
      json = c.flag-2.ensures;
      faults = c.in_ok-list-3.ensures;
      files_from = c.get_str-3.ensures ∙ first_value-rows found (codes "files-from");
      null = c.flag-3.ensures;
      quiet = c.flag-4.ensures;
      names = c.flag-5.ensures;
      until_fault = c.flag-6.ensures;
      locates = c.flag-7.ensures;
      root = c.get_str-4.ensures ∙ first_value-rows found (codes "root");
      unsigned = c.flag-8.ensures;
      recursive = c.flag-9.ensures;
      extract = c.get_str-5.ensures ∙ first_value-rows found (codes "extract");
      no_tokens = c.flag-10.ensures;
      public = c.flag-11.ensures;
      sorted = c.flag-12.ensures;
    }
