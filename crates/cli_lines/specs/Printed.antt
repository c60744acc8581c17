-- What a printer was asked to print, and what went out to its writer, if the writer's bytes are known.
use Rattle.std.specs.Prelude.{◌≡◌, ℕ, ◌+◌, ◌-◌, List, [], ◌++◌, map, Option, None, Some, Result, MatchResult}
use Rattle.std.specs.Borrow.{GName}
use Rattle.std.specs.declared.io.ErrorKind.{ErrorKind}
use Rattle.cli_sending.specs.Sent.{Sends, SendsPrefix}
use Rattle.cli_lines.specs.declared.line.Before.{Before}
use Rattle.cli_lines.specs.Lines.{Part, Style, line_from, line_text, styled_text}

-- all of the text went out but what is left if it succeeds; else nothing or a prefix of it
abbrev pub Moves : {T E : Type 0} → Option (List ℕ) → Option (List ℕ) → Result T E → List ℕ → List ℕ → Type 0
Moves before after result text left = MatchResult result (λ done. Sends before after text left) (λ error. SendsPrefix before after text)

-- a printer: its style, its writer, what waits to be sent unless printing failed, and its position in the line
pub record Printed (W : Type 0) : Type 0 where
  pub style : Style
  -- the borrow of its writer, the writer, and the bytes of the writer
  pub borrow : GName
  pub out : W
  pub contents : Option (List ℕ)
  pub waiting : Option (List ℕ)
  pub at : Before

-- what waits, unless printing failed
abbrev pub waits : List ℕ → Option ErrorKind → Option (List ℕ)
waits waiting None = Some waiting
waits waiting (Some kind) = None

abbrev pub SendsOrFails : Option (List ℕ) → Option (List ℕ) → List ℕ → Option (List ℕ) → Type 0
SendsOrFails start contents text (Some waiting) = Sends start contents text waiting
SendsOrFails start contents text None = SendsPrefix start contents text

abbrev pub AwaitsOrFails : Option (List ℕ) → Option (List ℕ) → Option (List ℕ) → (List Part → List ℕ) → List ℕ → List Part → Type 0
AwaitsOrFails start contents (Some waiting) end whole more = (prefix : List ℕ) × Sends start contents prefix waiting × (prefix ++ end more ≡ whole)
AwaitsOrFails start contents None end whole more = SendsPrefix start contents whole

module _ {W : Type 0} where
  -- Since the writer had these bytes, the printer was asked to print the text: it went out but for what waits, or printing
  -- failed, and nothing or a prefix of it went out
  abbrev pub Asked : Option (List ℕ) → Printed W → List ℕ → Type 0
  Asked start printer text = SendsOrFails start printer.contents text printer.waiting

  -- the printer has the style and the writer that it had; if printing had failed, it is as it was
  pub record Same (old new : Printed W) : Type 0 where
    pub style : new.style ≡ old.style
    pub borrow : new.borrow ≡ old.borrow
    pub stays : old.waiting ≡ None → new ≡ old

  -- the printer was asked to print these lines
  pub record Prints (old new : Printed W) (lines : List (List Part)) : Type 0 where
    pub same : Same old new
    pub asked : (start : Option (List ℕ)) (text : List ℕ) → Asked start old text → Asked start new (text ++ styled_text old.style lines)

  -- the printer has begun a line: with these parts and the end of the line it was asked to print the text
  abbrev pub Awaits : Option (List ℕ) → Printed W → List ℕ → List Part → Type 0
  Awaits start printer whole more = AwaitsOrFails start printer.contents printer.waiting (line_from printer.style printer.at) whole more

  -- the printer began a line with these parts
  pub record Begins (old new : Printed W) (parts : List Part) : Type 0 where
    pub same : Same old new
    pub awaits : (start : Option (List ℕ)) (text : List ℕ) (more : List Part) → Asked start old text → Awaits start new (text ++ line_text old.style (parts ++ more)) more

  -- the printer took more parts of its line
  pub record Adds (old new : Printed W) (parts : List Part) : Type 0 where
    pub same : Same old new
    pub awaits : (start : Option (List ℕ)) (whole : List ℕ) (more : List Part) → Awaits start old whole (parts ++ more) → Awaits start new whole more

  -- the printer ended its line
  pub record Ends (old new : Printed W) : Type 0 where
    pub same : Same old new
    pub asked : (start : Option (List ℕ)) (whole : List ℕ) → Awaits start old whole [] → Asked start new whole

  -- If the printer is asked to print what is left, then since the old one it was asked to print all
  abbrev pub Completes : Printed W → Printed W → List (List Part) → List (List Part) → Type 0
  Completes old now left all = (later : Printed W) → Prints now later left → Prints old later all
