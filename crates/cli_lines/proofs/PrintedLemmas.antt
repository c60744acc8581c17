-- What a printer was asked to print.
use Rattle.std.proofs.Common.{◌≡◌, ◌∙◌, ℕ, List, [], ◌∷◌, ◌++◌, Option, None, Some, refl, ap, sym, subst, append_assoc, append-nil}
use Rattle.cli_lines.proofs.Prelude.{GName, flat_map-append, Before, Line, Part, Style, lead, line_from, line_text, style, styled_text, Adds, AwaitsOrFails, Begins, Completes, Ends, Printed, Prints, Same, SendsOrFails, prefix_longer, prefix_more, sends_more}
use Rattle.cli_sending.specs.Sent.{Sends, SendsPrefix}

report_of_line : (look : Style) (line : List Part) → styled_text look (line ∷ []) ≡ line_text look line
unfolding styled_text
report_of_line look line = append-nil (line_text look line)

report_joined : (look : Style) (xs ys : List (List Part)) → styled_text look (xs ++ ys) ≡ styled_text look xs ++ styled_text look ys
unfolding styled_text
report_joined look xs ys = flat_map-append (line_text look) xs ys

pub then_same : {W : Type 0} (a b c : Printed W) → Same a b → Same b c → Same a c
then_same a b c first second = record {
  style = second.style ∙ first.style;
  borrow = second.borrow ∙ first.borrow;
  stays = λ none. let unchanged = first.stays none in second.stays (ap (λ (p : Printed _). p.waiting) unchanged ∙ none) ∙ unchanged;
}

pub itself : {W : Type 0} (a : Printed W) → Same a a
itself a = record { style = refl; borrow = refl; stays = λ none. refl }

pub prints_nothing : {W : Type 0} (a : Printed W) → Prints a a []
unfolding styled_text
prints_nothing a = record { same = itself a; asked = λ start text asked. rw (append-nil text) asked }

pub prints_more : {W : Type 0} (a b c : Printed W) (xs ys : List (List Part)) → Prints a b xs → Prints b c ys → Prints a c (xs ++ ys)
prints_more a b c xs ys first second = record {
  same = then_same a b c first.same second.same;
  asked = λ start text asked.
      rw (report_joined a.style xs ys, ← append_assoc text (styled_text a.style xs) (styled_text a.style ys))
      (rw first.same.style at (second.asked start (text ++ styled_text a.style xs) (first.asked start text asked)));
}

-- the bytes that went out come first
moved_on : (sent waiting left x y prefix whole : List ℕ) → prefix ≡ sent ++ waiting → left ++ x ≡ waiting ++ y → prefix ++ y ≡ whole → (sent ++ left) ++ x ≡ whole
moved_on sent waiting left x y prefix whole prefix_is same is = rw (append_assoc sent left x, same, ← append_assoc sent waiting y, ← prefix_is) is

-- what was to be printed went out in part, or not at all
asked_cut : (start contents unsent : Option (List ℕ)) (text more : List ℕ) → SendsOrFails start contents text unsent → SendsPrefix start contents (text ++ more)
asked_cut start contents (Some waiting) text more sends = prefix_longer start contents text more (waiting, sends)
asked_cut start contents None text more cut = prefix_longer start contents text more cut

awaits_cut : (start contents unsent : Option (List ℕ)) (end : List Part → List ℕ) (whole : List ℕ) (more : List Part) → AwaitsOrFails start contents unsent end whole more
    → SendsPrefix start contents whole
awaits_cut start contents (Some waiting) end whole more awaits =
    subst (λ (bytes : List ℕ). SendsPrefix start contents bytes) awaits.2 (prefix_longer start contents awaits.0 (end more) (waiting, awaits.1))
awaits_cut start contents None end whole more cut = cut

-- what contracts see of a printer
module _ {W : Type 0} (look : Style) (borrow : GName) where
  abbrev pub seen : W → Option (List ℕ) → Before → Option (List ℕ) → Printed W
  seen out contents at waiting = record { style = look; borrow = borrow; out = out; contents = contents; waiting = waiting; at = at }

  -- a printer that failed takes nothing, and one that fails takes any parts and lines
  module _ (out : W) (contents : Option (List ℕ)) (at : Before) (unsent : Option (List ℕ)) where
    fails : Same (seen out contents at unsent) (seen out contents at None)
    fails = record { style = refl; borrow = refl; stays = λ none. ap (seen out contents at) (sym none) }

    pub begins_cut : (parts : List Part) → Begins (seen out contents at unsent) (seen out contents at None) parts
    begins_cut parts = record { same = fails; awaits = λ start text more asked. asked_cut start contents unsent text (line_text look (parts ++ more)) asked }

    pub adds_cut : (parts : List Part) → Adds (seen out contents at unsent) (seen out contents at None) parts
    adds_cut parts = record { same = fails; awaits = λ start whole more awaits. awaits_cut start contents unsent (line_from look at) whole (parts ++ more) awaits }

    pub ends_cut : Ends (seen out contents at unsent) (seen out contents at None)
    ends_cut = record { same = fails; asked = λ start whole awaits. awaits_cut start contents unsent (line_from look at) whole [] awaits }

    pub prints_cut : (lines : List (List Part)) → Prints (seen out contents at unsent) (seen out contents at None) lines
    prints_cut lines = record { same = fails; asked = λ start text asked. asked_cut start contents unsent text (styled_text look lines) asked }

  -- a printer that goes on
  module _ (out : W) (contents : Option (List ℕ)) (waiting : List ℕ) (at : Before) where
    changed : (later : W) (after left : Option (List ℕ)) (now : Before) → Same (seen out contents at (Some waiting)) (seen later after now left)
    changed later after left now = record { style = refl; borrow = refl; stays = λ none. cc }

    pub started : (left : List ℕ) → left ≡ waiting ++ lead look.form look.file → Begins (seen out contents at (Some waiting)) (seen out contents Line (Some left)) []
    started left pushed = record {
      same = changed out contents (Some left) Line;
      awaits = λ start text more asked. (
        asked.0 ++ left,
        (asked.0, refl, asked.2),
        moved_on asked.0 waiting left (line_from look Line more) (line_text look more) text _ asked.1
            (ap (λ bytes. bytes ++ line_from look Line more) pushed ∙ append_assoc waiting (lead look.form look.file) (line_from look Line more)) refl,
      );
    }

    pub added : (left : List ℕ) (parts : List Part) (now : Before) → ((more : List Part) → left ++ line_from look now more ≡ waiting ++ line_from look at (parts ++ more))
        → Adds (seen out contents at (Some waiting)) (seen out contents now (Some left)) parts
    added left parts now pushed = record {
      same = changed out contents (Some left) now;
      awaits = λ start whole more awaits. (
        awaits.1.0 ++ left,
        (awaits.1.0, refl, awaits.1.2),
        moved_on awaits.1.0 waiting left (line_from look now more) (line_from look at (parts ++ more)) awaits.0 whole awaits.1.1 (pushed more) awaits.2,
      );
    }

    pub ended : (later : W) (after : Option (List ℕ)) (left : List ℕ) → Sends contents after (waiting ++ line_from look at []) left
        → Ends (seen out contents at (Some waiting)) (seen later after at (Some left))
    ended later after left sends = record {
      same = changed later after (Some left) at;
      asked = λ start whole awaits.
          subst (λ (bytes : List ℕ). Sends start after bytes left) awaits.2
          (sends_more start contents after awaits.0 waiting (line_from look at []) left awaits.1 sends);
    }

    pub ended_cut : (later : W) (after : Option (List ℕ)) → SendsPrefix contents after (waiting ++ line_from look at [])
        → Ends (seen out contents at (Some waiting)) (seen later after at None)
    ended_cut later after cut = record {
      same = changed later after None at;
      asked = λ start whole awaits.
          subst (λ (bytes : List ℕ). SendsPrefix start after bytes) awaits.2
          (prefix_more start contents after awaits.0 waiting (line_from look at []) awaits.1 cut);
    }

pub adds_nothing : {W : Type 0} (a : Printed W) → Adds a a []
adds_nothing a = record { same = itself a; awaits = λ start whole more awaits. awaits }

pub adds_more : {W : Type 0} (a b c : Printed W) (xs ys : List Part) → Adds a b xs → Adds b c ys → Adds a c (xs ++ ys)
adds_more a b c xs ys first second = record {
  same = then_same a b c first.same second.same;
  awaits = λ start whole more awaits.
      second.awaits start whole more (first.awaits start whole (ys ++ more) (rw (append_assoc xs ys more) at awaits));
}

pub begins_more : {W : Type 0} (a b c : Printed W) (xs ys : List Part) → Begins a b xs → Adds b c ys → Begins a c (xs ++ ys)
begins_more a b c xs ys begins adds = record {
  same = then_same a b c begins.same adds.same;
  awaits = λ start text more asked.
      rw (append_assoc xs ys more) (adds.awaits start (text ++ line_text a.style (xs ++ (ys ++ more))) more (begins.awaits start text (ys ++ more) asked));
}

pub line_printed : {W : Type 0} (a b c d : Printed W) (xs ys : List Part) → Begins a b xs → Adds b c ys → Ends c d → Prints a d ((xs ++ ys) ∷ [])
line_printed a b c d xs ys begins adds ends = record {
  same = then_same a b d begins.same (then_same b c d adds.same ends.same);
  asked = λ start text asked.
      let whole = text ++ line_text a.style (xs ++ ys) in
      rw (report_of_line a.style (xs ++ ys)) (ends.asked start whole (adds.awaits start whole [] (rw (append-nil ys) (begins.awaits start text ys asked))));
}

pub whole_line : {W : Type 0} (a b c : Printed W) (xs : List Part) → Begins a b xs → Ends b c → Prints a c (xs ∷ [])
whole_line a b c xs begins ends = rw (append-nil xs) at (line_printed a b b c xs [] begins (adds_nothing b) ends)

pub completed : {W : Type 0} (old now next : Printed W) (lines left all : List (List Part)) → Completes old now (lines ++ left) all → Prints now next lines
    → Completes old next left all
completed old now next lines left all completes printed = λ later more. completes later (prints_more now next later lines left printed more)

pub all_completed : {W : Type 0} (old new : Printed W) (all : List (List Part)) → Completes old new [] all → Prints old new all
all_completed old new all completes = completes new (prints_nothing new)
