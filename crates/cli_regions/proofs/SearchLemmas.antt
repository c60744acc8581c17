-- What a search keeps.
use Rattle.std.proofs.Common.{◌≡◌, ◌∙◌, ◌+◌, ℕ, List, [], ◌++◌, refl, ap, subst, sym, append_assoc, append-nil}
use Rattle.std.proofs.lemmas.List.{flat_map_more, map-id}
use Rattle.std.proofs.lemmas.List.FromFn.{map-range_with_len_more}
use Rattle.std.specs.List.{flat_map, range_with_len}
use Rattle.std.proofs.lemmas.List.Elements.{filter-append}
use Rattle.cli_regions.specs.Kept.{Adds, Joins, Searched}
use Rattle.cli_regions.specs.Regions.{Region, has_byte, regions_at}

pub joins_none : (search : Searched) → Joins search search []
joins_none search = record { offset = refl; found = λ found is. (found, is, sym (append-nil found)) }

pub joins_more : {old between new : Searched} {xs ys : List Region} → Joins old between xs → Joins between new ys → Joins old new (xs ++ ys)
joins_more {old} {between} {new} {xs} {ys} first later = record {
  offset = later.offset ∙ first.offset;
  found = λ found is.
      let at = later.found found is in
      let from = first.found at.0 at.1 in
      (from.0, from.1, at.2 ∙ ap (λ zs. zs ++ ys) from.2 ∙ append_assoc from.0 xs ys);
}

pub adds_none : (search : Searched) → Adds search search []
unfolding regions_at
adds_none search = record { joins = joins_none search }

-- some structures, and then others
pub and_then : {old between new : Searched} {xs ys : List Region} → Adds old between xs → Adds between new ys → Adds old new (xs ++ ys)
unfolding regions_at
and_then {old} {between} {new} {xs} {ys} first later =
    let there = subst (λ (offset : ℕ). Joins between new (regions_at offset ys)) first.joins.offset later.joins in
    record { joins = rw (filter-append (λ (of : Region). has_byte of.start of.size old.offset) xs ys) (joins_more first.joins there) }

-- those of one more number
pub numbered_more : {X : Type 0} (f : ℕ → List X) (first count next : ℕ) → first + count ≡ next → flat_map f (range_with_len first count) ++ f next ≡ flat_map f (range_with_len first (count + 1))
numbered_more f first count next at =
    flat_map_more f [] (range_with_len first count) next ∙ ap (flat_map f) (sym (simp map-id at (map-range_with_len_more (λ (k : ℕ). k) first count next at)))

-- the same structures by another name
pub said_as : {old new : Searched} {xs ys : List Region} → Adds old new xs → xs ≡ ys → Adds old new ys
said_as {old} {new} {xs} {ys} adds is = subst (λ (zs : List Region). Adds old new zs) is adds

-- if what is left is looked at, too, the search has looked at all
abbrev pub Completes : Searched → Searched → List Region → List Region → Type 0
Completes old now left all = (later : Searched) → Adds now later left → Adds old later all

-- the first of what is left
pub more_left : {start old new : Searched} {all first : List Region} (left tail : List Region) → Completes start old left all → left ≡ first ++ tail → Adds old new first
    → Completes start new tail all
more_left left tail completes next is = λ later more. completes later (said_as (and_then is more) (sym next))

-- nothing is left
pub none_left : {start now : Searched} {all : List Region} (left : List Region) → Completes start now left all → left ≡ [] → Adds start now all
none_left {start} {now} left completes none = completes now (said_as (adds_none now) (sym none))
