-- The data sections of a method body, one after another.
use Rattle.file_ranges.proofs.Prelude.{◌≡◌, ◌==◌, ℕ, suc, ◌+◌, ◌/◌, List, Some, None, cond, length, ltb, refl, data_end, data_size, byte_at, aligned}

-- no more sections are looked at
pub none_left : (body : List ℕ) (left offset : ℕ) → left ≡ 0 → data_end body left offset ≡ None
unfolding data_end
none_left body left offset e = rw e refl

-- the next section is past the end, shorter than its header, the last, or one that another follows
pub next : (body : List ℕ) (left more offset start size : ℕ) → left ≡ suc more → start ≡ aligned 4 offset → size ≡ data_size body start
    → data_end body left offset ≡ cond (ltb (length body) (start + 4)) None (cond (ltb size 4) None
    (cond (byte_at body start / 0x80 == 0) (Some (start + size)) (data_end body more (start + size))))
unfolding data_end
next body left more offset start size left_is start_is size_is = rw (left_is, size_is, start_is) refl
