use Rattle.blob_values.proofs.DescriptorPrelude.{◌≡◌, ◌∙◌, ℕ, ◌<◌, ◌^◌, Option, None, Some, IfSome, get_or, sym, rules, IsSomeAnd, option_map, IsDescriptor, descriptor_of}
use Rattle.blob_values.proofs.AgainLemmas.{descriptor_again}
use Rattle.blob_values.proofs.FormLemmas.{descriptor_found}
use Rattle.blob_values.proofs.DescriptorPartLemmas.{NumbersAreRead}
use Rattle.blob_values.proofs.read.read_descriptor.Goals as goal

-- facts of the value in an option, by what it is a map of
some_seen : {A B : Type 0} (P : B → Type 0) (f : A → B) (o : Option A) (q : Option B) → option_map f o ≡ q → ((y : B) → q ≡ Some y → P y) → IfSome o (λ x. P (f x))
some_seen P f None q e k = tt
some_seen P f (Some x) q e k = k (f x) (sym e)

some_there : {A B : Type 0} (f : A → B) (o : Option A) (y : B) → option_map f o ≡ Some y → IsSomeAnd o (λ x. f x ≡ y)
some_there f None y e = cc
some_there f (Some x) y e = cc

pub returns : goal.returns
returns c =
    let known : NumbersAreRead = record { found = c.numbers_are_read.ensures.unsigned; again = c.numbers_are_read.ensures.unsigned_only } in
    let blob = c.args.blob.now in
    let small : (k : ℕ) → get_or c.args.blob.now k 0 < 2 ^ 8 = λ k. let f = c.type_inv.blob k in search rules in
    record {
      sound = some_seen (λ v. IsDescriptor v blob) _ c.first.result (descriptor_of blob) c.first.ensures (λ v is. descriptor_found known v blob small is);
      complete = λ v is. some_there _ c.first.result v (c.first.ensures ∙ descriptor_again known v blob is);
      value = c.first.ensures;
    }
