use Rattle.writer.proofs.Prelude.{◌≡◌, ℕ, ◌≤◌, ◌<◌, List, Result, Ok, Err, IfOk, IfErr, length, refl, ap, arith, ◌↔◌, ⊤}
use Rattle.writer.specs.Errors.{MatchError}
use Rattle.writer.specs.declared.error.WriteError.{WriteError}
use Rattle.writer.specs.declared.error.WriteError.TheVariants as error
use Rattle.writer.proofs.canonical_root.prepare.Goals as goal

exactly : (limit : ℕ) (root : List ℕ) (result : Result (List ℕ) WriteError) → IfOk result (λ bytes. bytes ≡ root) → IfOk result (λ bytes. length bytes ≤ limit)
    → IfErr result (MatchError (limit < length root) ⊤ (λ given. ⊥)) → ¬ (result ≡ Err error.Memory) → (result ≡ Err error.TooLarge) ↔ (limit < length root)
exactly limit root (Ok bytes) is within refused some = (λ e. absurd cc, λ long. absurd (omega (arith, ap length is, within, long)))
exactly limit root (Err error.TooLarge) is within refused some = (λ e. refused, λ long. refl)
exactly limit root (Err error.Memory) is within refused some = absurd (some refl)
exactly limit root (Err (error.Device given)) is within refused some = absurd refused

pub returns-clause-too_large : goal.returns-clause-too_large
returns-clause-too_large g c = λ model shown. exactly _ _ _ (c.make_root.ensures.root model shown) c.make_root.ensures.within (c.make_root.ensures.refused model shown)
