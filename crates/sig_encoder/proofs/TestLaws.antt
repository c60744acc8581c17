-- The equality test of two signatures is true if and only if they are equal.
use Rattle.std.proofs.Common.{◌≡◌, refl, ap, sym}
use Rattle.std.specs.Bool.{Decides}
use Rattle.std.specs.Cmp.{IsEquivalence}
use Rattle.std.proofs.lemmas.Bool.Decides.{same_from_decides, Decides-and, Decides-like, Decides-eqb}
use base.Stored.{Gv, gnil, gnum, gcons}
use Rattle.sig_grammar.specs.Syntax.{Body}
use Rattle.sig_grammar.specs.Code.{body_code}
use Rattle.sig_encoder.specs.Same.{is_same_tree, is_same_body}
use Rattle.sig_encoder.proofs.SameLemmas.{denied}

tree_decides : (g h : Gv) → Decides (is_same_tree g h) (g ≡ h)
tree_decides gnil gnil = (λ _. refl, λ _. refl)
tree_decides (gnum m) (gnum n) = Decides-like _ (λ e. ap gnum e) (λ e. cc e) (Decides-eqb m n)
tree_decides (gcons a b) (gcons c d) =
    Decides-like _ (λ p i. gcons (p.0 i) (p.1 i)) (λ e. (cc e, cc e))
    (Decides-and _ _ (tree_decides a c) (tree_decides b d))
tree_decides _ _ = denied (λ e. absurd (cc e))

pub body_decides : (a b : Body) → Decides (is_same_body a b) (a ≡ b)
body_decides a b =
    Decides-like _ (body_code.inj a b) (λ e. ap body_code.code e)
    (tree_decides (body_code.code a) (body_code.code b))

-- so it is an equivalence relation
pub same_bodies_equiv : IsEquivalence is_same_body
same_bodies_equiv = record {
  refl = λ a. (body_decides a a).1 refl;
  symm = λ a b. same_from_decides _ _ (body_decides a b) (Decides-like _ (λ e. sym e) (λ e. sym e) (body_decides b a));
  congr = λ a b c h. ap (λ (x : Body). is_same_body x c) ((body_decides a b).0 h);
}
