-- The order of texts by their bytes.
use Rattle.std.proofs.Common.{◌≡◌, ◌⊎◌, inl, inr, ℕ, List, refl, sym, ◌∙◌}
use Rattle.std.specs.declared.cmp.Ordering.{Ordering}
use Rattle.std.specs.declared.cmp.Ordering.TheVariants.{Less, Equal, Greater}
use Rattle.std.specs.Ordering.{nat_cmp}
use Rattle.std.specs.Cmp.{IsTotalOrder, nat_cmp_total}
use Rattle.std.specs.Cmp.Lexicographic.{slice_cmp}
use Rattle.std.specs.FinMap.{IsAntisymmetric, nat_cmp-IsAntisymmetric, slice_cmp-IsAntisymmetric}
use Rattle.std.proofs.lemmas.Cmp.{lists_total}

-- texts are ordered, each with each
pub text_total : IsTotalOrder (slice_cmp nat_cmp)
text_total = lists_total nat_cmp_total

-- texts that compare equal are the same
pub text_same : IsAntisymmetric (slice_cmp nat_cmp)
text_same = slice_cmp-IsAntisymmetric nat_cmp-IsAntisymmetric

-- one thing is less than another, equal to it, or greater
pub any_order : (o : Ordering) → (o ≡ Less) ⊎ ((o ≡ Equal) ⊎ (o ≡ Greater))
any_order Less = inl refl
any_order Equal = inr (inl refl)
any_order Greater = inr (inr refl)
