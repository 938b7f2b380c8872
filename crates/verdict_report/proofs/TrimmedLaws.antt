-- Laws of refutations of which only the steps that are used are left.
use Rattle.std.proofs.Common.{◌≡◌, ℕ, List, [], ◌∷◌, ◌++◌, refl, sym, ap, ◌∙◌, subst}
use Rattle.std.specs.List.{AllByRecursion}
use Rattle.proof_check.specs.Refuted.{Refutation}
use Rattle.trimmed_proofs.specs.Trimmed.{IsTrimmed, IsTrimmedOf}
use Rattle.verdict_report.specs.declared.report.Form.{Form}
use Rattle.verdict_report.specs.declared.report.Form.TheVariants as form
use Rattle.verdict_report.specs.Lines.{proofs_text}
use Rattle.verdict_report.specs.Told.{IsProved, IsText, IsTextOf, AreTrimmedOf}

-- of none none is left
pub trimmed_none : (refuted left : List Refutation) → refuted ≡ [] → left ≡ [] → AreTrimmedOf refuted left
trimmed_none [] [] h k = tt
trimmed_none [] (q ∷ left) h k = absurd cc
trimmed_none (p ∷ refuted) left h k = absurd cc

-- one more
pub trimmed_more : (refuted left : List Refutation) (p q : Refutation) → AreTrimmedOf refuted left → IsTrimmedOf p q → AreTrimmedOf (refuted ++ p ∷ []) (left ++ q ∷ [])
trimmed_more [] [] p q h new = (new, tt)
trimmed_more [] (r ∷ left) p q h new = absurd h
trimmed_more (s ∷ refuted) [] p q h new = absurd h
trimmed_more (s ∷ refuted) (r ∷ left) p q h new = (h.0, trimmed_more refuted left p q h.1 new)

-- each has only steps that are used
pub all_used : (refuted left : List Refutation) → AreTrimmedOf refuted left → AllByRecursion IsTrimmed left
all_used [] [] h = tt
all_used [] (q ∷ left) h = absurd h
all_used (p ∷ refuted) [] h = absurd h
all_used (p ∷ refuted) (q ∷ left) h = (h.0.used, all_used refuted left h.1)

-- the text of what is left is that of the refutations
pub told_proofs : (refuted slice left seen : List Refutation) (text : List ℕ) → slice ≡ refuted → AreTrimmedOf slice left → seen ≡ left → text ≡ proofs_text seen
    → AllByRecursion IsProved seen → IsTextOf form.Proofs [] refuted text
told_proofs refuted slice left seen text is trimmed same written proved = (
  seen,
  subst (λ ps. AreTrimmedOf ps seen) is (subst (AreTrimmedOf slice) (sym same) trimmed),
  (written, proved, all_used slice seen (subst (AreTrimmedOf slice) (sym same) trimmed)),
)

-- these have the formulas of those, in the same order
abbrev pub HaveFormulasOf : List Refutation → List Refutation → Type 0
HaveFormulasOf [] [] = Unit {0}
HaveFormulasOf [] (q ∷ left) = ⊥
HaveFormulasOf (p ∷ refuted) [] = ⊥
HaveFormulasOf (p ∷ refuted) (q ∷ left) = (q.formula ≡ p.formula) × HaveFormulasOf refuted left

-- each has its own formula
own_formulas : (refuted : List Refutation) → HaveFormulasOf refuted refuted
own_formulas [] = tt
own_formulas (p ∷ refuted) = (refl, own_formulas refuted)

-- with fewer steps the formulas are the same
same_formulas : (refuted left : List Refutation) → AreTrimmedOf refuted left → HaveFormulasOf refuted left
same_formulas [] [] h = tt
same_formulas [] (q ∷ left) h = absurd h
same_formulas (p ∷ refuted) [] h = absurd h
same_formulas (p ∷ refuted) (q ∷ left) h = (h.0.formula, same_formulas refuted left h.1)

-- a text is that of lines, or of refutations of the same formulas
pub told_text : (f : Form) (lines : List ℕ) (refuted : List Refutation) (text : List ℕ) → IsTextOf f lines refuted text
    → (left : List Refutation) × HaveFormulasOf refuted left × IsText f lines left text
told_text form.Lines lines refuted text h = (refuted, own_formulas refuted, h)
told_text form.Proofs lines refuted text h = (h.0, same_formulas refuted h.0 h.1, h.2)

-- of none there are none
pub none_left : (refuted left : List Refutation) → HaveFormulasOf refuted left → refuted ≡ [] → left ≡ []
none_left [] [] h k = refl
none_left [] (q ∷ left) h k = absurd h
none_left (p ∷ refuted) left h k = absurd cc

-- the last one is the last
pub last_left : (front : List Refutation) (last : Refutation) (left : List Refutation) → HaveFormulasOf (front ++ last ∷ []) left
    → (others : List Refutation) × (one : Refutation) × (left ≡ others ++ one ∷ []) × HaveFormulasOf front others × (one.formula ≡ last.formula)
last_left [] last [] h = absurd h
last_left [] last (q ∷ []) h = ([], q, refl, tt, h.0)
last_left [] last (q ∷ r ∷ left) h = absurd h.1
last_left (p ∷ front) last [] h = absurd h
last_left (p ∷ front) last (q ∷ left) h = let rest = last_left front last left h.1 in (q ∷ rest.0, rest.1, ap (λ xs. q ∷ xs) rest.2, (h.0, rest.3), rest.4)
