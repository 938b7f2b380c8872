-- A difference in its place.
use Rattle.std.proofs.Common.{◌≡◌, ◌⊎◌, inl, inr, ℕ, Bool, true, false, List, [], ◌∷◌, Result, Ok, Err, OnOk, refl, sym, ap, subst, ◌∙◌}
use Rattle.std.specs.declared.cmp.Ordering.{Ordering}
use Rattle.std.specs.declared.cmp.Ordering.TheVariants.{Less, Equal, Greater}
use Rattle.std.specs.Ordering.{nat_cmp, ordering_reverse}
use Rattle.std.specs.Cmp.Lexicographic.{slice_cmp}
use Rattle.std.specs.List.{AllByRecursion}
use Rattle.fs_semantics.specs.FileTree.{Tree}
use Rattle.fs_lang.specs.PathText.{path_text}
use Rattle.tree_differences.specs.declared.placing.Difference.{Difference}
use Rattle.tree_differences.specs.Differences.{IsDifference}
use Rattle.tree_differences.specs.Listed.{difference_of, placed, placed_by, HasText, TextsRise, AreListed}
use Rattle.tree_differences.proofs.OrderLaws.{text_total, text_same, any_order}

-- what holds of a difference and of all others holds of all, wherever it is put
all_by : (P : Difference → Type 0) (o : Ordering) (d e : Difference) (es more : List Difference) → P d → P e → AllByRecursion P es → AllByRecursion P more → AllByRecursion P (placed_by o d e es more)
all_by P Less d e es more h k x y = (k, y)
all_by P Equal d e es more h k x y = (k, x)
all_by P Greater d e es more h k x y = (h, (k, x))

-- and so it is when it is put in its place
pub all_placed : (P : Difference → Type 0) (d : Difference) (es : List Difference) → P d → AllByRecursion P es → AllByRecursion P (placed d es)
all_placed P d [] h k = (h, tt)
all_placed P d (e ∷ es) h k = all_by P (slice_cmp nat_cmp e.text d.text) d e es (placed d es) h k.0 k.1 (all_placed P d es h k.1)

-- what comes before one that comes before all of these does so too
before_all : (x y : List ℕ) (es : List Difference) → slice_cmp nat_cmp x y ≡ Less → AllByRecursion (λ e. slice_cmp nat_cmp y e.text ≡ Less) es → AllByRecursion (λ e. slice_cmp nat_cmp x e.text ≡ Less) es
before_all x y [] h k = tt
before_all x y (e ∷ es) h k = (text_total.trans x y e.text h k.0, before_all x y es h k.1)

-- texts still rise when a difference is put in its place
pub rises_placed : (d : Difference) (es : List Difference) → TextsRise es → TextsRise (placed d es)
rises_placed d [] h = (tt, tt)
rises_placed d (e ∷ es) h = elim (any_order (slice_cmp nat_cmp e.text d.text)) [
  | inl less ↦ subst (λ o. TextsRise (placed_by o d e es (placed d es))) (sym less) (all_placed (λ x. slice_cmp nat_cmp e.text x.text ≡ Less) d es less h.0, rises_placed d es h.1)
  | inr more ↦ elim more [
    | inl same ↦ subst (λ o. TextsRise (placed_by o d e es (placed d es))) (sym same) h
    | inr later ↦
        let first : slice_cmp nat_cmp d.text e.text ≡ Less = text_total.antisymm d.text e.text ∙ ap ordering_reverse later in
        subst (λ o. TextsRise (placed_by o d e es (placed d es))) (sym later) ((first, before_all d.text e.text es first h.0), h)
  ]
]

-- each text is still there, wherever a difference is put
kept_by : (o : Ordering) (d e : Difference) (es more : List Difference) (text : List ℕ) → (HasText es text → HasText more text) → HasText (e ∷ es) text → HasText (placed_by o d e es more) text
kept_by Less d e es more text f h = elim h [ inl here ↦ inl here | inr there ↦ inr (f there) ]
kept_by Equal d e es more text f h = h
kept_by Greater d e es more text f h = inr h

-- and so it is when it is put in its place
pub kept_placed : (d : Difference) (es : List Difference) (text : List ℕ) → HasText es text → HasText (placed d es) text
kept_placed d [] text h = absurd h
kept_placed d (e ∷ es) text h = kept_by (slice_cmp nat_cmp e.text d.text) d e es (placed d es) text (kept_placed d es text) h

-- the text of a difference is there, wherever it is put
there_by : (o : Ordering) (d e : Difference) (es more : List Difference) → (o ≡ Equal → e.text ≡ d.text) → HasText more d.text → HasText (placed_by o d e es more) d.text
there_by Less d e es more f h = inr h
there_by Equal d e es more f h = inl (f refl)
there_by Greater d e es more f h = inl refl

-- and so it is when it is put in its place
pub there_placed : (d : Difference) (es : List Difference) → HasText (placed d es) d.text
there_placed d [] = inl refl
there_placed d (e ∷ es) = there_by (slice_cmp nat_cmp e.text d.text) d e es (placed d es) (text_same e.text d.text) (there_placed d es)

-- a list of differences, with one more in its place, is one
pub listed_placed : (t u : Tree) (d : Difference) (es : List Difference) → d.text ≡ path_text d.path.now → IsDifference t u (difference_of d) → AreListed t u es → AreListed t u (placed d es)
listed_placed t u d es text is h = record {
  texts = all_placed (λ x. x.text ≡ path_text x.path.now) d es text h.texts;
  each = all_placed (λ x. IsDifference t u (difference_of x)) d es is h.each;
  order = rises_placed d es h.order;
}

-- an empty list is one of differences
pub no_listed : (t u : Tree) (ds : List Difference) → ds ≡ [] → AreListed t u ds
no_listed t u ds e = subst (AreListed t u) (sym e) (record { texts = tt; each = tt; order = tt })

-- what follows from what holds of an Ok result holds of an Ok result
pub when_ok : {X E P Q : Type 0} (r : Result X E) → (P → Q) → OnOk r P → OnOk r Q
when_ok (Ok x) f h = f h
when_ok (Err e) f h = tt

-- ---- of a list with a difference more

-- what was made of a list by putting a difference in its place is a list of differences
pub listed_after : (t u : Tree) (d : Difference) (old new : List Difference) → new ≡ placed d old → d.text ≡ path_text d.path.now → IsDifference t u (difference_of d) → AreListed t u old → AreListed t u new
listed_after t u d old new e text is h = subst (AreListed t u) (sym e) (listed_placed t u d old text is h)

-- it has each text that was there
pub kept_after : (d : Difference) (old new : List Difference) → new ≡ placed d old → (text : List ℕ) → HasText old text → HasText new text
kept_after d old new e text h = subst (λ xs. HasText xs text) (sym e) (kept_placed d old text h)

-- and that of the difference's path
pub there_after : (d : Difference) (old new : List Difference) → new ≡ placed d old → d.text ≡ path_text d.path.now → HasText new (path_text d.path.now)
there_after d old new e text = subst (λ xs. HasText xs (path_text d.path.now)) (sym e) (subst (HasText (placed d old)) text (there_placed d old))
