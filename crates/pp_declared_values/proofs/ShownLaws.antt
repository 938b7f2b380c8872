-- Arguments as texts.
use Rattle.std.proofs.Common.{◌≡◌, ℕ, Bool, true, false, cond, ◌||◌, List, [], ◌∷◌, ◌++◌, refl, sym, ap, ◌∙◌, subst, append_assoc}
use Rattle.std.specs.Prelude.{codes, Some, None, Result, Ok, Err}
use Rattle.rh_base.specs.declared.fault.Refusal.{Refusal}
use Rattle.pp_value.specs.declared.value.Value.{Value}
use Rattle.pp_value.specs.declared.value.Value.TheVariants as v
use Rattle.pp_value.specs.declared.fault.Misfit.{Misfit}
use Rattle.pp_value.specs.declared.fault.Misfit.TheVariants.{Operand}
use Rattle.pp_value.specs.Values.{has_opaque}
use Rattle.pp_value.specs.Shown.{show_table, shown, is_long_text}
use Rattle.pp_eval.specs.Evaluating.{◌>>=◌, if_there, too_large}
use Rattle.pp_eval.specs.Evaluation.{limited_text}
use Rattle.catalog_semantics.specs.Functions.{shown_argument, spaced}

-- an argument whose text is too large is refused
pub too_long : (at : ℕ) (x : Value) (more : List ℕ) → show_table x ≡ Ok more → is_long_text more ≡ true → shown_argument (at, x) ≡ Err (too_large at)
too_long at x more h large = by_test (has_opaque x) h
  where
    by_test : (b : Bool) → ◌≡◌ {A = Result (List ℕ) Misfit} (cond b (Err Operand) (Ok (shown x))) (Ok more) → (if_there at (cond b None (Some (shown x))) >>= λ m. limited_text at m) ≡ Err (too_large at)
    by_test true h = cc
    by_test false h = let same : shown x ≡ more = cc in
        ap (λ (b : Bool). cond (b || false) (Err (too_large at)) (Ok (v.Str (shown x))) >>= λ y. Ok (shown x)) (subst (λ (m : List ℕ). is_long_text m ≡ true) (sym same) large)

-- one whose text isn't is shown
pub fits : (at : ℕ) (x : Value) (more : List ℕ) → show_table x ≡ Ok more → is_long_text more ≡ false → shown_argument (at, x) ≡ Ok more
fits at x more h small = by_test (has_opaque x) h
  where
    by_test : (b : Bool) → ◌≡◌ {A = Result (List ℕ) Misfit} (cond b (Err Operand) (Ok (shown x))) (Ok more) → (if_there at (cond b None (Some (shown x))) >>= λ m. limited_text at m) ≡ Ok more
    by_test true h = cc
    by_test false h = let same : shown x ≡ more = cc in
        ap (λ (b : Bool). cond (b || false) (Err (too_large at)) (Ok (v.Str (shown x))) >>= λ y. Ok (shown x)) (subst (λ (m : List ℕ). is_long_text m ≡ false) (sym same) small)
        ∙ ap (λ (m : List ℕ). Ok m) same

-- what stands so far, and what is shown behind it
abbrev pub texts_behind : List (List ℕ) → Result (List (List ℕ)) Refusal → Result (List (List ℕ)) Refusal
texts_behind before r = r >>= λ more. Ok (before ++ more)

-- one more text that is shown is one less to show
pub next_shown : (before : List (List ℕ)) (text : List ℕ) (r : Result (List (List ℕ)) Refusal) → texts_behind before (r >>= λ texts. Ok (text ∷ texts)) ≡ texts_behind (before ++ text ∷ []) r
next_shown before text (Ok texts) = ap (λ (xs : List (List ℕ)). Ok xs) (sym (append_assoc before (text ∷ []) texts))
next_shown before text (Err e) = refl

-- a text, and others behind it, each behind a space
abbrev pub spaced_behind : List ℕ → List (List ℕ) → List ℕ
spaced_behind text [] = text
spaced_behind text (other ∷ texts) = spaced_behind ((text ++ codes " ") ++ other) texts

-- a front before the first text is one before all
pub spaced_is : (front : List ℕ) (text : List ℕ) (texts : List (List ℕ)) → spaced_behind (front ++ text) texts ≡ front ++ spaced (text ∷ texts)
spaced_is front text [] = refl
spaced_is front text (other ∷ texts) =
    spaced_is ((front ++ text) ++ codes " ") other texts
    ∙ (append_assoc (front ++ text) (codes " ") (spaced (other ∷ texts)) ∙ append_assoc front text (codes " " ++ spaced (other ∷ texts)))

-- texts one after the other are texts with a space between them
pub spaced_first : (text : List ℕ) (texts : List (List ℕ)) → spaced_behind text texts ≡ spaced (text ∷ texts)
spaced_first text texts = spaced_is [] text texts
