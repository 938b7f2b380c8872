-- One step from the left, over plain lists.
use Rattle.std.proofs.Common.{◌≡◌, ℕ, List, [], ◌∷◌, ◌++◌, refl, sym, ap, ◌∙◌, append_assoc}
use Rattle.std.specs.Prelude.{Option, Some, None, option_map, option_and_then, Result, Ok, Err}
use Rattle.rh_base.specs.declared.fault.Refusal.{Refusal}
use Rattle.pp_value.specs.declared.value.Ref.{Ref}
use Rattle.pp_eval.specs.Evaluating.{◌>>=◌}
use Rattle.pp_declared_values.specs.Found.{refs_behind}

-- what stands so far, and what is found behind it
abbrev pub found_behind : {X : Type 0} → List X → Option (List X) → Option (List X)
found_behind before found = option_map (λ more. before ++ more) found

-- one more text that is found is one less to find
pub next_text : (before : List (List ℕ)) (text : List ℕ) (rest : Option (List (List ℕ))) → found_behind before (option_map (λ texts. text ∷ texts) rest) ≡ found_behind (before ++ text ∷ []) rest
next_text before text None = refl
next_text before text (Some texts) = ap (λ (xs : List (List ℕ)). Some xs) (sym (append_assoc before (text ∷ []) texts))

-- equal lists as found are equal
some_same : {X : Type 0} (x y : List X) → ◌≡◌ {A = Option (List X)} (Some x) (Some y) → x ≡ y
some_same x y h = cc

-- references that are found behind others are those before the rest
pub next_references : (before new : List Ref) (here rest : Option (List Ref)) → found_behind before here ≡ Some new
    → found_behind before (option_and_then (λ first. option_map (λ more. first ++ more) rest) here) ≡ found_behind new rest
next_references before new None rest h = cc
next_references before new (Some first) None h = refl
next_references before new (Some first) (Some more) h =
    ap (λ (xs : List Ref). Some xs) (sym (append_assoc before first more) ∙ ap (λ (xs : List Ref). xs ++ more) (some_same (before ++ first) new h))

-- equal results have equal references
ok_same : (x y : List Ref) → ◌≡◌ {A = Result (List Ref) Refusal} (Ok x) (Ok y) → x ≡ y
ok_same x y h = cc

-- the same where they may be refused
pub next_refs : (before new : List Ref) (t r : Result (List Ref) Refusal) → refs_behind before t ≡ Ok new
    → refs_behind before (t >>= λ here. r >>= λ more. Ok (here ++ more)) ≡ refs_behind new r
next_refs before new (Ok here) (Ok more) h = ap (λ (xs : List Ref). Ok xs) (sym (append_assoc before here more) ∙ ap (λ (xs : List Ref). xs ++ more) (ok_same (before ++ here) new h))
next_refs before new (Ok here) (Err e) h = refl
next_refs before new (Err e) r h = cc
