-- One step of an evaluation from the left, over plain lists.
use Rattle.std.proofs.Common.{◌≡◌, ℕ, List, [], ◌∷◌, ◌++◌, map, refl, sym, ap, ◌∙◌, append_assoc}
use Rattle.std.specs.Prelude.{Option, Some, None, option_map, Result, Ok, Err}
use Rattle.std.proofs.lemmas.List.{map-append}
use Rattle.rh_base.specs.declared.fault.Refusal.{Refusal}
use Rattle.pp_syntax.specs.declared.tree.Op.{Op}
use Rattle.pp_value.specs.declared.value.Value.{Value}
use Rattle.pp_value.specs.Keys.{with_pairs}
use Rattle.pp_value.specs.Values.{Pair, with_pair}
use Rattle.pp_eval.specs.Evaluating.{Evaluation, ◌>>=◌, if_there}
use Rattle.pp_eval.specs.Evaluation.{refer_to, with_references, prefixed, prefix_at}

-- ---- what stands before the rest

-- the values that are found, behind these
abbrev pub behind : List Value → Result (List Value) Refusal → Result (List Value) Refusal
behind before r = r >>= λ xs. Ok (before ++ xs)

-- behind none they are as they are found
pub nothing_before : (r : Result (List Value) Refusal) → behind [] r ≡ r
nothing_before (Ok xs) = refl
nothing_before (Err e) = refl

-- one more value in front is one less to find
pub next_value : (before : List Value) (x : Value) (r : Result (List Value) Refusal) → behind before (r >>= λ xs. Ok (x ∷ xs)) ≡ behind (before ++ x ∷ []) r
next_value before x (Ok xs) = ap (λ (ys : List Value). Ok ys) (sym (append_assoc before (x ∷ []) xs))
next_value before x (Err e) = refl

-- the pairs that are found, put into these one after the other
abbrev pub put_into : List Pair → Result (List Pair) Refusal → Result (List Pair) Refusal
put_into before r = r >>= λ pairs. Ok (with_pairs before pairs)

-- one more pair that is put is one less to find
pub next_pair : (before : List Pair) (p : Pair) (r : Result (List Pair) Refusal) → put_into before (r >>= λ pairs. Ok (p ∷ pairs)) ≡ put_into (with_pair p.0 p.1 before) r
next_pair before p (Ok pairs) = refl
next_pair before p (Err e) = refl

-- ---- references

-- references to some titles and to more are those to all
more_titles : (f : List ℕ → Value) (before new : List Value) (here more : List (List ℕ)) → before ++ map f here ≡ new → before ++ map f (here ++ more) ≡ new ++ map f more
more_titles f before new here more h = ap (λ (xs : List Value). before ++ xs) (map-append f here more) ∙ sym (append_assoc before (map f here) (map f more)) ∙ ap (λ (xs : List Value). xs ++ map f more) h

-- equal results have equal values
found : (x y : List Value) → ◌≡◌ {A = Result (List Value) Refusal} (Ok x) (Ok y) → x ≡ y
found x y h = cc

-- more titles are referred to behind those before
pub next_titles : (kind : List ℕ) (before new : List Value) (t r : Result (List (List ℕ)) Refusal)
    → with_references kind before t ≡ Ok new → with_references kind before (t >>= λ here. r >>= λ more. Ok (here ++ more)) ≡ with_references kind new r
next_titles kind before new (Ok here) (Ok more) h = ap (λ (xs : List Value). Ok xs) (more_titles (refer_to kind) before new here more (found _ _ h))
next_titles kind before new (Ok here) (Err e) h = refl
next_titles kind before new (Err e) r h = cc

-- one more text is one more reference
pub next_text : (at : ℕ) (kind : List ℕ) (before : List Value) (text : List ℕ) (t : Option (List (List ℕ)))
    → with_references kind before (if_there at (option_map (λ texts. text ∷ texts) t)) ≡ with_references kind (before ++ refer_to kind text ∷ []) (if_there at t)
next_text at kind before text None = refl
next_text at kind before text (Some texts) = ap (λ (xs : List Value). Ok xs) (sym (append_assoc before (refer_to kind text ∷ []) (map (refer_to kind) texts)))

-- ---- operators before an operand

-- the last prefix is the first to be applied
pub last_first : (at : ℕ) (front : List Op) (o : Op) (evaluation : Evaluation) → prefix_at at (front ++ o ∷ []) evaluation ≡ prefix_at at front (evaluation >>= λ x. prefixed at o x)
last_first at [] o evaluation = refl
last_first at (p ∷ front) o evaluation = ap (λ (r : Evaluation). r >>= λ x. prefixed at p x) (last_first at front o evaluation)

-- prefixes of what is refused are refused alike
pub refused_operand : (at : ℕ) (ops : List Op) (e : Refusal) → prefix_at at ops (Err e) ≡ Err e
refused_operand at [] e = refl
refused_operand at (o ∷ ops) e = ap (λ (r : Evaluation). r >>= λ x. prefixed at o x) (refused_operand at ops e)
