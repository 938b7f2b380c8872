-- Names between colons.
use Rattle.std.proofs.Common.{◌≡◌, ◌≢◌, ℕ, suc, ◌+◌, ◌<◌, Bool, true, false, cond, ◌||◌, ◌==◌, List, [], ◌∷◌, ◌++◌, length, slice_index, Option, Some, None, MatchOption, Bor, length-append, refl, ap, ◌∙◌, arith}
use Rattle.std.specs.List.{list_any}
use Rattle.std.proofs.lemmas.Str.Pattern.{split_parts, IsSplitOnceResult}
use Rattle.std.proofs.lemmas.Bool.Decides.{Decides-eqb}
use Rattle.pp_eval.specs.Names.{is_colon, variable_in}

-- a byte that is no colon fails the test
pub other : (c : ℕ) (t : Bool) → (c == 58) ≡ t → c ≢ 58 → t ≡ false
other c true e h = absurd (h ((Decides-eqb c 58).0 e))
other c false e h = refl

-- where no byte is a colon, none is told to be
none_any : (text : List ℕ) → ((i : ℕ) → i < length text → slice_index text i ≢ 58) → list_any is_colon text ≡ false
none_any [] h = refl
none_any (c ∷ text) h = ap (λ b. b || list_any is_colon text) (other c (c == 58) refl (h 0 (omega arith))) ∙ none_any text (λ i below. h (suc i) (omega arith))

-- where one is, it is told
any_here : (front back : List ℕ) → list_any is_colon (front ++ 58 ∷ back) ≡ true
any_here [] back = refl
any_here (c ∷ front) back = either (is_colon c) (any_here front back)
  where
    either : (a : Bool) {b : Bool} → b ≡ true → (a || b) ≡ true
    either true h = refl
    either false h = h

-- the variable of a name is that behind a colon
pub past_colon : (front back : List ℕ) → variable_in (front ++ 58 ∷ back) ≡ variable_in back
past_colon [] back = refl
past_colon (c ∷ front) back = ap (λ t. cond t (variable_in (front ++ 58 ∷ back)) (c ∷ (front ++ 58 ∷ back))) (any_here (c ∷ front) back) ∙ past_colon front back

-- without a colon the whole name is the variable
pub no_colon : (name : List ℕ) → list_any is_colon name ≡ false → variable_in name ≡ name
no_colon [] h = refl
no_colon (c ∷ name) h = ap (λ t. cond t (variable_in name) (c ∷ name)) h

-- a name that is cut at its first colon has it there, or has none
pub cut_at_colon : (bs : List ℕ) (r : Option (Bor (List ℕ) × Bor (List ℕ))) → IsSplitOnceResult 58 bs r → MatchOption r (list_any is_colon bs ≡ false) (λ x. (bs ≡ x.0.now ++ 58 ∷ x.1.now) × (length x.1.now < length bs))
cut_at_colon bs None h = none_any bs (split_parts 58 bs None h (omega arith))
cut_at_colon bs (Some x) h = let parts = split_parts 58 bs (Some x) h (omega arith) in
    let lengths : length bs ≡ length x.0.now + suc (length x.1.now) = ap length parts.0 ∙ length-append x.0.now (58 ∷ x.1.now) in
    (parts.0, omega arith)
