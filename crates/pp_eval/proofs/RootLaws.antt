-- The two colons in front of a name.
use Rattle.std.proofs.Common.{◌≡◌, ◌≢◌, ℕ, false, cond, ◌&&◌, ◌==◌, List, [], ◌∷◌, Option, Some, None, MatchOption, Bor, refl, ap, sym, ◌∙◌}
use Rattle.pp_eval.specs.Names.{is_colon, unrooted}
use Rattle.pp_eval.specs.References.{begins_with_colon}
use Rattle.pp_eval.proofs.NameLaws.{other}

-- where no colon stands first, none is told to
not_first : (text : List ℕ) → ((rest : List ℕ) → text ≢ 58 ∷ rest) → begins_with_colon text ≡ false
not_first [] h = refl
not_first (c ∷ text) h = other c (c == 58) refl (λ e. h text (ap (λ b. b ∷ text) e))

-- what the library finds behind a colon stands behind it
pub behind_is : (text : List ℕ) (r : Option (Bor (List ℕ))) → MatchOption r ((rest : List ℕ) → text ≢ 58 ∷ rest) (λ x. text ≡ 58 ∷ x.now) → MatchOption r (begins_with_colon text ≡ false) (λ x. text ≡ 58 ∷ x.now)
behind_is text None h = not_first text h
behind_is text (Some x) h = h

-- a name without a colon in front stays
pub no_colon : (name : List ℕ) → begins_with_colon name ≡ false → unrooted name ≡ name
no_colon [] h = refl
no_colon (c ∷ []) h = refl
no_colon (c ∷ d ∷ name) h = ap (λ t. cond (t && is_colon d) name (c ∷ d ∷ name)) h

-- so does one with only one
pub one_colon : (name one : List ℕ) → name ≡ 58 ∷ one → begins_with_colon one ≡ false → unrooted name ≡ name
one_colon name one e h = ap unrooted e ∙ (at one h ∙ sym e)
  where
    at : (one : List ℕ) → begins_with_colon one ≡ false → unrooted (58 ∷ one) ≡ 58 ∷ one
    at [] h = refl
    at (d ∷ more) h = ap (λ t. cond t more (58 ∷ d ∷ more)) h

-- two colons in front are taken away
pub two_colons : (name one rest : List ℕ) → name ≡ 58 ∷ one → one ≡ 58 ∷ rest → unrooted name ≡ rest
two_colons name one rest e f = ap unrooted (e ∙ ap (λ more. 58 ∷ more) f)
