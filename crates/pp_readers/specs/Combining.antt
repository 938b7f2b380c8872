-- Readers of token lists, and what is built of them. A reader gives what it finds at the front, and the tokens behind that.
use Rattle.std.specs.Prelude.{ℕ, zero, suc, Bool, true, false, if◌then◌else◌, List, [], ◌∷◌, Option, Some, None, codes}
use Rattle.pp_syntax.specs.declared.token.Kind.{Kind}
use Rattle.pp_syntax.specs.declared.token.Kind.TheVariants as kind
use Rattle.pp_syntax.specs.Tokens.{Lexeme}
use Rattle.pp_readers.specs.Marks.{Found, first_at, mark}
use Rattle.rh_base.specs.Reading.{◌>>=◌}
use Rattle.pp_readers.specs.Expressions.{with_first}

-- what finds something at the front of tokens, or doesn't
abbrev pub Reader : Type 0 → Type 0
Reader X = List Lexeme → Found X

-- the one, and then the other
abbrev pub both : {X Y : Type 0} → Reader X → Reader Y → Reader (X × Y)
both f g ts = f ts >>= λ x. g x.1 >>= λ y. Some ((x.0, y.0), y.1)

-- what is made of what is read, and of where it begins
abbrev pub made : {X Y : Type 0} → (ℕ → X → Y) → Reader X → Reader Y
made h f ts = f ts >>= λ x. Some (h (first_at ts) x.0, x.1)

-- what stands behind such a token, and what stands before one
abbrev pub behind : {X : Type 0} → Kind → List ℕ → Reader X → Reader X
behind k s f ts = mark k s ts >>= λ o. f o.1

abbrev pub before : {X : Type 0} → Reader X → Kind → List ℕ → Reader X
before f k s ts = f ts >>= λ x. mark k s x.1 >>= λ r. Some (x.0, r.1)

abbrev pub in_braces : {X : Type 0} → Reader X → Reader X
in_braces f = behind kind.Sign (codes "{") (before f kind.Sign (codes "}"))

-- something is found
abbrev pub is_found : {X : Type 0} → Option X → Bool
is_found None = false
is_found (Some x) = true

-- such a token stands first
abbrev pub begins : Kind → List ℕ → List Lexeme → Bool
begins k s ts = is_found (mark k s ts)

-- items one behind the other, as long as the test says that one begins, in at most n turns
abbrev pub many : {X : Type 0} → (List Lexeme → Bool) → Reader X → ℕ → Reader (List X)
many test item zero ts = None
many test item (suc n) ts = if test ts then (item ts >>= λ x. with_first x.0 (many test item n x.1)) else Some ([], ts)

abbrev pub after_item : {X : Type 0} → X → Reader (List X) → Found ℕ → Reader (List X)
after_item x others None ts = Some (x ∷ [], ts)
after_item x others (Some o) ts = with_first x (others o.1)

-- items with this sign between them, and there may be one at the end
abbrev pub listed : {X : Type 0} → List ℕ → (List Lexeme → Bool) → Reader X → ℕ → Reader (List X)
listed sep test item zero ts = None
listed sep test item (suc n) ts = if test ts then
    (item ts >>= λ x. after_item x.0 (listed sep test item n) (mark kind.Sign sep x.1) x.1) else Some ([], ts)
