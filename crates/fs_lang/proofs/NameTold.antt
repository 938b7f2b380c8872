-- A segment tells its name.
use Rattle.std.proofs.Common.{◌≡◌, ℕ, Bool, true, false, cond, ◌||◌, ◌==◌, List, [], ◌∷◌, ◌++◌, refl, sym, ap, ◌∙◌, eqb-true}
use Rattle.std.proofs.lemmas.Slice.Eq.{bytes_eq-Decides}
use Rattle.std.specs.Prelude.{codes}
use Rattle.std.specs.Str.{bytes_eq}
use Rattle.fs_lang.specs.Names.{replaced, segment_of}

-- the name with each `%` and each `/` replaced
escaped : List ℕ → List ℕ
escaped name = replaced 47 (codes "%2F") (replaced 37 (codes "%25") name)

-- what `%` and two letters behind it stand for, by the second
letter : ℕ → ℕ
letter c = cond (c == 53) 37 (cond (c == 70) 47 46)

-- the text with each `%` and the two letters behind it turned back
abbrev unescaped : List ℕ → List ℕ
unescaped [] = []
unescaped (a ∷ []) = a ∷ []
unescaped (a ∷ b ∷ []) = a ∷ b ∷ []
unescaped (a ∷ b ∷ c ∷ text) = cond (a == 37) (letter c ∷ unescaped text) (a ∷ unescaped (b ∷ c ∷ text))

-- a byte other than `%` stays when a text is turned back
unescaped_other : (a : ℕ) (text : List ℕ) → (a == 37) ≡ false → unescaped (a ∷ text) ≡ a ∷ unescaped text
unescaped_other a [] h = refl
unescaped_other a (b ∷ []) h = refl
unescaped_other a (b ∷ c ∷ text) h = ap (λ v. cond v (letter c ∷ unescaped text) (a ∷ unescaped (b ∷ c ∷ text))) h

-- a `%` becomes `%25`
escaped_percent : (name : List ℕ) (b : ℕ) → (b == 37) ≡ true → escaped (b ∷ name) ≡ 37 ∷ 50 ∷ 53 ∷ escaped name
unfolding escaped
escaped_percent name b h = ap (λ v. replaced 47 (codes "%2F") (cond v (codes "%25" ++ replaced 37 (codes "%25") name) (b ∷ replaced 37 (codes "%25") name))) h

-- a byte other than `%` stays, but for a slash, which becomes `%2F`
escaped_other : (name : List ℕ) (b : ℕ) → (b == 37) ≡ false → escaped (b ∷ name) ≡ cond (b == 47) (codes "%2F" ++ escaped name) (b ∷ escaped name)
unfolding escaped
escaped_other name b h = ap (λ v. replaced 47 (codes "%2F") (cond v (codes "%25" ++ replaced 37 (codes "%25") name) (b ∷ replaced 37 (codes "%25") name))) h

-- what was replaced is turned back to the name
back : (name : List ℕ) → unescaped (escaped name) ≡ name
unfolding escaped letter
back [] = refl
back (b ∷ name) = at (b == 37) (b == 47) refl refl (back name)
  where
    at : (v w : Bool) → (b == 37) ≡ v → (b == 47) ≡ w → unescaped (escaped name) ≡ name → unescaped (escaped (b ∷ name)) ≡ b ∷ name
    at true w e f more = ap unescaped (escaped_percent name b e) ∙ ap (λ l. 37 ∷ l) more ∙ ap (λ c. c ∷ name) (sym (eqb-true b 37 e))
    at false true e f more =
        ap unescaped (escaped_other name b e ∙ ap (λ v. cond v (codes "%2F" ++ escaped name) (b ∷ escaped name)) f) ∙ ap (λ l. 47 ∷ l) more ∙ ap (λ c. c ∷ name) (sym (eqb-true b 47 f))
    at false false e f more =
        ap unescaped (escaped_other name b e ∙ ap (λ v. cond v (codes "%2F" ++ escaped name) (b ∷ escaped name)) f) ∙ unescaped_other b (escaped name) e ∙ ap (λ l. b ∷ l) more

-- the segment of a name is turned back to the name
told : (name : List ℕ) → unescaped (segment_of name) ≡ name
unfolding escaped letter
told name = at (bytes_eq name (codes ".")) (bytes_eq name (codes "..")) refl refl
  where
    at : (a b : Bool) → bytes_eq name (codes ".") ≡ a → bytes_eq name (codes "..") ≡ b → unescaped (cond (a || b) (replaced 46 (codes "%2E") name) (escaped name)) ≡ name
    at true b e f = let is = (bytes_eq-Decides name (codes ".")).0 e in ap (λ n. unescaped (replaced 46 (codes "%2E") n)) is ∙ sym is
    at false true e f = let is = (bytes_eq-Decides name (codes "..")).0 f in ap (λ n. unescaped (replaced 46 (codes "%2E") n)) is ∙ sym is
    at false false e f = back name

-- names with the same segment are the same
pub same_name : (a b : List ℕ) → segment_of a ≡ segment_of b → a ≡ b
same_name a b e = sym (told a) ∙ ap unescaped e ∙ told b
