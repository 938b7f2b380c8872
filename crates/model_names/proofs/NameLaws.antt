-- Names, and paths that are spelled.
use Rattle.std.proofs.Common.{◌≡◌, ◌≢◌, ℕ, ◌==◌, ◌&&◌, ◌||◌, nat_le, Bool, true, false, true≢false, cond, not, List, [], ◌∷◌, length, Option, Some, None, refl, sym, ap, ap₂, ◌∙◌, leb-true, eq-eqb, IsUtf8}
use Rattle.std.specs.Prelude.{Ok, Err}
use Rattle.std.specs.List.{list_any, AllByRecursion}
use Rattle.std.proofs.Math.Dec.{eqb-suc-zero}
use Rattle.std.proofs.lemmas.Bool.{le-leb, ne_eqb, and_parts, not-true}
use Rattle.rh_base.specs.declared.limits.TheConstants.{NAME_BYTES}
use Rattle.fs_semantics.specs.FileTree.{Path}
use Rattle.fs_lang.specs.PathText.{IsPathText}
use Rattle.fs_lang.specs.Reading.{path_in}
use Rattle.fs_lang.specs.Names.{IsName, segment_of}
use Rattle.fs_lang.proofs.Bytes.{utf8_bytes}
use Rattle.fs_lang.proofs.PathLaws.{path_found, path_again}
use Rattle.model_semantics.specs.declared.kinds.Cause.TheVariants as cause
use Rattle.model_semantics.specs.Names.{is_name, named, path_or_bad, spelled}

-- ---- names

-- a name without a zero is told to have none
zero_nowhere : (name : List ℕ) → AllByRecursion (λ b. b ≢ 0) name → list_any (λ b. b == 0) name ≡ false
zero_nowhere [] h = refl
zero_nowhere (b ∷ name) h = ap₂ (λ x y. x || y) (ne_eqb b 0 h.0) (zero_nowhere name h.1)

-- and one that is told to have none has none
no_zero : (name : List ℕ) → list_any (λ b. b == 0) name ≡ false → AllByRecursion (λ b. b ≢ 0) name
no_zero [] h = tt
no_zero (b ∷ name) h = let two = neither (b == 0) (list_any (λ c. c == 0) name) h in ((λ e. true≢false (sym (eq-eqb b 0 e) ∙ two.0)), no_zero name two.1)
  where
    neither : (x y : Bool) → x || y ≡ false → (x ≡ false) × (y ≡ false)
    neither true y e = absurd (true≢false e)
    neither false y e = (refl, e)

-- a name is told to be one
name_test : (name : List ℕ) → IsName name → is_name name ≡ true
name_test [] h = absurd (h.nonempty refl)
name_test (b ∷ name) h =
    ap₂ (λ x y. not x && y) (eqb-suc-zero (length name)) (ap₂ (λ x y. x && not y) (le-leb (length (b ∷ name)) NAME_BYTES h.bytes) (zero_nowhere (b ∷ name) h.no_zero))

-- and what is told to be a name is one
is_a_name : (name : List ℕ) → is_name name ≡ true → IsName name
is_a_name [] h = absurd (true≢false (sym h))
is_a_name (b ∷ name) h =
    let two = and_parts (not (length (b ∷ name) == 0)) (nat_le (length (b ∷ name)) NAME_BYTES && not (list_any (λ c. c == 0) (b ∷ name))) h in
    let rest = and_parts (nat_le (length (b ∷ name)) NAME_BYTES) (not (list_any (λ c. c == 0) (b ∷ name))) two.1 in
    record {
      nonempty = λ e. cc;
      bytes = leb-true (length (b ∷ name)) NAME_BYTES rest.0;
      no_zero = no_zero (b ∷ name) (not-true (list_any (λ c. c == 0) (b ∷ name)) rest.1);
    }

-- a name has its segment
pub named_so : (name s : List ℕ) → IsName name → s ≡ segment_of name → named name ≡ Ok s
named_so name s h is = ap (λ t. cond t (Ok (segment_of name)) (Err cause.Name)) (name_test name h) ∙ ap (λ x. Ok x) (sym is)

-- and what is none has none
pub unnamed : (name : List ℕ) → (IsName name → ⊥) → named name ≡ Err cause.Name
unnamed name n = at (is_name name) refl
  where
    at : (t : Bool) → is_name name ≡ t → cond t (Ok (segment_of name)) (Err cause.Name) ≡ Err cause.Name
    at true e = absurd (n (is_a_name name e))
    at false e = refl

-- ---- paths

-- a text of a path spells it
pub spelled_so : (text : List ℕ) (p : Path) → IsPathText text p → spelled text ≡ Ok p
spelled_so text p h = ap path_or_bad (path_again text p h)

-- and one of no path spells none
pub unspelled : (text : List ℕ) → IsUtf8 text → ((p : Path) → IsPathText text p → ⊥) → spelled text ≡ Err cause.Name
unspelled text utf n = at (path_in text) refl
  where
    at : (o : Option Path) → path_in text ≡ o → path_or_bad o ≡ Err cause.Name
    at None e = refl
    at (Some p) e = absurd (n p (path_found text p (utf8_bytes text utf) e))
