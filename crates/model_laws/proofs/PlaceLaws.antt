-- The places of names.
use Rattle.std.proofs.Common.{◌≡◌, ℕ, Bool, true, false, cond, List, [], ◌∷◌, refl, sym, ◌∙◌}
use Rattle.std.specs.Prelude.{Result, Ok, Err}
use Rattle.fs_semantics.specs.FileTree.{Path}
use Rattle.fs_lang.specs.Names.{segment_of}
use Rattle.model_semantics.specs.declared.kinds.Cause.{Cause}
use Rattle.model_semantics.specs.declared.kinds.Cause.TheVariants as cause
use Rattle.model_semantics.specs.Names.{◌>>=◌, is_name, named, mark_named, mark_of_user}
use Rattle.model_semantics.specs.Words.{mark_path}

-- what is made twice is one
same_ok : {X : Type 0} (x y : X) → ◌≡◌ {A = Result X Cause} (Ok x) (Ok y) → x ≡ y
same_ok x y h = cc

-- a cause is nothing made
no_ok : {X : Type 0} (c : Cause) (x : X) → ◌≡◌ {A = Result X Cause} (Err c) (Ok x) → ⊥
no_ok c x h = cc

-- a step that made something found what it needs and made it of that
step : {X Y : Type 0} (r : Result X Cause) (f : X → Result Y Cause) (y : Y) → (r >>= f) ≡ Ok y → (x : X) × (r ≡ Ok x) × (f x ≡ Ok y)
step (Ok x) f y h = (x, refl, h)
step (Err c) f y h = absurd (no_ok c y h)

-- what a name gives is its segment
segment_is : (name s : List ℕ) → named name ≡ Ok s → segment_of name ≡ s
segment_is name s h = at (is_name name) h
  where
    at : (t : Bool) → cond t (Ok (segment_of name)) (Err cause.Name) ≡ Ok s → segment_of name ≡ s
    at true e = same_ok (segment_of name) s e
    at false e = absurd (no_ok cause.Name s e)

-- marks of one name with the same path have the same name
third : (word s r : List ℕ) → mark_path word (s ∷ []) ≡ mark_path word (r ∷ []) → s ≡ r
third word s r h = cc

-- and marks of a user and a name have both the same
fourth : (word u v s r : List ℕ) → mark_path word (u ∷ s ∷ []) ≡ mark_path word (v ∷ r ∷ []) → (u ≡ v) × (s ≡ r)
fourth word u v s r h = let first : u ≡ v = cc in let second : s ≡ r = cc in (first, second)

-- names with the same segment are the same
abbrev pub OneName : Type 0
OneName = (a b : List ℕ) → segment_of a ≡ segment_of b → a ≡ b

-- one word's marks of two names are the same only where the names are
pub one_name : OneName → (word a b : List ℕ) (p : Path) → mark_named word a ≡ Ok p → mark_named word b ≡ Ok p → a ≡ b
one_name one word a b p h k =
    let x = step (named a) (λ s. Ok (mark_path word (s ∷ []))) p h in
    let y = step (named b) (λ s. Ok (mark_path word (s ∷ []))) p k in
    let same = third word x.0 y.0 (same_ok (mark_path word (x.0 ∷ [])) p x.2 ∙ sym (same_ok (mark_path word (y.0 ∷ [])) p y.2)) in
    one a b (segment_is a x.0 x.1 ∙ same ∙ sym (segment_is b y.0 y.1))

-- and so are its marks of a user's names
pub one_entry : OneName → (word u v a b : List ℕ) (p : Path) → mark_of_user word u a ≡ Ok p → mark_of_user word v b ≡ Ok p → (u ≡ v) × (a ≡ b)
one_entry one word u v a b p h k =
    let xu = step (named u) (λ t. named a >>= (λ s. Ok (mark_path word (t ∷ s ∷ [])))) p h in
    let xa = step (named a) (λ s. Ok (mark_path word (xu.0 ∷ s ∷ []))) p xu.2 in
    let yv = step (named v) (λ t. named b >>= (λ s. Ok (mark_path word (t ∷ s ∷ [])))) p k in
    let yb = step (named b) (λ s. Ok (mark_path word (yv.0 ∷ s ∷ []))) p yv.2 in
    let same = fourth word xu.0 yv.0 xa.0 yb.0 (same_ok (mark_path word (xu.0 ∷ xa.0 ∷ [])) p xa.2 ∙ sym (same_ok (mark_path word (yv.0 ∷ yb.0 ∷ [])) p yb.2)) in
    (one u v (segment_is u xu.0 xu.1 ∙ same.0 ∙ sym (segment_is v yv.0 yv.1)), one a b (segment_is a xa.0 xa.1 ∙ same.1 ∙ sym (segment_is b yb.0 yb.1)))
