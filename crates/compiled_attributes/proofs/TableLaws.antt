-- The places that a table has, by its targets.
use Rattle.std.proofs.Common.{◌≡◌, ℕ, ◌+◌, Bool, true, false, true≢false, cond, List, [], ◌∷◌, ◌++◌, Option, Some, refl, ap, sym, ◌∙◌, append-nil}
use Rattle.std.specs.Map.{lookup}
use Rattle.std.specs.Str.{bytes_eq}
use Rattle.indexmap.specs.IndexMap.{insert_entry}
use Rattle.compiled_attributes.specs.Places.{or_none, places_in, if_target}
use Rattle.pp_value.proofs.Distinct.{same_key}
use Rattle.compiled_attributes.proofs.AttributeLaws.{is_same}

-- targets, each with its places
abbrev Table : Type 0
Table = List (List ℕ × List ℕ)

-- ---- one more entry

-- of two rows of one target the first counts
twice : (s : Bool) (v w : List ℕ) (rest : Option (List ℕ)) → cond s (Some v) rest ≡ cond s (Some v) (cond s (Some w) rest)
twice true v w rest = refl
twice false v w rest = refl

-- rows of two targets are found alike in either order
apart : (s u : Bool) (v w : List ℕ) (rest : Option (List ℕ)) → (s ≡ true → u ≡ true → ⊥) → cond s (Some w) (cond u (Some v) rest) ≡ cond u (Some v) (cond s (Some w) rest)
apart true true v w rest h = absurd (h refl refl)
apart true false v w rest h = refl
apart false true v w rest h = refl
apart false false v w rest h = refl

-- a row that is put is found, and others as before, where it is so further on
got_at : (t : Bool) (x k v : List ℕ) (e : List ℕ × List ℕ) (es : Table) → bytes_eq k e.0 ≡ t
    → lookup (bytes_eq x) (insert_entry bytes_eq es k v) ≡ cond (bytes_eq x k) (Some v) (lookup (bytes_eq x) es)
    → lookup (bytes_eq x) (cond t ((e.0, v) ∷ es) (e ∷ insert_entry bytes_eq es k v)) ≡ cond (bytes_eq x k) (Some v) (cond (bytes_eq x e.0) (Some e.1) (lookup (bytes_eq x) es))
got_at true x k v e es h later =
    let key : e.0 ≡ k = sym (same_key k e.0 h) in
    ap (λ y. cond (bytes_eq x y) (Some v) (lookup (bytes_eq x) es)) key
    ∙ (twice (bytes_eq x k) v e.1 (lookup (bytes_eq x) es) ∙ ap (λ y. cond (bytes_eq x k) (Some v) (cond (bytes_eq x y) (Some e.1) (lookup (bytes_eq x) es))) (sym key))
got_at false x k v e es h later =
    ap (λ r. cond (bytes_eq x e.0) (Some e.1) r) later
    ∙ apart (bytes_eq x e.0) (bytes_eq x k) v e.1 (lookup (bytes_eq x) es)
    (λ first second. true≢false (sym (is_same k e.0 (sym (same_key x k second) ∙ same_key x e.0 first)) ∙ h))

-- a row that is put is found, and others as before
got : (es : Table) (k v x : List ℕ) → lookup (bytes_eq x) (insert_entry bytes_eq es k v) ≡ cond (bytes_eq x k) (Some v) (lookup (bytes_eq x) es)
got [] k v x = refl
got (e ∷ es) k v x = got_at (bytes_eq k e.0) x k v e es refl (got es k v x)

-- ---- one more place

-- one more place goes behind those of its target, and leaves the others
if_same : (t : Bool) (x k new mine : List ℕ) (rest : Option (List ℕ)) (n : ℕ) → (t ≡ true → mine ≡ or_none rest) → new ≡ mine ++ n ∷ []
    → or_none (cond t (Some new) (cond t (Some []) rest)) ≡ or_none rest ++ cond t (n ∷ []) []
if_same true x k new mine rest n h is = is ∙ ap (λ l. l ++ n ∷ []) (h refl)
if_same false x k new mine rest n h is = sym (append-nil (or_none rest))

-- a place that is noted goes behind those of its target
pub noted : (old mid last : Table) (k new mine : List ℕ) (n : ℕ) → mid ≡ insert_entry bytes_eq old k [] → last ≡ insert_entry bytes_eq mid k new → mine ≡ or_none (lookup (bytes_eq k) old) → new ≡ mine ++ n ∷ []
    → (x : List ℕ) → places_in last x ≡ places_in old x ++ if_target x (Some k) n
noted old mid last k new mine n first second was is x =
    ap (λ (t : Table). places_in t x) second
    ∙ (ap or_none (got mid k new x ∙ ap (λ r. cond (bytes_eq x k) (Some new) r) (ap (lookup (bytes_eq x)) first ∙ got old k [] x))
    ∙ if_same (bytes_eq x k) x k new mine (lookup (bytes_eq x) old) n (λ h. was ∙ ap (λ y. or_none (lookup (bytes_eq y) old)) (sym (same_key x k h))) is)
