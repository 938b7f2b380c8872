-- Texts that may be names, and attributes that say nothing of the order.
use Rattle.std.proofs.Common.{◌≡◌, ℕ, Bool, true, false, cond, not, List, [], ◌∷◌, drop, length, ◌≤◌, zero, suc, Option, Some, None, Result, Ok, Err, bytes_eq, refl, sym, ap, ◌∙◌, arith}
use Rattle.fs_lang.specs.Names.{segment_of}
use Rattle.pp_value.specs.Keys.{value_at, with_pairs, HasDistinctKeys}
use Rattle.pp_value.specs.Values.{Pair}
use Rattle.pp_value.specs.declared.value.Value.{Value}
use Rattle.catalog_semantics.specs.Attributes.{is_metaparameter}
use Rattle.model_semantics.specs.declared.kinds.Cause.{Cause}
use Rattle.model_semantics.specs.declared.kinds.Cause.TheVariants as cause
use Rattle.model_semantics.specs.Names.{is_name, named}
use Rattle.assumed_models.specs.Behaviors.{own_attributes}

-- ---- names

-- where what a test guards is there, the test holds
ok_so : (t : Bool) (s x : List ℕ) → cond {A = Result (List ℕ) Cause} t (Ok s) (Err cause.Name) ≡ Ok x → true ≡ t
ok_so true s x h = refl
ok_so false s x h = cc

-- and where the cause is told it doesn't
err_so : (t : Bool) (s : List ℕ) (c : Cause) → cond {A = Result (List ℕ) Cause} t (Ok s) (Err cause.Name) ≡ Err c → false ≡ t
err_so true s c h = cc
err_so false s c h = refl

-- a text with a segment may be a name
pub named_ok : (name x : List ℕ) → named name ≡ Ok x → true ≡ is_name name
named_ok name x h = ok_so (is_name name) (segment_of name) x h

-- and one without doesn't
pub named_err : (name : List ℕ) (c : Cause) → named name ≡ Err c → false ≡ is_name name
named_err name c h = err_so (is_name name) (segment_of name) c h

-- ---- attributes

-- a key without a value has none among one's own attributes
own_free : (key : List ℕ) (attrs : List Pair) → value_at key attrs ≡ None → value_at key (own_attributes attrs) ≡ None
own_free key [] h = refl
own_free key (p ∷ attrs) h = at (not (is_metaparameter p.0)) (bytes_eq p.0 key) refl (own_free key attrs) h
  where
    none : (x : Value) → ◌≡◌ {A = Option Value} (Some x) None → ⊥
    none x e = cc

    at : (s t : Bool) → bytes_eq p.0 key ≡ t → (value_at key attrs ≡ None → value_at key (own_attributes attrs) ≡ None) → cond t (Some p.1) (value_at key attrs) ≡ None
        → value_at key (cond s (p ∷ own_attributes attrs) (own_attributes attrs)) ≡ None
    at s true e more k = absurd (none p.1 k)
    at true false e more k = ap (λ u. cond u (Some p.1) (value_at key (own_attributes attrs))) e ∙ more k
    at false false e more k = more k

-- keys that differ do so among one's own attributes
own_distinct : (attrs : List Pair) → HasDistinctKeys attrs → HasDistinctKeys (own_attributes attrs)
own_distinct [] h = tt
own_distinct (p ∷ attrs) h = at (not (is_metaparameter p.0)) (own_distinct attrs h.1)
  where
    at : (s : Bool) → HasDistinctKeys (own_attributes attrs) → HasDistinctKeys (cond s (p ∷ own_attributes attrs) (own_attributes attrs))
    at true more = (own_free p.0 attrs h.0, more)
    at false more = more

-- past the end nothing is left
pub past : (attrs : List Pair) (i : ℕ) → length attrs ≤ i → drop i attrs ≡ []
past [] zero h = refl
past [] (suc i) h = refl
past (p ∷ attrs) zero h = absurd (omega (arith, h))
past (p ∷ attrs) (suc i) h = past attrs i (omega (arith, h))

-- all attributes were taken, one after another
pub all_own : ((pairs : List Pair) → HasDistinctKeys pairs → with_pairs [] pairs ≡ pairs) → (own attrs : List Pair) (i : ℕ) → length attrs ≤ i → HasDistinctKeys attrs
    → with_pairs own (own_attributes (drop i attrs)) ≡ with_pairs [] (own_attributes attrs) → own ≡ own_attributes attrs
all_own kept own attrs i h distinct is = sym (ap (λ l. with_pairs own (own_attributes l)) (past attrs i h)) ∙ (is ∙ kept (own_attributes attrs) (own_distinct attrs distinct))
