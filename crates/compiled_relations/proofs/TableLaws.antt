-- Tables of references.
use Rattle.std.proofs.Common.{◌≡◌, ℕ, suc, ◌+◌, ◌<◌, ◌≤◌, Bool, true, false, cond, List, [], ◌∷◌, ◌++◌, length, get_or, take, add-one, Option, Some, None, option_map, refl, ap, ap₂, sym, ◌∙◌, arith}
use Rattle.std.proofs.Math.Seq.{take-suc}
use Rattle.std.proofs.lemmas.List.{length-take-le}
use Rattle.std.specs.Map.{lookup}
use Rattle.indexmap.specs.IndexMap.{insert_entry}
use Rattle.pp_value.specs.declared.value.Ref.{Ref}
use Rattle.pp_value.specs.Values.{same_ref}
use Rattle.compiled_text.specs.declared.catalog.CompiledResource.{CompiledResource}
use Rattle.compiled_relations.specs.Finding.{or_else, is_one, first_called}
use Rattle.compiled_relations.specs.Tables.{place_among, IsTable}

-- ---- the table

module _ (eq : Ref → Ref → Bool) (same : (a b : Ref) → eq a b ≡ same_ref a b) where
  -- what the map of references finds is the place of the reference
  pub found : (key : Ref) (entries : List (Ref × ℕ)) → lookup (eq key) entries ≡ place_among key entries
  found key [] = refl
  found key (e ∷ entries) = λ i. cond (same key e.0 i) (Some e.1) (found key entries i)

  -- a new reference goes last in the map, where it does so among the others
  added_head : (key : Ref) (place : ℕ) (e : Ref × ℕ) (entries : List (Ref × ℕ)) → (place_among key entries ≡ None → insert_entry eq entries key place ≡ entries ++ (key, place) ∷ [])
      → (t : Bool) → cond t (Some e.1) (place_among key entries) ≡ None
      → cond t ((e.0, place) ∷ entries) (e ∷ insert_entry eq entries key place) ≡ e ∷ (entries ++ (key, place) ∷ [])
  added_head key place e entries rest true h = cc
  added_head key place e entries rest false h = ap (λ more. e ∷ more) (rest h)

  -- a new reference goes last in the map
  pub added : (entries : List (Ref × ℕ)) (key : Ref) (place : ℕ) → place_among key entries ≡ None → insert_entry eq entries key place ≡ entries ++ (key, place) ∷ []
  added [] key place h = refl
  added (e ∷ entries) key place h =
      ap (λ t. cond t ((e.0, place) ∷ entries) (e ∷ insert_entry eq entries key place)) (same key e.0)
      ∙ added_head key place e entries (added entries key place) (same_ref key e.0) h

-- what is first in two, or at the head, is first in all
else_head : {X : Type 0} (t : Bool) (x : X) (a b c : Option X) → c ≡ or_else a b → cond t (Some x) c ≡ or_else (cond t (Some x) a) b
else_head true x a b c h = refl
else_head false x a b c h = h

-- the place of a reference is the one that it had, or that of the last
pub last_among : (q key : Ref) (place : ℕ) (entries : List (Ref × ℕ)) → place_among q (entries ++ (key, place) ∷ []) ≡ or_else (place_among q entries) (cond (same_ref q key) (Some place) None)
last_among q key place [] = refl
last_among q key place (e ∷ entries) =
    else_head (same_ref q e.0) e.1 (place_among q entries) (cond (same_ref q key) (Some place) None) (place_among q (entries ++ (key, place) ∷ [])) (last_among q key place entries)

-- ---- the table of some resources and one more

-- one place further on is so in either case
more_else : (a : Option ℕ) (t : Bool) (n : ℕ) → option_map suc (or_else a (cond t (Some n) None)) ≡ or_else (option_map suc a) (cond t (Some (suc n)) None)
more_else None true n = refl
more_else None false n = refl
more_else (Some k) t n = refl

-- the first resource that is called so is one of those before, or the last
first_last : (calls : CompiledResource → List Ref) (q : Ref) (rs : List CompiledResource) (r : CompiledResource)
    → first_called calls q (rs ++ r ∷ []) ≡ or_else (first_called calls q rs) (cond (is_one q (calls r)) (Some (length rs)) None)
first_last calls q [] r = refl
first_last calls q (x ∷ rs) r =
    else_head (is_one q (calls x)) 0 (option_map suc (first_called calls q rs)) (cond (is_one q (calls r)) (Some (suc (length rs))) None) (option_map suc (first_called calls q (rs ++ r ∷ [])))
    (ap (option_map suc) (first_last calls q rs r) ∙ more_else (first_called calls q rs) (is_one q (calls r)) (length rs))

-- with one more resource the table has the first places of all
pub next_table : (calls : CompiledResource → List Ref) (rs : List CompiledResource) (place : ℕ) (r : CompiledResource) (refs : List Ref) (old new : List (Ref × ℕ)) → place < length rs → r ≡ get_or rs place r → refs ≡ calls r
    → ((q : Ref) → place_among q new ≡ or_else (place_among q old) (cond (is_one q refs) (Some place) None)) → IsTable old calls (take place rs) → IsTable new calls (take (place + 1) rs)
next_table calls rs place r refs old new h is refs_are noted so_far q =
    let fewer : place ≤ length rs = omega arith in
    let count : length (take place rs) ≡ place = length-take-le place rs fewer in
    let front : take (place + 1) rs ≡ take place rs ++ r ∷ [] = ap (λ (n : ℕ). take n rs) (add-one place) ∙ (take-suc rs place r h ∙ ap (λ x. take place rs ++ x ∷ []) (sym is)) in
    noted q
    ∙ (ap₂ (λ a (xs : List Ref). or_else a (cond (is_one q xs) (Some place) None)) (so_far q) refs_are
    ∙ (ap (λ n. or_else (first_called calls q (take place rs)) (cond (is_one q (calls r)) (Some n) None)) (sym count)
    ∙ (sym (first_last calls q (take place rs) r) ∙ ap (first_called calls q) (sym front))))
