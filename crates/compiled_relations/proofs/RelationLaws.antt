-- What relations become: references that are in the catalog.
use Rattle.std.proofs.Common.{◌≡◌, ℕ, Bool, true, false, true≢false, cond, ◌||◌, ◌&&◌, List, [], ◌∷◌, ◌++◌, Option, Some, None, option_map, refl, ap, ap₂, sym, subst}
use Rattle.std.specs.Prelude.{Result, Ok, Err, is_none, option_and_then}
use Rattle.std.specs.List.{AllByRecursion, flat_map}
use Rattle.rh_base.specs.declared.fault.Refusal.{Refusal}
use Rattle.pp_value.specs.declared.value.Ref.{Ref}
use Rattle.pp_value.specs.declared.value.Value.{Value, Row_of-Value, end_of-Value, more_of-Value}
use Rattle.pp_value.specs.declared.value.Value.TheVariants as v
use Rattle.pp_value.specs.declared.value.Value.TheBlock as block
use Rattle.pp_value.specs.Values.{is_undef}
use Rattle.pp_eval.specs.Evaluating.{◌>>=◌}
use Rattle.catalog_semantics.specs.Attributes.{references_in, references_in_row}
use Rattle.graph_semantics.specs.Relations.{references_within, references_within_row}
use Rattle.compiled_text.specs.declared.catalog.CompiledResource.{CompiledResource}
use Rattle.compiled_relations.specs.Finding.{found_by, StandsIn}
use Rattle.compiled_relations.specs.Values.{are_references, are_references_in, if_found, related_to, related_to_row}
use Rattle.compiled_relations.specs.Related.{IsRelation}
use Rattle.compiled_relations.proofs.FoundLaws.{found_stands}
use Rattle.std.proofs.lemmas.Bool.{and_parts}
use Rattle.graph_semantics.proofs.Basics.{ok_same, err_ok}

-- ---- one value, and lists of them

-- the references within a list are those within its members
pub within_list : (xs : List Value) → references_within (v.List xs) ≡ flat_map references_within xs
unfolding block.hidden-the_row-Value-0 denote.Hole.Carrier.hidden
within_list [] = refl
within_list (x ∷ xs) = ap (λ rest. references_within x ++ rest) (within_list xs)

-- what a text finds is a relation
text_becomes : (all : List CompiledResource) (r : CompiledResource) (text : List ℕ) (o : Option Ref) → found_by all text ≡ o → (y : Value) → if_found r text o ≡ Ok y → IsRelation all y
text_becomes all r text None e y h = absurd (err_ok _ y h)
text_becomes all r text (Some ref) e y h = subst (IsRelation all) (ok_same (v.Refer ref) y h) (record { known = refl; references = refl; stand = (found_stands all text ref e, tt) })

-- where the references of two lists stand, those of both do
both_in : (all : List CompiledResource) (xs ys : List Ref) → AllByRecursion (StandsIn all) xs → AllByRecursion (StandsIn all) ys → AllByRecursion (StandsIn all) (xs ++ ys)
both_in all [] ys h k = k
both_in all (x ∷ xs) ys h k = (h.0, both_in all xs ys h.1 k)

-- a list of relations is a relation
list_is : (all : List CompiledResource) (items : List Value) → AllByRecursion (IsRelation all) items → IsRelation all (v.List items)
unfolding block.hidden-the_row-Value-0 denote.Hole.Carrier.hidden
list_is all [] h = record { known = refl; references = refl; stand = tt }
list_is all (x ∷ items) h =
    let rest = list_is all items h.1 in record {
      known = ap₂ (λ a b. a || b) h.0.known rest.known;
      references = at (references_in x) (references_in_row (block.hidden-the_row-Value-0 items)) h.0.references rest.references;
      stand = both_in all (references_within x) (references_within_row (block.hidden-the_row-Value-0 items)) h.0.stand rest.stand;
    }
  where
    at : (a b : Option (List Ref)) → is_none a ≡ false → is_none b ≡ false → is_none (option_and_then (λ (first : List Ref). option_map (λ more. first ++ more) b) a) ≡ false
    at None b k l = k
    at (Some a) None k l = l
    at (Some a) (Some b) k l = refl

-- so is a list of what its members become
list_becomes : (all : List CompiledResource) (found : Result (List Value) Refusal) (y : Value) → ((items : List Value) → found ≡ Ok items → AllByRecursion (IsRelation all) items)
    → (found >>= (λ items. Ok (v.List items))) ≡ Ok y → IsRelation all y
list_becomes all (Ok items) y each h = subst (IsRelation all) (ok_same (v.List items) y h) (list_is all items (each items refl))
list_becomes all (Err e) y each h = absurd (err_ok e y h)

-- what one more member becomes is a relation among the others
one_more : (all : List CompiledResource) (undef refs : Bool) (found : Result Value Refusal) (more : Result (List Value) Refusal) (items : List Value) → ((y : Value) → found ≡ Ok y → refs ≡ true → IsRelation all y)
    → ((rest : List Value) → more ≡ Ok rest → AllByRecursion (IsRelation all) rest) → (undef || refs) ≡ true → cond undef more (found >>= (λ item. more >>= (λ rest. Ok (item ∷ rest)))) ≡ Ok items
    → AllByRecursion (IsRelation all) items
one_more all true refs found more items one each h k = each items k
one_more all false refs (Err e) more items one each h k = absurd (err_ok e items k)
one_more all false refs (Ok item) (Err e) items one each h k = absurd (err_ok e items k)
one_more all false refs (Ok item) (Ok rest) items one each h k = subst (AllByRecursion (IsRelation all)) (ok_same (item ∷ rest) items k) (one item refl h, each rest refl)

mutual
  -- what references become is a relation
  pub becomes : (all : List CompiledResource) (r : CompiledResource) (x y : Value) → related_to all r x ≡ Ok y → are_references x ≡ true → IsRelation all y
  becomes all r v.Undef y h k = absurd (true≢false (sym k))
  becomes all r (v.Bool b) y h k = absurd (true≢false (sym k))
  becomes all r (v.Int n) y h k = absurd (true≢false (sym k))
  becomes all r (v.Str text) y h k = text_becomes all r text (found_by all text) refl y h
  becomes all r (v.List' shape row) y h k = list_becomes all (related_to_row all r row) y (λ items e. rows_become all r row items e k) h
  becomes all r (v.Map' keys row) y h k = absurd (true≢false (sym k))
  becomes all r (v.Refer ref) y h k = absurd (true≢false (sym k))
  becomes all r v.Opaque y h k = absurd (true≢false (sym k))

  -- so is what each member of a list becomes
  rows_become : {m : _} (all : List CompiledResource) (r : CompiledResource) (row : Row_of-Value m) (items : List Value) → related_to_row all r row ≡ Ok items → are_references_in row ≡ true
      → AllByRecursion (IsRelation all) items
  rows_become all r end_of-Value items h k = subst (AllByRecursion (IsRelation all)) (ok_same [] items h) tt
  rows_become all r (more_of-Value x row) items h k =
      let two = and_parts (is_undef x || are_references x) (are_references_in row) k in
      one_more all (is_undef x) (are_references x) (related_to all r x) (related_to_row all r row) items (becomes all r x) (λ rest e. rows_become all r row rest e two.1) two.0 h
