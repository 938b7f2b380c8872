-- The order that texts name is found, and no other.
use Rattle.std.proofs.Common.{◌≡◌, ℕ, ◌<◌, List, [], ◌∷◌, length, map, Option, Some, None, option_map, refl, sym, ap, subst, ◌∙◌, codes}
use Rattle.std.proofs.lemmas.Option.{none-some, same_Some}
use Rattle.std.specs.List.{AllByRecursion}
use Rattle.rh_base.specs.Reading.{◌>>=◌}
use Rattle.rh_base.specs.Refused.{IfRefused, IsRefusal}
use Rattle.rh_base.specs.declared.fault.Fault.{Fault}
use Rattle.rh_base.specs.declared.fault.Fault.TheVariants.{Refused, Memory}
use Rattle.fs_semantics.specs.Orders.{IsLinearExtension}
use Rattle.catalog_semantics.specs.Catalogs.{Catalog}
use Rattle.order_text.specs.OrderText.{IsOrderText}
use Rattle.allowed_order.specs.Names.{position_of, with_names, positions_of}
use Rattle.allowed_order.specs.AllowedOrder.{shown_at, AreToldApart, IsOrderNamed, IsOrderOf, IsOnlyOrder}
use Rattle.allowed_order.proofs.NameLaws.{Tells, Finds, names_tell, names_find}
use Rattle.rh_base.proofs.Options.{bind_some, map_some}

-- ---- what texts name

module _ (c : Catalog) (all : List ℕ) (names : List (List ℕ × ℕ)) where
  -- texts whose positions are found are the references shown there
  texts_shown : Tells c all names → (texts : List (List ℕ)) (o : List ℕ) → positions_of names texts ≡ Some o → texts ≡ map (shown_at c all) o
  texts_shown tells [] o h = ap (map (shown_at c all)) (same_Some [] o h)
  texts_shown tells (t ∷ texts) o h =
      let first = bind_some (position_of t names) (λ i. option_map (λ is. i ∷ is) (positions_of names texts)) o h in
      let rest = map_some (λ is. first.0 ∷ is) (positions_of names texts) o first.2 in
      subst (λ is. t ∷ texts ≡ map (shown_at c all) is) rest.2
      ((λ i. (tells t first.0 first.1).1 i ∷ texts_shown tells texts rest.0 rest.1 i))

  -- and the references at positions find these
  shown_found : Finds c all (length all) names → (o : List ℕ) → AllByRecursion (λ i. i < length all) o → positions_of names (map (shown_at c all) o) ≡ Some o
  shown_found finds [] h = refl
  shown_found finds (i ∷ o) h =
      ap (λ p. p >>= (λ k. option_map (λ is. k ∷ is) (positions_of names (map (shown_at c all) o)))) (finds i h.0)
      ∙ ap (option_map (λ is. i ∷ is)) (shown_found finds o h.1)

-- ---- the order

-- positions that are found, in an allowed order, are named by the texts
pub order_found : (c : Catalog) (plain : List ℕ) (before : ℕ → ℕ → Type 0) (texts : List (List ℕ)) (o : List ℕ)
    → positions_of (with_names c 0 plain []) texts ≡ Some o → IsLinearExtension (length plain) before o → IsOrderNamed c plain before texts o
order_found c plain before texts o h allowed = record {
  shown = texts_shown c plain (with_names c 0 plain []) (names_tell c plain) texts o h;
  allowed = allowed;
}

-- an order that the texts name is the positions that are found
pub order_is : (c : Catalog) (plain : List ℕ) (before : ℕ → ℕ → Type 0) (texts : List (List ℕ)) (o : List ℕ)
    → AreToldApart c plain → IsOrderNamed c plain before texts o → positions_of (with_names c 0 plain []) texts ≡ Some o
order_is c plain before texts o apart h =
    ap (positions_of (with_names c 0 plain [])) h.shown
    ∙ shown_found c plain (with_names c 0 plain []) (names_find c plain apart) o h.allowed.below

-- texts that name no positions
pub none_named : (c : Catalog) (plain : List ℕ) (before : ℕ → ℕ → Type 0) (texts : List (List ℕ)) → positions_of (with_names c 0 plain []) texts ≡ None → IsOnlyOrder c plain before texts None
none_named c plain before texts h apart o named = none-some o (sym h ∙ order_is c plain before texts o apart named)

-- texts that name positions which are no allowed order
pub none_allowed : (c : Catalog) (plain : List ℕ) (before : ℕ → ℕ → Type 0) (texts : List (List ℕ)) (p : List ℕ) → positions_of (with_names c 0 plain []) texts ≡ Some p
    → (IsLinearExtension (length plain) before p → ⊥) → IsOnlyOrder c plain before texts None
none_allowed c plain before texts p h never apart o named =
    never (subst (IsLinearExtension (length plain) before) (same_Some o p (sym (order_is c plain before texts o apart named) ∙ h)) named.allowed)

-- positions in an allowed order are the one order that the texts name
pub only_order : (c : Catalog) (plain : List ℕ) (before : ℕ → ℕ → Type 0) (texts : List (List ℕ)) (p : List ℕ) → positions_of (with_names c 0 plain []) texts ≡ Some p
    → IsLinearExtension (length plain) before p → IsOnlyOrder c plain before texts (Some p)
only_order c plain before texts p h allowed =
    (order_found c plain before texts p h allowed, λ apart o named. same_Some p o (sym h ∙ order_is c plain before texts o apart named))

-- ---- as the code has it

-- where not all texts have positions, they name no order
pub found_none : (c : Catalog) (plain : List ℕ) (before : ℕ → ℕ → Type 0) (texts : List (List ℕ)) (found : Option (List ℕ))
    → found ≡ positions_of (with_names c 0 plain []) texts → found ≡ None → IsOnlyOrder c plain before texts None
found_none c plain before texts found h is = none_named c plain before texts (sym h ∙ is)

-- the same of the order as the code has it
pub found_allowed : (c : Catalog) (plain : List ℕ) (before : ℕ → ℕ → Type 0) (texts : List (List ℕ)) (n : ℕ) (found : Option (List ℕ)) (p slice : List ℕ)
    → n ≡ length plain → found ≡ positions_of (with_names c 0 plain []) texts → found ≡ Some p → slice ≡ p → IsLinearExtension n before slice → IsOnlyOrder c plain before texts (Some p)
found_allowed c plain before texts n found p slice count h is lent allowed =
    only_order c plain before texts p (sym h ∙ is) (subst (λ m. IsLinearExtension m before p) count (subst (IsLinearExtension n before) lent allowed))

-- where the positions are no allowed order, the texts name none
pub found_free : (c : Catalog) (plain : List ℕ) (before : ℕ → ℕ → Type 0) (texts : List (List ℕ)) (n : ℕ) (found : Option (List ℕ)) (p slice : List ℕ)
    → n ≡ length plain → found ≡ positions_of (with_names c 0 plain []) texts → found ≡ Some p → slice ≡ p → (IsLinearExtension n before slice → ⊥) → IsOnlyOrder c plain before texts None
found_free c plain before texts n found p slice count h is lent never =
    none_allowed c plain before texts p (sym h ∙ is) (λ allowed. never (subst (IsLinearExtension n before) (sym lent) (subst (λ m. IsLinearExtension m before p) (sym count) allowed)))

-- bytes are the text of one order at most
abbrev OneText : Type 0
OneText = (bytes : List ℕ) (a b : List (List ℕ)) → IsOrderText bytes a → IsOrderText bytes b → a ≡ b

-- bytes that are no text of an order name none
pub no_text : (c : Catalog) (plain : List ℕ) (before : ℕ → ℕ → Type 0) (bytes : List ℕ) (f : Fault)
    → IfRefused f (λ r. IsRefusal 63 0 (codes "order") r × ((ts : List (List ℕ)) → IsOrderText bytes ts → ⊥))
    → IfRefused f (λ r. IsRefusal 63 0 (codes "order") r × (AreToldApart c plain → (o : List ℕ) → IsOrderOf c plain before bytes o → ⊥))
no_text c plain before bytes (Refused r) h = (h.0, λ apart o order. h.1 order.texts order.text)
no_text c plain before bytes (Memory m) h = tt

-- an order that the bytes name is named by their texts
named_so : (c : Catalog) (plain : List ℕ) (before : ℕ → ℕ → Type 0) (bytes : List ℕ) (texts slice : List (List ℕ)) (o : List ℕ) → OneText → IsOrderText bytes texts → slice ≡ texts
    → IsOrderOf c plain before bytes o → IsOrderNamed c plain before slice o
named_so c plain before bytes texts slice o one text lent order =
    subst (λ ts. IsOrderNamed c plain before ts o) (one bytes order.texts texts order.text text ∙ sym lent) order.named

-- the order that is answered is the only one that the bytes name
pub only_of : (c : Catalog) (plain : List ℕ) (before : ℕ → ℕ → Type 0) (bytes : List ℕ) (texts slice : List (List ℕ)) (answer : Option (List ℕ)) (found o : List ℕ) → OneText
    → IsOrderText bytes texts → slice ≡ texts → IsOnlyOrder c plain before slice answer → answer ≡ Some found → AreToldApart c plain → IsOrderOf c plain before bytes o → found ≡ o
only_of c plain before bytes texts slice answer found o one text lent h is apart order =
    (subst (IsOnlyOrder c plain before slice) is h).1 apart o (named_so c plain before bytes texts slice o one text lent order)

-- where none is answered, the bytes name none
pub none_of : (c : Catalog) (plain : List ℕ) (before : ℕ → ℕ → Type 0) (bytes : List ℕ) (texts slice : List (List ℕ)) (answer : Option (List ℕ)) (f : Fault) → OneText
    → IsOrderText bytes texts → slice ≡ texts → IsOnlyOrder c plain before slice answer → answer ≡ None → IfRefused f (IsRefusal 63 0 (codes "order"))
    → IfRefused f (λ r. IsRefusal 63 0 (codes "order") r × (AreToldApart c plain → (o : List ℕ) → IsOrderOf c plain before bytes o → ⊥))
none_of c plain before bytes texts slice answer (Refused r) one text lent h is refused =
    (refused, λ apart o order. subst (IsOnlyOrder c plain before slice) is h apart o (named_so c plain before bytes texts slice o one text lent order))
none_of c plain before bytes texts slice answer (Memory m) one text lent h is refused = tt
