-- How a `Keyed` keeps its items, so that a type may reach itself through it: as a list of pairs.
use Rattle.std.specs.Prelude.{◌≡◌, ℕ, ◌+◌, Bool, true, false, cond, Option, Some, None, option_map, List, [], ◌∷◌, map}
use mathlib.Core.Path.{refl, sym, ap, ◌∙◌}
use mathlib.Core.HLevel.{×_prop, Unit-prop}
use mathlib.Core.Former.{Former, this, const, pair, list, via, children}
use base.Stored.{coded×, gcons, coded_ℕ, coded_list, Coded-set, code_map}
use Rattle.std.specs.Coded.{coded_option}
use denote.RattleType.{RattleType}
use denote.HoleLaws.{Alike}
use denote.HolePlaces.{Recodes, struct_places, laid}
use denote.Hole.Carrier.{listed}
use denote.Hole.Fix.{over}
use denote.Param.Weighed.{Weighed, w_list, w_pair, w_const}
use denote.Model.Placed.{view_places}
use denote.Struct.Tuple.{Tuple, tuple_type}
use Rattle.std.specs.Str.{bytes_eq}
use Rattle.std.specs.declared.alloc.Global.{Global}
use Rattle.std.specs.contracts.alloc.Global as global
use Rattle.std.specs.contracts.impls.GlobalAllocator.TheImpl.{ghosts}
use Rattle.std.specs.formers.vec.Vec as vec
use Rattle.rh_base.specs.contracts.text.Text as text
use Rattle.pp_value.specs.Keys.{value_at, HasDistinctKeys, places_of}
use Rattle.pp_value.specs.declared.keyed.Keyed.TheInside.{Inside}
use Rattle.pp_value.specs.declared.keyed.Keyed.TheView.{view, invariant}
use Rattle.pp_value.specs.contracts.keyed.Keyed as keyed
use Rattle.pp_value.specs.contracts.keyed.Keyed.TheInside as inside

-- a key beside an item
abbrev entry : Former {0} → Former {0}
entry item = pair (const (List ℕ)) item

abbrev pub the_former : Former {0} → Former {0}
the_former item = list (entry item)

abbrev pub the_weighed : {item : Former {0}} → Weighed item → Weighed (the_former item)
the_weighed weight = w_list (w_pair (w_const (List ℕ)) weight)

pub the_empty : List (List ℕ × ⊥)
the_empty = []

abbrev pub the_items : (X : Type 0) → List (List ℕ × X) → List X
the_items X pairs = map (λ p. p.1) pairs

pub the_items_listed : (X : Type 0) (pairs : List (List ℕ × X)) → listed _ (children (the_former this) X pairs) ≡ the_items X pairs
the_items_listed X [] = refl
the_items_listed X (p ∷ pairs) = ap (λ items. p.1 ∷ items) (the_items_listed X pairs)

-- the fields: the pairs, and the places of their keys
abbrev stored : Former {0}
stored = via (pair (vec.the_former (entry this) Global) (const (List (List ℕ × ℕ)))) Inside (λ X s. (s.pairs, s.places))
    (λ X v. record { pairs = v.0; places = v.1 }) (λ X s. refl) (λ X v. refl)

-- ---- other items under the same keys

module _ {X Y : Type 0} (h : X → Y) where
  abbrev on_item : List ℕ × X → List ℕ × Y
  on_item p = (p.0, h p.1)

  chosen : (t : Bool) (x : X) (o : Option X) (r : Option Y) → r ≡ option_map h o → cond t (Some (h x)) r ≡ option_map h (cond t (Some x) o)
  chosen true x o r e = refl
  chosen false x o r e = e

  value_on : (key : List ℕ) (pairs : List (List ℕ × X)) → value_at key (map on_item pairs) ≡ option_map h (value_at key pairs)
  value_on key [] = refl
  value_on key (p ∷ pairs) = chosen (bytes_eq p.0 key) p.1 (value_at key pairs) (value_at key (map on_item pairs)) (value_on key pairs)

  none_back : (o : Option X) → option_map h o ≡ None → o ≡ None
  none_back None e = refl
  none_back (Some x) e = cc

  distinct_on : (pairs : List (List ℕ × X)) → HasDistinctKeys pairs → HasDistinctKeys (map on_item pairs)
  distinct_on [] d = tt
  distinct_on (p ∷ pairs) d = (value_on p.0 pairs ∙ ap (option_map h) d.0, distinct_on pairs d.1)

  distinct_back : (pairs : List (List ℕ × X)) → HasDistinctKeys (map on_item pairs) → HasDistinctKeys pairs
  distinct_back [] d = tt
  distinct_back (p ∷ pairs) d = (none_back (value_at p.0 pairs) (sym (value_on p.0 pairs) ∙ d.0), distinct_back pairs d.1)

  places_on : (n : ℕ) (pairs : List (List ℕ × X)) → places_of n (map on_item pairs) ≡ places_of n pairs
  places_on n [] = refl
  places_on n (p ∷ pairs) = ap (λ places. (p.0, n) ∷ places) (places_on (n + 1) pairs)

module _ (R S : RattleType) (h : R.Denot → S.Denot) where
  distinct-prop : (T : RattleType) (pairs : List (List ℕ × T.Denot)) → IsProp (HasDistinctKeys pairs)
  distinct-prop T [] = Unit-prop
  distinct-prop T (p ∷ pairs) = ×_prop (Coded-set (coded_option T.coded) _ _) (distinct-prop T pairs)

  inside-prop : (T : RattleType) (pairs : List (List ℕ × T.Denot)) (places : List (List ℕ × ℕ))
      → IsProp (HasDistinctKeys pairs × (places ≡ places_of 0 pairs))
  inside-prop T pairs places = ×_prop (distinct-prop T pairs) (Coded-set (coded_list (coded× (coded_list coded_ℕ) coded_ℕ)) _ _)

  abbrev pair_row : RattleType → RattleType
  pair_row T = Tuple (text.the_row ∷ T ∷ [])

  pair_places : Alike R S h → Alike (pair_row R) (pair_row S) (on_item h)
  pair_places alike = struct_places (tuple_type (text.the_row ∷ R ∷ [])) (tuple_type (text.the_row ∷ S ∷ []))
      (λ n. n, (h, tt)) (on_item h) (λ d. refl) refl
      ((refl, (λ n. refl, λ n. refl)), (laid _ _ _ alike, tt))

  pub the_places : Alike R S h → Alike (keyed.the_row R) (keyed.the_row S) ((the_former this).map R.Denot S.Denot h)
  the_places alike =
      let vec_alike = vec.the_places global.the_row ghosts (pair_row R) (pair_row S) (on_item h) (pair_places alike) in
      view_places stored (list (entry this)) view (λ X Y k u. refl) (λ X u. refl) R.Denot S.Denot h
      (keyed.the_row R).coded (keyed.the_row S).coded
      (invariant R.Denot) (invariant S.Denot) (λ u. inside-prop R u.pairs.items u.places) (λ u. inside-prop S u.pairs.items u.places)
      (λ u d. (distinct_on h u.pairs.items d.0, d.1 ∙ sym (places_on h 0 u.pairs.items)))
      (λ u d. (distinct_back h u.pairs.items d.0, d.1 ∙ places_on h 0 u.pairs.items))
      (over (inside.the_row R)) (over (inside.the_row S))
      (struct_places (inside.the_type R) (inside.the_type S) (vec.mapped (on_item h), (λ n. n, tt)) _ (λ d. refl) refl
      (laid _ _ _ vec_alike, ((refl, (λ n. refl, λ n. refl)), tt)))

  pub the_codes_placed : Recodes R S h → Recodes (keyed.the_row R) (keyed.the_row S) ((the_former this).map R.Denot S.Denot h)
  the_codes_placed same pairs = sym
      (code_map (coded× (coded_list coded_ℕ) R.coded).code (coded× (coded_list coded_ℕ) S.coded).code (on_item h)
      (λ x i. gcons ((coded_list coded_ℕ).code x.0) (sym (same x.1) i)) pairs)
