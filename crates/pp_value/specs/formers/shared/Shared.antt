-- How a `Shared` keeps its items, so that a type may reach itself through it: as a list of them.
use mathlib.Core.Path.{◌≡◌, refl, sym}
use mathlib.Core.List.{List, [], map}
use mathlib.Core.Former.{Former, this, const, pair, list, via, children}
use base.Stored.{gnil, code_map}
use base.Fml.{ftrue}
use denote.RattleType.{RattleType}
use denote.Memory.{part_of}
use denote.RawPtr.{Ptr}
use denote.Sharing.{nothing}
use denote.HoleLaws.{Alike}
use denote.HolePlaces.{Recodes, struct_places, laid, one_value}
use denote.Hole.Carrier.{listed, list-listed}
use denote.Hole.Fix.{over}
use denote.Param.Weighed.{Weighed, w_list}
use denote.Model.Placed.{view_places}
use Rattle.std.specs.declared.alloc.Global.{Global}
use Rattle.std.specs.contracts.alloc.Global as global
use Rattle.std.specs.contracts.impls.GlobalAllocator.TheImpl.{ghosts}
use Rattle.std.specs.declared.rc.Rc.{Rc}
use Rattle.std.specs.contracts.rc.Rc as std_rc
use Rattle.rh_base.specs.contracts.seq.Seq as seq
use Rattle.rh_base.specs.formers.seq.Seq as of_seq
use Rattle.pp_value.specs.declared.shared.Shared.TheInside.{Inside}
use Rattle.pp_value.specs.declared.shared.Shared.TheView.{view, invariant}
use Rattle.pp_value.specs.contracts.shared.Shared as shared
use Rattle.pp_value.specs.contracts.shared.Shared.TheInside as inside

abbrev pub the_former : Former {0} → Former {0}
the_former item = list item

abbrev pub the_weighed : {item : Former {0}} → Weighed item → Weighed (the_former item)
the_weighed weight = w_list weight

abbrev pub the_empty : List ⊥
the_empty = []

abbrev pub the_items : (X : Type 0) → List X → List X
the_items X items = items

pub the_items_listed : (X : Type 0) (items : List X) → listed _ (children (the_former this) X items) ≡ the_items X items
the_items_listed X items = list-listed X items

-- where the list lies, and its items
abbrev stored : Former {0}
stored = via (pair (const Ptr) (list this)) Inside (λ X s. (s.items.ptr, s.items.value))
    (λ X v. record { items = record { ptr = v.0; value = v.1 } }) (λ X s. refl) (λ X v. refl)

-- the same place, with another value in it
abbrev holding : {X Y : Type 0} → Rc X Global → Y → Rc Y Global
holding place y = record { ptr = place.ptr; value = y }

abbrev row_of : RattleType → RattleType
row_of R = std_rc.the_row R global.the_row ghosts

module _ (R S : RattleType) (h : R.Denot → S.Denot) where
  rc_alike : Alike R S h → Alike (row_of R) (row_of S) (λ r. holding r (h r.value))
  unfolding part_of
  rc_alike alike = record {
    mir_same = λ i. (row_of (one_value R (alike.mir_same i) (λ _. ftrue) (λ _ _. nothing) gnil)).mir;
    own_same = λ r i. (row_of
        (one_value R (alike.mir_same i) (alike.own_same r.value i) (alike.shr_same r.value i) gnil)).own_val
        (holding r tt);
    shr_same = λ r i. (row_of
        (one_value R (alike.mir_same i) (alike.own_same r.value i) (alike.shr_same r.value i) gnil)).shr_at
        (holding r tt);
  }

module _ (R S : RattleType) (h : R.Denot → S.Denot) where
  pub the_places : Alike R S h → Alike (shared.the_row R) (shared.the_row S) ((the_former this).map R.Denot S.Denot h)
  the_places alike =
      let items_alike = rc_alike (seq.the_row R) (seq.the_row S) (map h) (of_seq.the_places R S h alike) in
      view_places stored (list this) view (λ X Y k u. refl) (λ X u. refl) R.Denot S.Denot h
      (shared.the_row R).coded (shared.the_row S).coded
      (invariant R.Denot) (invariant S.Denot) (λ u p q. refl) (λ u p q. refl) (λ u e. tt) (λ u e. tt)
      (over (inside.the_row R)) (over (inside.the_row S))
      (struct_places (inside.the_type R) (inside.the_type S) ((λ r. holding r (map h r.value)), tt) _ (λ d. refl) refl
      (laid _ _ _ items_alike, tt))

  pub the_codes_placed : Recodes R S h → Recodes (shared.the_row R) (shared.the_row S) ((the_former this).map R.Denot S.Denot h)
  the_codes_placed same items = sym (code_map R.coded.code S.coded.code h (λ x. sym (same x)) items)
