-- How a `Boxed` keeps its value, so that a type may reach itself through it: as that value alone.
use mathlib.Core.Path.{refl}
use mathlib.Core.Former.{Former, this, const, pair, via}
use base.Stored.{gnil}
use base.Fml.{ftrue}
use denote.RattleType.{RattleType}
use denote.Memory.{part_of}
use denote.RawPtr.{Ptr}
use denote.Sharing.{nothing}
use denote.HoleLaws.{Alike}
use denote.HolePlaces.{Recodes, struct_places, laid, one_value}
use denote.Hole.Fix.{over}
use denote.Param.Weighed.{Weighed}
use denote.Model.Placed.{view_places}
use Rattle.std.specs.declared.alloc.Global.{Global}
use Rattle.std.specs.contracts.alloc.Global as global
use Rattle.std.specs.contracts.impls.GlobalAllocator.TheImpl.{ghosts}
use Rattle.std.specs.declared.boxed.Box.{Box}
use Rattle.std.specs.contracts.boxed.Box as std_box
use Rattle.rh_base.specs.declared.boxed.Boxed.TheInside.{Inside}
use Rattle.rh_base.specs.declared.boxed.Boxed.TheView.{view, invariant}
use Rattle.rh_base.specs.contracts.boxed.Boxed as boxed
use Rattle.rh_base.specs.contracts.boxed.Boxed.TheInside as inside

abbrev pub the_former : Former {0} → Former {0}
the_former value = value

abbrev pub the_weighed : {value : Former {0}} → Weighed value → Weighed (the_former value)
the_weighed weight = weight

-- where the value lies, and the value
abbrev stored : Former {0}
stored = via (pair (const (Ptr × Global)) this) Inside (λ X s. ((s.value.ptr, s.value.alloc), s.value.value))
    (λ X v. record { value = record { ptr = v.0.0; alloc = v.0.1; value = v.1 } }) (λ X s. refl) (λ X v. refl)

-- the same place, with another value in it
abbrev holding : {X Y : Type 0} → Box X Global → Y → Box Y Global
holding place y = record { ptr = place.ptr; alloc = place.alloc; value = y }

abbrev row_of : RattleType → RattleType
row_of R = std_box.the_row R global.the_row ghosts

module _ (R S : RattleType) (h : R.Denot → S.Denot) where
  box_alike : Alike R S h → Alike (row_of R) (row_of S) (λ b. holding b (h b.value))
  unfolding part_of
  box_alike alike = record {
    mir_same = λ i. (row_of (one_value R (alike.mir_same i) (λ _. ftrue) (λ _ _. nothing) gnil)).mir;
    own_same = λ b i. (row_of
        (one_value R (alike.mir_same i) (alike.own_same b.value i) (alike.shr_same b.value i) gnil)).own_val
        (holding b tt);
    shr_same = λ b i. (row_of
        (one_value R (alike.mir_same i) (alike.own_same b.value i) (alike.shr_same b.value i) gnil)).shr_at
        (holding b tt);
  }

  pub the_places : Alike R S h → Alike (boxed.the_row R) (boxed.the_row S) ((the_former this).map R.Denot S.Denot h)
  the_places alike = view_places stored this view (λ X Y k u. refl) (λ X u. refl) R.Denot S.Denot h
      (boxed.the_row R).coded (boxed.the_row S).coded
      (invariant R.Denot) (invariant S.Denot) (λ u p q. refl) (λ u p q. refl) (λ u e. tt) (λ u e. tt)
      (over (inside.the_row R)) (over (inside.the_row S))
      (struct_places (inside.the_type R) (inside.the_type S) ((λ b. holding b (h b.value)), tt) _ (λ d. refl) refl
      (laid _ _ _ (box_alike alike), tt))

  pub the_codes_placed : Recodes R S h → Recodes (boxed.the_row R) (boxed.the_row S) ((the_former this).map R.Denot S.Denot h)
  the_codes_placed same value = same value
