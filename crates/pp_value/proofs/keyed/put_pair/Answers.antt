-- That a new key goes last among pairs and places.
use Rattle.std.proofs.Common.{◌≡◌, ℕ, ap, sym, ◌∙◌, List, [], ◌∷◌, ◌++◌, length, None, Result, Ok, Err, OnOk}
use Rattle.rh_base.specs.declared.text.NoMemory.{NoMemory}
use Rattle.pp_value.specs.Keys.{place_among, places_of, with_pair}
use Rattle.pp_value.proofs.PlaceLaws.{is_below, put_there, put_last, places_written, new_last, none_found}
use Rattle.pp_value.proofs.keyed.put_pair.Goals as goal

pub set_item-requires : goal.set_item-requires
set_item-requires g c =
    is_below c.args.key c.args.pairs.now.items c.args.places.now c.in-Some.place c.requires (ap (λ k. place_among k c.args.places.now) (sym c.as_str.ensures) ∙ (sym c.find.ensures ∙ c.in-Some.is))

pub returns-in-Some-clause-pairs_ok : goal.returns-in-Some-clause-pairs_ok
returns-in-Some-clause-pairs_ok g c =
    c.set_item.ensures
    ∙ put_there c.args.key c.args.item c.args.pairs.now.items c.args.places.now c.in-Some.place c.requires (ap (λ k. place_among k c.args.places.now) (sym c.as_str.ensures) ∙ (sym c.find.ensures ∙ c.in-Some.is))

pub returns-in-Some-clause-places_ok : goal.returns-in-Some-clause-places_ok
returns-in-Some-clause-places_ok g c = c.requires ∙ (sym (places_written 0 c.in-Some.place c.args.item c.args.pairs.now.items) ∙ ap (places_of 0) (sym c.set_item.ensures))

module _ {X : Type 0} (key : List ℕ) (x : X) (pairs new : List (List ℕ × X)) (places after : List (List ℕ × ℕ)) (same : places ≡ places_of 0 pairs) (none : place_among key places ≡ None) where
  -- the pair that goes last is that of a new key
  pairs_put : (r : Result (Unit {0}) NoMemory) → OnOk r (new ≡ pairs ++ (key, x) ∷ []) → OnOk r (new ≡ with_pair key x pairs)
  pairs_put (Ok done) h = h ∙ sym (new_last key x pairs (none_found key pairs places same none))
  pairs_put (Err m) h = tt

  -- the place that goes last is that of the new key
  places_put : (r : Result (Unit {0}) NoMemory) → OnOk r (new ≡ pairs ++ (key, x) ∷ []) → OnOk r (after ≡ places ++ (key, length pairs) ∷ []) → OnOk r (after ≡ places_of 0 new)
  places_put (Ok done) h k = k ∙ (put_last key x pairs places same none ∙ ap (places_of 0) (sym h))
  places_put (Err m) h k = tt

pub returns-in-None-clause-pairs_ok : goal.returns-in-None-clause-pairs_ok
returns-in-None-clause-pairs_ok g c =
    pairs_put c.args.key c.args.item c.args.pairs.now.items c.push_new.new.pairs.items c.args.places.now c.push_new.new.places c.requires (ap (λ k. place_among k c.args.places.now) (sym c.as_str.ensures) ∙ (sym c.find.ensures ∙ c.in-None.is)) c.push_new.result c.push_new.ensures.pairs_ok

pub returns-in-None-clause-places_ok : goal.returns-in-None-clause-places_ok
returns-in-None-clause-places_ok g c =
    places_put c.args.key c.args.item c.args.pairs.now.items c.push_new.new.pairs.items c.args.places.now c.push_new.new.places c.requires (ap (λ k. place_among k c.args.places.now) (sym c.as_str.ensures) ∙ (sym c.find.ensures ∙ c.in-None.is)) c.push_new.result c.push_new.ensures.pairs_ok c.push_new.ensures.places_ok
