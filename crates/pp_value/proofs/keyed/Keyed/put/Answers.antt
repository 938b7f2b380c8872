-- That pairs with distinct keys stay so, and places are those of the keys.
use Rattle.std.proofs.Common.{◌≡◌, ℕ, sym, ap, ◌∙◌, subst, List, Result, Ok, Err, OnOk, OnErr}
use Rattle.rh_base.specs.declared.text.NoMemory.{NoMemory}
use Rattle.pp_value.specs.Keys.{HasDistinctKeys, with_pair, places_of}
use Rattle.pp_value.proofs.Distinct.{distinct_with}
use Rattle.pp_value.proofs.keyed.Keyed.put.Goals as goal

-- keys stay distinct and places right, whether the item was put or memory was refused
stays : {X : Type 0} (key : List ℕ) (x : X) (pairs new : List (List ℕ × X)) (places after : List (List ℕ × ℕ)) (r : Result (Unit {0}) NoMemory) → HasDistinctKeys pairs × (places ≡ places_of 0 pairs)
    → OnOk r (new ≡ with_pair key x pairs) → OnOk r (after ≡ places_of 0 new) → OnErr r (new ≡ pairs) → OnErr r (after ≡ places) → HasDistinctKeys new × (after ≡ places_of 0 new)
stays key x pairs new places after (Ok done) h a b c d = (subst HasDistinctKeys (sym a) (distinct_with key x pairs h.0), b)
stays key x pairs new places after (Err m) h a b c d = (subst HasDistinctKeys (sym c) h.0, d ∙ (h.1 ∙ ap (places_of 0) (sym c)))

pub invariant_of-self : goal.invariant_of-self
invariant_of-self g c =
    stays c.args.key c.args.item c.self.inside.pairs.items c.put_pair.new.pairs.items c.self.inside.places c.put_pair.new.places c.put_pair.result c.self.invariant
    c.put_pair.ensures.pairs_ok c.put_pair.ensures.places_ok c.put_pair.ensures.pairs_err c.put_pair.ensures.places_err
