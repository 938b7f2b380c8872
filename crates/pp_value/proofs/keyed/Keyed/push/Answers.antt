-- That a key which no pair has goes last.
use Rattle.std.proofs.Common.{◌≡◌, ℕ, ◌∙◌, List, [], ◌∷◌, ◌++◌, None, Result, Ok, Err, OnOk}
use Rattle.rh_base.specs.declared.text.NoMemory.{NoMemory}
use Rattle.pp_value.specs.Keys.{value_at, with_pair}
use Rattle.pp_value.proofs.PlaceLaws.{new_last}
use Rattle.pp_value.proofs.keyed.Keyed.push.Goals as goal

-- where a new key takes an item, it goes last
pushed : {X : Type 0} (key : List ℕ) (x : X) (pairs new : List (List ℕ × X)) (r : Result (Unit {0}) NoMemory) → value_at key pairs ≡ None → OnOk r (new ≡ with_pair key x pairs) → OnOk r (new ≡ pairs ++ (key, x) ∷ [])
pushed key x pairs new (Ok done) none h = h ∙ new_last key x pairs none
pushed key x pairs new (Err m) none h = tt

pub returns-clause-ok : goal.returns-clause-ok
returns-clause-ok g c = pushed c.args.key c.args.item c.args.self.now c.put.new.self c.put.result c.requires c.put.ensures.ok
