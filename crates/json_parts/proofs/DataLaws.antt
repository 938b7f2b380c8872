-- JSON that is read as of one kind is of it.
use Rattle.std.proofs.Common.{◌≡◌, ℕ, true, List, Option, Some, None, ap, sym, eqb-true}
use Rattle.std.proofs.lemmas.Option.{none-some, same_Some}
use Rattle.std.proofs.lemmas.Bool.{true≢false}
use Rattle.serde_json.specs.Data.{Data, Num, null, boolean, number, unsigned, negative, float, string, array, object, Items, Members}
use Rattle.rh_base.specs.Reading.{◌>>=◌}
use Rattle.serde_json.specs.Find.{as_object, as_array, as_str, as_number, as_u64}
use Rattle.json_parts.specs.Versions.{is_one, has_version}

-- what is read as an object is one
pub object_is : (d : Data) (members : Members) → as_object d ≡ Some members → d ≡ object members
object_is null members h = absurd (none-some members h)
object_is (boolean b) members h = absurd (none-some members h)
object_is (number n) members h = absurd (none-some members h)
object_is (string s) members h = absurd (none-some members h)
object_is (array items) members h = absurd (none-some members h)
object_is (object found) members h = ap object (same_Some found members h)

-- what is read as an array is one
pub array_is : (d : Data) (items : Items) → as_array d ≡ Some items → d ≡ array items
array_is null items h = absurd (none-some items h)
array_is (boolean b) items h = absurd (none-some items h)
array_is (number n) items h = absurd (none-some items h)
array_is (string s) items h = absurd (none-some items h)
array_is (array found) items h = ap array (same_Some found items h)
array_is (object found) items h = absurd (none-some items h)

-- what is read as a text is one
pub string_is : (d : Data) (text : List ℕ) → as_str d ≡ Some text → d ≡ string text
string_is null text h = absurd (none-some text h)
string_is (boolean b) text h = absurd (none-some text h)
string_is (number n) text h = absurd (none-some text h)
string_is (string s) text h = ap string (same_Some s text h)
string_is (array found) text h = absurd (none-some text h)
string_is (object found) text h = absurd (none-some text h)

-- a number that is told to be 1 is there and is 1
one_is : (o : Option ℕ) → is_one o ≡ true → o ≡ Some 1
one_is None h = absurd (true≢false (sym h))
one_is (Some n) h = ap (λ m. Some m) (eqb-true n 1 h)

-- JSON that gives a whole number is that number
number_is : (d : Data) (n : ℕ) → (as_number d >>= as_u64) ≡ Some n → d ≡ number (unsigned n)
number_is null n h = absurd (none-some n h)
number_is (boolean b) n h = absurd (none-some n h)
number_is (number (unsigned m)) n h = ap (λ k. number (unsigned k)) (same_Some m n h)
number_is (number (negative z)) n h = absurd (none-some n h)
number_is (number (float x)) n h = absurd (none-some n h)
number_is (string s) n h = absurd (none-some n h)
number_is (array items) n h = absurd (none-some n h)
number_is (object _) n h = absurd (none-some n h)

-- a version that is told to be right is the number 1
pub version_is : (o : Option Data) → has_version o ≡ true → o ≡ Some (number (unsigned 1))
version_is None h = absurd (true≢false (sym h))
version_is (Some d) h = ap (λ e. Some e) (number_is d 1 (one_is (as_number d >>= as_u64) h))
