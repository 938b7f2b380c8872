use Rattle.order_places.proofs.Placing.{whole, other, bounded}
use Rattle.order_places.proofs.places.Goals as goal

pub returns-clause-whole : goal.returns-clause-whole
returns-clause-whole c = λ order j h. whole j order h

pub returns-clause-exchanged : goal.returns-clause-exchanged
returns-clause-exchanged c = λ order j h. other j order h

pub returns-clause-free : goal.returns-clause-free
returns-clause-free c = λ n before order j h one two. (bounded n before order j h one two).0

pub returns-clause-below : goal.returns-clause-below
returns-clause-below c = λ n before order j h one two. let b = bounded n before order j h one two in (b.1, b.2)
