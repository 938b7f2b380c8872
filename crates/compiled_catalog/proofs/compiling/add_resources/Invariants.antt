use Rattle.compiled_catalog.proofs.Growing.{IsUnderway}
use Rattle.compiled_catalog.proofs.compiling.add_resources.Given as goal

-- the catalog has the resources so far, and with those that are left it is that of all
abbrev pub invariant-loop-place : goal.invariant-loop-place
invariant-loop-place l = IsUnderway l.compiled l.place l.catalog
